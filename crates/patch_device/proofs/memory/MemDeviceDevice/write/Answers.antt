use Rattle.std.proofs.Common.{◌≡◌, length, arith, ◌∙◌, ap}
use Rattle.std.proofs.lemmas.List.Elements.{All-set}
use Rattle.std.proofs.lemmas.Grind.{common_steps}
use Rattle.patch_model.specs.declared.blocks.TheConstants.{BLOCK}
use Rattle.patch_device.specs.Writes.{after_one_more}
use Rattle.patch_device.proofs.memory.MemDeviceDevice.write.Goals as goal

-- the block's new bytes are as many as its old ones
pub invariant_of-self-2-clause-whole : goal.invariant_of-self-2-clause-whole
invariant_of-self-2-clause-whole g c =
    All-set (λ block. length block ≡ BLOCK) _ _ _ (ap length c.overwrite.ensures ∙ c.requires) c.args.self.now.whole

pub invariant_of-self-2-clause-replayed : goal.invariant_of-self-2-clause-replayed
invariant_of-self-2-clause-replayed g c = grind (arith, common_steps, after_one_more, c.args.self.now.replayed)
