use Rattle.std.proofs.Common.{◌≡◌, ℕ, List, [], ◌∷◌, ◌++◌, Some, length, arith, ap, ◌∙◌, sym}
use Rattle.std.specs.Prelude.{slice_set}
use Rattle.std.proofs.lemmas.List.Elements.{All-set}
use Rattle.std.proofs.lemmas.Grind.{common_steps}
use Rattle.patch_model.specs.declared.blocks.TheConstants.{BLOCK}
use Rattle.patch_device.specs.Blocks.{zeros}
use Rattle.patch_device.proofs.Caching.{more_written, more_lands, synced_write}
use Rattle.patch_device.proofs.volatile.VolatileDeviceDevice.write.Goals as goal

-- the block's new bytes are as many as its old ones
pub invariant_of-self-2-clause-whole : goal.invariant_of-self-2-clause-whole
invariant_of-self-2-clause-whole g c =
    All-set (λ block. length block ≡ BLOCK) _ _ _ (ap length c.overwrite.ensures ∙ c.requires) c.args.self.now.whole

pub invariant_of-self-2-clause-replayed : goal.invariant_of-self-2-clause-replayed
invariant_of-self-2-clause-replayed g c =
    let more : c.push.new.self.items ≡ c.args.self.now.events.items ++ Some (c.args.n, c.args.from.now) ∷ [] = grind (arith, common_steps, c.in-Ok.ensures) in
    ap (λ (bytes : List ℕ). slice_set c.args.self.now.written.items c.args.n bytes) c.overwrite.ensures
    ∙ ap (λ (blocks : List (List ℕ)). slice_set blocks c.args.n c.args.from.now) c.args.self.now.replayed
    ∙ sym (more_written (zeros c.args.self.now.count) c.args.self.now.events.items c.push.new.self.items (c.args.n, c.args.from.now) more)

pub invariant_of-self-2-clause-last_sync : goal.invariant_of-self-2-clause-last_sync
invariant_of-self-2-clause-last_sync g c =
    let more : c.push.new.self.items ≡ c.args.self.now.events.items ++ Some (c.args.n, c.args.from.now) ∷ [] = grind (arith, common_steps, c.in-Ok.ensures) in
    synced_write (zeros c.args.self.now.count) c.args.self.now.events.items c.push.new.self.items c.args.self.now.synced (c.args.n, c.args.from.now) more c.args.self.now.last_sync

pub returns-clause-left : goal.returns-clause-left
returns-clause-left g c =
    let more : c.push.new.self.items ≡ c.args.self.now.events.items ++ Some (c.args.n, c.args.from.now) ∷ [] = grind (arith, common_steps, c.in-Ok.ensures) in
    more_lands (zeros c.args.self.now.count) c.args.self.now.events.items c.push.new.self.items (c.args.n, c.args.from.now) more
