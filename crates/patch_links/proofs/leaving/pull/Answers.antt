use Rattle.std.proofs.Common.{refl, sym, ◌∙◌}
use Rattle.patch_links.proofs.Withdrawals.{holds-raised, ready-raised, leaves-then, leaves-else}
use Rattle.patch_links.proofs.leaving.pull.Goals as goal

pub leave-requires : goal.leave-requires
leave-requires g c = rw c.raise.ensures (record {
  here = ready-raised c.args.block c.args.key c.args.nodes.now.slots (sym c.is_ready-ready.ensures ∙ c.if-ready.true);
  holds = holds-raised c.args.block c.args.key c.args.nodes.now.slots c.args.list.now c.requires;
})

pub returns-then-ready : goal.returns-then-ready
returns-then-ready g c = leaves-then _ _ _ _ _ _ (sym c.is_ready-ready.ensures ∙ c.if-ready.true) (rw c.raise.ensures at c.leave.ensures.changed) c.leave.ensures.left

pub returns-else-ready : goal.returns-else-ready
returns-else-ready g c = leaves-else _ _ _ _ _ _ (sym c.is_ready-ready.ensures ∙ c.if-ready.false) c.raise.ensures refl
