use Rattle.std.proofs.Common.{arith, refl, sym, ◌∙◌}
use Rattle.patch_graph.proofs.Settling.{part-none, part-struck, part-kept, round-at}
use Rattle.patch_graph.proofs.ready.strike.Goals.{then-is_unmet, else-is_unmet}
use Rattle.patch_graph.proofs.ready.strike.Goals as goal

pub loop-key-init : goal.loop-key-init
loop-key-init g c = part-none _ _ _ _

pub loop-key-preserved : goal.loop-key-preserved
loop-key-preserved g c =
    elim c.if-is_unmet.branch [
      | then-is_unmet w ↦ rw (w.marks-is, w.changed-is, w.take_mark.ensures) (part-struck _ _ _ _ _ _ _ _ c.loop-key.invariant (sym c.is_unmet.ensures ∙ w.if-is_unmet.true))
      | else-is_unmet w ↦ rw (w.marks-is, w.changed-is) (part-kept _ _ _ _ _ _ _ _ refl c.loop-key.invariant (sym c.is_unmet.ensures ∙ w.if-is_unmet.false))
    ]

pub returns : goal.returns
returns g c = round-at _ _ _ _ _ _ _ (omega arith) c.requires c.loop-key.invariant
