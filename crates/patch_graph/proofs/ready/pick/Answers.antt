use Rattle.std.proofs.Common.{arith, refl, sym, ◌∙◌}
use Rattle.patch_graph.proofs.Settling.{picked-none, picked-one, picked-not, picked-all}
use Rattle.patch_graph.proofs.ready.pick.Goals.{then-picks, else-picks}
use Rattle.patch_graph.proofs.ready.pick.Goals as goal

pub loop-key-init : goal.loop-key-init
loop-key-init g c = picked-none _ _ _ _ c.requires.clear

pub loop-key-preserved : goal.loop-key-preserved
loop-key-preserved g c =
    elim c.if-picks.branch [
      | then-picks w ↦ rw (w.marks-is, w.put_mark.ensures) (picked-one _ _ _ _ _ _ _ c.requires.fits refl (sym c.picks.ensures ∙ w.if-picks.true) c.loop-key.invariant)
      | else-picks w ↦ rw w.marks-is (picked-not _ _ _ _ _ _ _ refl (sym c.picks.ensures ∙ w.if-picks.false) c.loop-key.invariant)
    ]

pub returns-clause-picked : goal.returns-clause-picked
returns-clause-picked g c = picked-all _ _ _ _ _ _ (omega arith) c.requires.complete c.loop-key.invariant
