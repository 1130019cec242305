use Rattle.std.proofs.Common.{refl, sym, ap, subst, length, ◌∙◌}
use Rattle.patch_graph.specs.State.{KeysFit}
use Rattle.patch_graph.specs.Marks.{AreClear}
use Rattle.patch_graph.proofs.Rooms.{long_as, put-back}
use Rattle.patch_graph.proofs.queries.reaches.Goals as goal

pub reaches_exactly-requires-clause-fits : goal.reaches_exactly-requires-clause-fits
reaches_exactly-requires-clause-fits g c = subst (KeysFit c.args.register.now.slots) (sym c.scratch.view_is ∙ ap length (sym c.as_mut_slice.ensures.value)) c.requires.fits

pub reaches_exactly-requires-clause-queue_fits : goal.reaches_exactly-requires-clause-queue_fits
reaches_exactly-requires-clause-queue_fits g c = long_as _ _ _ _ (ap length c.as_mut_slice.ensures.value) (ap length c.as_mut_slice-2.ensures.value) c.scratch.invariant.0

pub reaches_exactly-requires-clause-clear : goal.reaches_exactly-requires-clause-clear
reaches_exactly-requires-clause-clear g c = subst AreClear (sym c.as_mut_slice.ensures.value) c.scratch.invariant.3

pub invariant_of-scratch : goal.invariant_of-scratch
invariant_of-scratch g c =
    let was = c.scratch.invariant in
    let many-queue = c.reaches_exactly.auto.queue ∙ c.as_mut_slice-2.ensures.len in
    let marks = put-back c.reaches_exactly.new.marks _ _ (c.reaches_exactly.auto.marks ∙ c.as_mut_slice.ensures.len) in
    let long = ap length marks ∙ c.reaches_exactly.auto.marks ∙ ap length c.as_mut_slice.ensures.value in
    let long-queue = ap length (put-back c.reaches_exactly.new.queue _ _ many-queue) ∙ c.reaches_exactly.auto.queue ∙ ap length c.as_mut_slice-2.ensures.value in
    (long_as _ _ _ _ long long-queue was.0, long_as _ _ _ _ long refl was.1, was.2, subst AreClear (sym marks) c.reaches_exactly.ensures.cleared, was.4)
