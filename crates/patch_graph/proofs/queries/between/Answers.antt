use Rattle.std.proofs.Common.{sym, ap, subst, length, ◌∙◌}
use Rattle.patch_graph.specs.State.{KeysFit}
use Rattle.patch_graph.specs.Marks.{AreClear}
use Rattle.patch_graph.proofs.Reaching.{has-keys, is_found}
use Rattle.patch_graph.proofs.LeastBetween.{newest_is}
use Rattle.patch_graph.proofs.LeavesBetween.{leaves_is}
use Rattle.patch_graph.proofs.Rooms.{long_as, put-back}
use Rattle.patch_graph.proofs.queries.between.Goals as goal

pub returns-in_default-clause-answer : goal.returns-in_default-clause-answer
returns-in_default-clause-answer g c all x y r no_ring la lb = absurd (is_found _ all c.args.b y r lb (sym c.in_default.ensures))

pub returns-then-is_newest-clause-answer : goal.returns-then-is_newest-clause-answer
returns-then-is_newest-clause-answer g c all x y r no_ring la lb = newest_is _ all c.args.b x y c.in-Some.to r lb (sym c.in-Some.ensures) (sym c.is_newest.ensures ∙ c.if-is_newest.true)

pub returns-in_default-find-clause-answer : goal.returns-in_default-find-clause-answer
returns-in_default-find-clause-answer g c all x y r no_ring la lb = absurd (is_found _ all c.args.a x r la (sym c.in_default-find.ensures))

pub returns-then-rests_on_leaves-clause-answer : goal.returns-then-rests_on_leaves-clause-answer
returns-then-rests_on_leaves-clause-answer g c all x y r no_ring la lb =
    leaves_is _ all c.args.a c.args.b x y c.in-Some-find.from c.in-Some.to r no_ring la lb (sym c.in-Some-find.ensures) (sym c.in-Some.ensures) (sym c.rests_on_leaves.ensures ∙ c.if-rests_on_leaves.true)

pub returns-clause-answer : goal.returns-clause-answer
returns-clause-answer g c all x y r no_ring la lb = c.least_between.ensures.answer c.args.a c.args.b (sym c.in-Some-find.ensures) (sym c.in-Some.ensures) all x y r no_ring la lb

pub returns-clause-absent : goal.returns-clause-absent
returns-clause-absent g c off = absurd (has-keys c.args.register.now.numbers c.args.a c.args.b c.in-Some-find.from c.in-Some.to (sym c.in-Some-find.ensures) (sym c.in-Some.ensures) off)

pub least_between-requires-clause-fits : goal.least_between-requires-clause-fits
least_between-requires-clause-fits g c = subst (KeysFit c.args.register.now.slots) (sym c.scratch.view_is ∙ ap length (sym c.as_mut_slice.ensures.value)) c.requires.fits

pub least_between-requires-clause-queue_fits : goal.least_between-requires-clause-queue_fits
least_between-requires-clause-queue_fits g c = long_as _ _ _ _ (ap length c.as_mut_slice.ensures.value) (ap length c.as_mut_slice-2.ensures.value) c.scratch.invariant.0

pub least_between-requires-clause-met_fit : goal.least_between-requires-clause-met_fit
least_between-requires-clause-met_fit g c = long_as _ _ _ _ (ap length c.as_mut_slice.ensures.value) (ap length c.as_mut_slice-3.ensures.value) c.scratch.invariant.1

pub least_between-requires-clause-found_fit : goal.least_between-requires-clause-found_fit
least_between-requires-clause-found_fit g c = long_as _ _ _ _ (ap length c.as_mut_slice-3.ensures.value) (ap length c.as_mut_slice-4.ensures.value) c.scratch.invariant.2

pub least_between-requires-clause-clear : goal.least_between-requires-clause-clear
least_between-requires-clause-clear g c = subst AreClear (sym c.as_mut_slice.ensures.value) c.scratch.invariant.3

pub least_between-requires-clause-clear_met : goal.least_between-requires-clause-clear_met
least_between-requires-clause-clear_met g c = subst AreClear (sym c.as_mut_slice-3.ensures.value) c.scratch.invariant.4

pub invariant_of-scratch : goal.invariant_of-scratch
invariant_of-scratch g c =
    let was = c.scratch.invariant in
    let many = c.least_between.auto.marks ∙ c.as_mut_slice.ensures.len in
    let many-queue = c.least_between.auto.queue ∙ c.as_mut_slice-2.ensures.len in
    let many-met = c.least_between.auto.met ∙ c.as_mut_slice-3.ensures.len in
    let many-found = c.least_between.auto.found ∙ c.as_mut_slice-4.ensures.len in
    let marks = put-back c.least_between.new.marks _ _ many in
    let met = put-back c.least_between.new.met _ _ many-met in
    let long = ap length marks ∙ c.least_between.auto.marks ∙ ap length c.as_mut_slice.ensures.value in
    let long-queue = ap length (put-back c.least_between.new.queue _ _ many-queue) ∙ c.least_between.auto.queue ∙ ap length c.as_mut_slice-2.ensures.value in
    let long-met = ap length met ∙ c.least_between.auto.met ∙ ap length c.as_mut_slice-3.ensures.value in
    let long-found = ap length (put-back c.least_between.new.found _ _ many-found) ∙ c.least_between.auto.found ∙ ap length c.as_mut_slice-4.ensures.value in (
      long_as _ _ _ _ long long-queue was.0,
      long_as _ _ _ _ long long-met was.1,
      long_as _ _ _ _ long-met long-found was.2,
      subst AreClear (sym marks) c.least_between.ensures.cleared,
      subst AreClear (sym met) c.least_between.ensures.cleared_met,
    )
