use Rattle.std.proofs.Common.{ap, refl, sym, subst, arith, length, ◌∙◌}
use Rattle.patch_graph.specs.State.{KeysFit}
use Rattle.patch_graph.specs.Marks.{is_marked, AreClear}
use Rattle.patch_graph.proofs.Places.{ok-more}
use Rattle.patch_graph.proofs.Rooms.{long_as, put-back}
use Rattle.patch_graph.proofs.Settling.{first-held}
use Rattle.patch_graph.proofs.ReadySet.{ready_numbers}
use Rattle.patch_graph.proofs.queries.numbers_searched.Goals as goal

pub mark_ready-requires-clause-complete : goal.mark_ready-requires-clause-complete
mark_ready-requires-clause-complete g c =
    let wide = c.scratch.invariant.0 in
    let view = c.scratch.view_is in
    let same = ap length c.as_mut_slice-keys.ensures.value in
    let kept = c.list_keys.ensures.length in
    first-held c.args.register.now.slots c.args.block c.list_keys.new.keys c.list_keys.ensures.keys (λ key d at. let low = c.requires key d at in omega arith)

pub returns-clause-answer : goal.returns-clause-answer
returns-clause-answer g c = ok-more c.marked_numbers-found.result _ _ c.marked_numbers-found.ensures
    (λ ns h all r ring. ready_numbers c.ready_is_largest.ensures.only c.args.register.now all c.args.block c.list_keys.new.keys c.mark_ready.new.marks (is_marked c.mark_ready.new.marks) ns.items r (λ key i. refl) c.mark_ready.ensures.held c.mark_ready.ensures.largest h)

pub mark_ready-requires-clause-fits : goal.mark_ready-requires-clause-fits
mark_ready-requires-clause-fits g c = subst (KeysFit c.args.register.now.slots) (sym c.scratch.view_is ∙ ap length (sym c.as_mut_slice-marks.ensures.value)) c.requires

pub mark_ready-requires-clause-clear : goal.mark_ready-requires-clause-clear
mark_ready-requires-clause-clear g c = subst AreClear (sym c.as_mut_slice-marks.ensures.value) c.scratch.invariant.3

pub invariant_of-scratch : goal.invariant_of-scratch
invariant_of-scratch g c =
    let was = c.scratch.invariant in
    let same = c.clear.ensures.length ∙ c.mark_ready.ensures.length in
    let many-keys = c.list_keys.ensures.length ∙ c.as_mut_slice-keys.ensures.len in
    let marks = put-back c.clear.new.marks _ _ (same ∙ c.as_mut_slice-marks.ensures.len) in
    let long = ap length marks ∙ same ∙ ap length c.as_mut_slice-marks.ensures.value in
    let long-keys = ap length (put-back c.list_keys.new.keys _ _ many-keys) ∙ c.list_keys.ensures.length ∙ ap length c.as_mut_slice-keys.ensures.value in
    (long_as _ _ _ _ long long-keys was.0, long_as _ _ _ _ long refl was.1, was.2, subst AreClear (sym marks) c.clear.ensures.clear, was.4)
