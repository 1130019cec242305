use Rattle.std.proofs.Common.{◌≡◌, ◌<◌, ◌+◌, ◌∙◌, ℕ, List, [], None, Some, length, map, refl, sym, ap, subst, arith}
use Rattle.std.specs.Prelude.{count_by, slice_index_or}
use Rattle.std.specs.List.Sorted.{IsNonDecreasing}
use Rattle.std.proofs.lemmas.List.{length-append, length-map}
use Rattle.patch_model.specs.StepOf.{step_of}
use Rattle.patch_model.specs.Entry.{Entry, is_live}
use Rattle.patch_model.specs.Execution.{Execution, extended}
use Rattle.patch_model.specs.History.{History, HoldsDependents, history_of, image, without}
use Rattle.patch_model.specs.Legal.{IsLegal, IsLegalStep}
use Rattle.patch_model.specs.Orderly.{IsOrderly}
use Rattle.patch_model.specs.Ready.{ready}
use Rattle.patch_model.specs.State.{state_of, entries_of, after_step, sent, numbers_of, flying_of}
use Rattle.patch_model.specs.Step.{Send}
use Rattle.patch_view.specs.History.{MayDepart, undoable_classes}
use Rattle.patch_view.specs.Meaning.{IsBlockOf}
use Rattle.patch_graph.specs.Meaning.{IsGraphOf}
use Rattle.patch_graph.specs.Between.{HasNoRing}
use Rattle.patch_cache.specs.Contents.{Contents, Resident, is_resident, write_in}
use Rattle.patch_cache.specs.Meaning.{IsCacheBy, IsWriteOf}
use Rattle.patch_cache.proofs.Departing.{may_depart}
use Rattle.patch_cache.proofs.Residency.{as_many, at_block, block_of_row, both_changed, places_kept, row_inside, row_stands, writes_set}
use Rattle.patch_cache.proofs.Underway.{one_more}
use Rattle.patch_cache.proofs.Stepping.{lent, begun_fits, next_sends}
use Rattle.patch_cache.proofs.Writing.{IsStepOf, stepped, sent_here, sent_other}
use Rattle.patch_cache.proofs.caches.Cache.begin.Goals as goal

pub row_mut-row-requires : goal.row_mut-row-requires
row_mut-row-requires g c = row_stands c.args.self.now _ _ _ _ _ _ c.args.block c.self.view_is c.block.view_is c.requires.resident

pub returns-clause-begun : goal.returns-clause-begun
returns-clause-begun g c = λ whole run at may.
    let why = may.0 in
    let numbers = may.1 in
    let block : ℕ = c.args.block in
    let all : List Entry = entries_of run in
    let set : List Entry = ready all block in
    let next : Execution = extended run (Send block) in
    let h : History = history_of run block in
    let after : History = history_of next block in
    let lawful : (block < length run.first) × IsLegalStep (length run.first) (state_of run) (Send block) = (c.pairs_merge.ensures.sent run block).0 why in
    let legal : IsLegal next = c.steps_extend.ensures.legal run (Send block) at.legal lawful.1 in
    let state : state_of next ≡ after_step (state_of run) (Send block) = c.steps_extend.ensures.state run (Send block) in
    let entries : entries_of next ≡ map (sent set) all = ap (λ st. st.entries) state in
    let seen = subst (λ (v : Contents). IsCacheBy whole v run) (sym c.self.view_is) at in
    let largest = c.ready_is_largest.ensures.largest all block (c.ready_is_largest.ensures.made run) in
    let value = c.row_mut-row.ensures.value ∙ ap (λ r. Some r) (sym c.row.view_is) in
    let there = block_of_row c.self.inside.rows.items block _ (at_block c.self.inside.rows.items c.block.inside.0 block _ c.block.view_is value) in
    let here : IsBlockOf c.row.inside.state [] h = lent whole _ block c.row.inside.state run there seen in
    let slice : c.as_slice-2.result.now ≡ numbers_of set = c.as_slice-2.ensures.value ∙ numbers in
    let rising : IsNonDecreasing c.as_slice-2.result.now = subst IsNonDecreasing (sym slice) (c.classes_have_names.ensures.rising run block) in
    let may : MayDepart h c.as_slice-2.result.now set = subst (λ ns. MayDepart h ns set) (sym slice)
    (may_depart all block h.first (c.executions_are_orderly.ensures.patches run at.legal) largest (λ e i. c.classes_have_names.ensures.ready run block e at.legal i)) in
    let flies : IsBlockOf c.depart_each.new.self [] after =
    subst (λ es. IsBlockOf c.depart_each.new.self [] (record h { entries = es })) (sym (c.steps_change_blocks.ensures.sent run block block))
    (c.depart_each.ensures.answer h set here rising may) in
    let holds : HoldsDependents after (undoable_classes after) × (without after (undoable_classes after) ≡ image after) =
    c.image_is_without.ensures.send run block
    (c.blocks_are_coherent.ensures.coherent h block (c.executions_are_orderly.ensures.blocks run block at.legal lawful.0))
    (c.blocks_are_coherent.ensures.coherent after block (c.executions_are_orderly.ensures.blocks next block legal lawful.0))
    (c.sends_leave.ensures.holds run block at.legal lawful.1.0) in
    let copied : c.from_vec-2.result ≡ image after = c.from_vec-2.ensures ∙ c.copy_image.ensures.copied after flies holds.0 ∙ holds.1 in
    let ring : HasNoRing all = λ x y apart to back. c.paths_form_no_ring.ensures.back run x y at.legal to back in
    let graph : IsGraphOf c.mark_flight.new.self (entries_of next) = subst (IsGraphOf c.mark_flight.new.self) (sym entries)
    (c.mark_flight.ensures.answer all seen.graph ring (subst IsOrderly entries (c.executions_are_orderly.ensures.patches next legal))) in
    let sends : c.saturating_add-self-inside.result ≡ (state_of next).sends =
    next_sends _ _ _ _ c.saturating_add-self-inside.ensures (ap (λ st. st.sends) state) seen.sends (c.executions_are_limited.ensures.sends run at.legal) in
    let counted : c.self.inside.live ≡ count_by is_live (entries_of next) = seen.live ∙ sym (c.live_are_counted.ensures.sent run block) in
    let noted : c.in_ok-noted.noted ≡ numbers_of (flying_of (entries_of next) block) =
    c.in_ok-noted.ensures ∙ c.as_slice.ensures.value ∙ numbers ∙ sym (c.flights_are_ready.ensures.sent run block at.legal lawful.1.0) in
    let write : IsWriteOf next block (Some (record { sequence = c.self.inside.sends; numbers = c.in_ok-noted.noted })) =
    sent_here run block c.self.inside.sends c.in_ok-noted.noted state seen.sends noted in
    let is : IsStepOf run (Send block) block = record {
      known = lawful.0;
      legal = legal;
      others = λ other differ. c.steps_change_blocks.ensures.sent_elsewhere run block other differ;
      writes = λ other w differ. sent_other run block other w state differ (c.flights_are_ready.ensures.sent_elsewhere run block other (λ e. differ (sym e)));
    } in
    let under_way = Some (record { sequence = c.self.inside.sends; numbers = c.in_ok-noted.noted }) in
    let trace = map step_of c.push_reserved.new.self.items in
    let after = stepped whole run (Send block) _ block c.depart_each.new.self under_way c.mark_flight.new.self c.saturating_add-self-inside.result c.self.inside.live trace
    seen (as_many c.self.inside.rows.items) (ap (λ v. is_resident v block) c.self.view_is ∙ c.requires.resident) is flies write graph sends counted in (
      record { block_is = refl; sequence_is = seen.sends; numbers_are = c.from_vec.ensures ∙ numbers; image_is = copied },
      subst (λ (v : Contents). IsCacheBy whole v next)
          (sym (both_changed c.self.inside.rows.items c.mark_flight.new.self c.saturating_add-self-inside.result c.self.inside.live trace c.block.inside.0 block
          (record { state = c.depart_each.new.self; write = under_way }) c.block.view_is)) after,
    )

pub invariant_of-self-2 : goal.invariant_of-self-2
invariant_of-self-2 g c =
    let rows = c.self.inside.rows.items in
    let ws = map write_in rows in
    let row : Resident = record { state = c.depart_each.new.self; write = Some (record { sequence = c.self.inside.sends; numbers = c.in_ok-noted.noted }) } in
    let within : c.block.inside.0 < length ws = let there = row_inside rows c.block.inside.0 _ c.row_mut-row.ensures.value in let long = length-map rows write_in in omega (arith, there, long) in
    let none = ap (λ n. slice_index_or ws n None) c.block.view_is ∙ ap (λ (v : Contents). slice_index_or v.writes c.args.block None) c.self.view_is ∙ c.requires.not_under_way in
    let one = one_more ws c.block.inside.0 (record { sequence = c.self.inside.sends; numbers = c.in_ok-noted.noted }) within none in
    let set = writes_set rows c.block.inside.0 row in
    let counted = c.self.invariant.1 in
    let longer : length c.push_reserved.new.self.items ≡ length c.reserve.new.self.items + 1 = ap length c.push_reserved.ensures.items ∙ length-append c.reserve.new.self.items _ in (
      places_kept rows c.block.inside.0 (Some row) c.self.invariant.0,
      ap (λ n. n + 1) counted ∙ sym one ∙ sym set,
      begun_fits _ _ _ c.self.inside.under_way _ _ c.reserve.new.self.ok.0 longer c.in_ok-reserve.ensures.ok c.push_reserved.ensures.capacity,
    )
