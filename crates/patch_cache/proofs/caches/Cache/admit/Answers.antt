use Rattle.std.proofs.Common.{◌≡◌, ◌∙◌, ◌<◌, ◌≤◌, false, Result, Ok, Err, None, Some, length, map, sym, ap, subst, arith}
use Rattle.std.specs.Result.{OnOk, is_err}
use Rattle.std.specs.Prelude.{count_by, is_some, slice_index_or, slice_set}
use Rattle.std.proofs.lemmas.List.{length-map}
use Rattle.patch_model.specs.StepOf.{step_of}
use Rattle.patch_model.specs.History.{history_of}
use Rattle.patch_cache.specs.Contents.{Contents, is_resident, state_in, write_in}
use Rattle.patch_cache.specs.Meaning.{IsPagedCacheOf}
use Rattle.patch_cache.proofs.Clean.{admitted, admitted_is, admitted_count, none_of_row}
use Rattle.patch_cache.proofs.Residency.{contents_of, not_there, places_kept}
use Rattle.patch_cache.proofs.caches.Cache.admit.Goals as goal

room_made : {X E : Type 0} (r : Result X E) (P : Type 0) → OnOk r P → is_err r ≡ false → P
room_made (Ok x) P made fine = made
room_made (Err e) P made fine = absurd (cc)

pub put-requires-clause-room : goal.put-requires-clause-room
put-requires-clause-room g c = room_made c.reserve.result _ c.reserve.ensures.room (sym c.is_err.ensures.value ∙ c.if-is_err.false)

pub put-requires-clause-absent : goal.put-requires-clause-absent
put-requires-clause-absent g c = none_of_row _ (ap (λ rs. is_some (slice_index_or rs c.block.inside.0 None)) c.reserve.ensures.same ∙ sym c.contains.ensures ∙ c.if-contains.false)

pub invariant_of-self-2 : goal.invariant_of-self-2
invariant_of-self-2 g c =
    let rows = c.self.inside.rows.items in
    let now = c.put.ensures ∙ ap (λ rs. slice_set rs c.block.inside.0 (Some c.of.result)) c.reserve.ensures.same in
    let kept = places_kept rows c.block.inside.0 (Some c.of.result) c.self.invariant.0 in
    let count = admitted_count rows c.block.inside.0 c.of.result (sym c.contains.ensures ∙ c.if-contains.false) c.of.ensures.write in (
      subst (λ rs. length rs ≤ 16777216) (sym now) kept,
      c.self.invariant.1 ∙ sym count ∙ sym (ap (λ rs. count_by is_some (map write_in rs)) now),
      c.self.invariant.2,
    )

pub returns-clause-admitted : goal.returns-clause-admitted
returns-clause-admitted g c =
    let now = c.put.ensures ∙ ap (λ rs. slice_set rs c.block.inside.0 (Some c.of.result)) c.reserve.ensures.same in
    ap (λ rs. contents_of rs c.self.inside.graph c.self.inside.sends c.self.inside.live (map step_of c.self.inside.trace.items)) now
    ∙ admitted_is c.self.inside.rows.items _ _ _ _ c.block.inside.0 c.args.block c.of.result c.args.bytes c.args.self.now c.self.view_is c.block.view_is (sym c.contains.ensures ∙ c.if-contains.false) c.of.ensures.state c.of.ensures.write

pub returns-clause-answer : goal.returns-clause-answer
returns-clause-answer g c = λ run at same.
    let now = c.put.ensures ∙ ap (λ rs. slice_set rs c.block.inside.0 (Some c.of.result)) c.reserve.ensures.same in
    let is = ap (λ rs. contents_of rs c.self.inside.graph c.self.inside.sends c.self.inside.live (map step_of c.self.inside.trace.items)) now
    ∙ admitted_is c.self.inside.rows.items _ _ _ _ c.block.inside.0 c.args.block c.of.result c.args.bytes c.args.self.now c.self.view_is c.block.view_is (sym c.contains.ensures ∙ c.if-contains.false) c.of.ensures.state c.of.ensures.write in
    let absent : is_resident c.args.self.now c.args.block ≡ false = not_there c.args.self.now _ _ _ _ _ _ c.args.block c.self.view_is c.block.view_is (sym c.contains.ensures ∙ c.if-contains.false) in
    let known : c.args.block < length c.args.self.now.blocks =
    let below = c.if-block-len.false in let len = c.len.ensures in let place : c.block.inside.0 ≡ c.args.block = c.block.view_is in
    let view = ap (λ (v : Contents). length v.blocks) c.self.view_is in let long = length-map c.self.inside.rows.items state_in in
    omega (arith, below, len, place, view, long) in
    let placed : c.args.block < length run.first = let count = at.count in omega (arith, known, count) in
    let coherent = c.blocks_are_coherent.ensures.coherent (history_of run c.args.block) c.args.block (c.executions_are_orderly.ensures.blocks run c.args.block at.legal placed) in
    subst (λ (v : Contents). IsPagedCacheOf v run) (sym is) (admitted c.args.self.now c.args.block c.args.bytes run at known absent coherent same)
