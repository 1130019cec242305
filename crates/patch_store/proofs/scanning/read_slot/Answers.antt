use Rattle.std.proofs.Common.{◌≡◌, ℕ, ◌<◌, ◌∙◌, List, length, Some, None, Ok, sym, ap, subst, arith}
use Rattle.std.proofs.lemmas.Result.{err_from_is_err_and}
use Rattle.patch_frame.specs.declared.geometries.Geometry.{Geometry}
use Rattle.patch_frame.specs.Geometry.{slot_count, slot_block, block_count}
use Rattle.patch_frame.specs.Slot.{Fits, fields, used_fields}
use Rattle.patch_recovery.specs.Reading.{ledger_in, slot_tests}
use Rattle.patch_plans.specs.Extents.{Extents}
use Rattle.patch_plans.specs.Meaning.{AreExtentsOf}
use Rattle.patch_store.specs.Opening.{unchanged, IsFirstOf, IsScanned, NoneHolds, frame_tests}
use Rattle.patch_store.proofs.Tested.{passed_on}
use Rattle.patch_store.proofs.Scanned.{slot_there, slot_says, slot_misspelled, slot_empty, slot_refuses, slot_repeats, slot_passes, key_found}
use Rattle.patch_store.proofs.scanning.read_slot.Goals as goal

-- the slot lies on the disk
there : (extents : Extents) (g : Geometry) (blocks : List (List ℕ)) (slot : ℕ) → extents.geometry ≡ g → AreExtentsOf extents (unchanged blocks)
    → slot < slot_count g → slot_block slot < length blocks
there extents g blocks slot is represents within =
    let low = slot_there g slot within in
    let count : length blocks ≡ block_count g = represents.blocks ∙ ap block_count is in
    omega (arith, low, count)

pub returns-in_default : goal.returns-in_default
returns-in_default g c blocks cache extents lower =
    let on = there c.args.extents.now c.args.geometry blocks c.args.slot c.requires.extents extents c.requires.within in
    let at : c.slot_block.result < length blocks = subst (λ n. n < length blocks) (sym c.slot_block.ensures) on in
    absurd (c.in_default.ensures.bytes blocks cache at c.slot_start-start.ensures.within)

pub read_slot_within-requires : goal.read_slot_within-requires
read_slot_within-requires g c = c.in-Some.ensures.long

pub returns-in_default-read_slot_within : goal.returns-in_default-read_slot_within
returns-in_default-read_slot_within g c blocks cache extents lower =
    let on = there c.args.extents.now c.args.geometry blocks c.args.slot c.requires.extents extents c.requires.within in
    let at : c.slot_block.result < length blocks = subst (λ n. n < length blocks) (sym c.slot_block.ensures) on in
    slot_misspelled c.args.geometry blocks c.args.slot c.slot_block.result c.slot_start-start.result c.longest_frame.result c.in-Some.bytes.now
    c.in_default-read_slot_within.field-0 c.slot_block.ensures c.slot_start-start.ensures.value c.longest_frame.ensures
    (c.in-Some.ensures.bytes blocks cache at c.slot_start-start.ensures.within) c.in_default-read_slot_within.ensures.exact

pub returns-in_default-state : goal.returns-in_default-state
returns-in_default-state g c blocks cache extents lower =
    let on = there c.args.extents.now c.args.geometry blocks c.args.slot c.requires.extents extents c.requires.within in
    let at : c.slot_block.result < length blocks = subst (λ n. n < length blocks) (sym c.slot_block.ensures) on in
    slot_empty c.args.geometry blocks c.args.slot c.requires.within
    (slot_says c.args.geometry blocks c.args.slot c.slot_block.result c.slot_start-start.result c.longest_frame.result c.in-Some.bytes.now None
    c.slot_block.ensures c.slot_start-start.ensures.value c.longest_frame.ensures
    (c.in-Some.ensures.bytes blocks cache at c.slot_start-start.ensures.within) (c.in-Ok.ensures.exact ∙ ap (λ s. Ok (fields s)) c.in_default-state.is))

pub read_entry-requires-clause-format : goal.read_entry-requires-clause-format
read_entry-requires-clause-format g c = c.requires.geometry.format

pub read_entry-requires-clause-extents : goal.read_entry-requires-clause-extents
read_entry-requires-clause-extents g c = ap (λ (x : Geometry). x.format) c.requires.extents

pub read_entry-requires-clause-key : goal.read_entry-requires-clause-key
read_entry-requires-clause-key g c = (subst (λ s. Fits c.longest_frame.result (fields s)) c.in-Used.is c.in-Ok.ensures.found.0).short_key

pub returns-in_err-entry : goal.returns-in_err-entry
returns-in_err-entry g c blocks cache extents lower =
    let f = used_fields c.in-Used.named in
    let p = err_from_is_err_and c.from_residual.result c.from_residual.ensures.1 in
    let on = there c.args.extents.now c.args.geometry blocks c.args.slot c.requires.extents extents c.requires.within in
    let at : c.slot_block.result < length blocks = subst (λ n. n < length blocks) (sym c.slot_block.ensures) on in
    let is = c.in-Some.ensures.bytes blocks cache at c.slot_start-start.ensures.within in
    let said = slot_says c.args.geometry blocks c.args.slot c.slot_block.result c.slot_start-start.result c.longest_frame.result c.in-Some.bytes.now (Some f)
    c.slot_block.ensures c.slot_start-start.ensures.value c.longest_frame.ensures is (c.in-Ok.ensures.exact ∙ ap (λ s. Ok (fields s)) c.in-Used.is) in
    passed_on c.from_residual.result _ (IsFirstOf (slot_tests (ledger_in c.args.geometry blocks) blocks c.args.slot)) c.in_err-entry.field-0.0 p.0 p.1 p.2
    (slot_refuses c.args.geometry blocks c.args.slot f c.in_err-entry.field-0.0 c.requires.within said
    (subst (λ (x : Geometry). IsFirstOf (frame_tests (ledger_in x blocks) c.args.slot f) c.in_err-entry.field-0.0) c.requires.extents
    (c.in_err-entry.ensures.read blocks cache extents)))

pub returns-then-is_some : goal.returns-then-is_some
returns-then-is_some g c blocks cache extents lower =
    let f = used_fields c.in-Used.named in
    let on = there c.args.extents.now c.args.geometry blocks c.args.slot c.requires.extents extents c.requires.within in
    let at : c.slot_block.result < length blocks = subst (λ n. n < length blocks) (sym c.slot_block.ensures) on in
    let is = c.in-Some.ensures.bytes blocks cache at c.slot_start-start.ensures.within in
    let said = slot_says c.args.geometry blocks c.args.slot c.slot_block.result c.slot_start-start.result c.longest_frame.result c.in-Some.bytes.now (Some f)
    c.slot_block.ensures c.slot_start-start.ensures.value c.longest_frame.ensures is (c.in-Ok.ensures.exact ∙ ap (λ s. Ok (fields s)) c.in-Used.is) in
    let pass = subst (λ (x : Geometry). NoneHolds (frame_tests (ledger_in x blocks) c.args.slot f)) c.requires.extents (c.in_ok-entry.ensures.read blocks cache extents) in
    slot_repeats c.args.geometry blocks c.args.slot f c.requires.within said pass
    (sym (key_found (ledger_in c.args.geometry blocks) c.args.slot c.in-Used.named.key.now c.args.lower.now c.slot_of.result lower c.slot_of.ensures)
    ∙ sym c.is_some.ensures ∙ c.if-is_some.true)

pub returns : goal.returns
returns g c blocks cache extents lower =
    let f = used_fields c.in-Used.named in
    let on = there c.args.extents.now c.args.geometry blocks c.args.slot c.requires.extents extents c.requires.within in
    let at : c.slot_block.result < length blocks = subst (λ n. n < length blocks) (sym c.slot_block.ensures) on in
    let is = c.in-Some.ensures.bytes blocks cache at c.slot_start-start.ensures.within in
    let said = slot_says c.args.geometry blocks c.args.slot c.slot_block.result c.slot_start-start.result c.longest_frame.result c.in-Some.bytes.now (Some f)
    c.slot_block.ensures c.slot_start-start.ensures.value c.longest_frame.ensures is (c.in-Ok.ensures.exact ∙ ap (λ s. Ok (fields s)) c.in-Used.is) in
    let pass = subst (λ (x : Geometry). NoneHolds (frame_tests (ledger_in x blocks) c.args.slot f)) c.requires.extents (c.in_ok-entry.ensures.read blocks cache extents) in
    subst (λ x. IsScanned (ledger_in c.args.geometry blocks) blocks c.args.slot (Some x)) (sym c.in_ok-entry.ensures.fields)
    (slot_passes c.args.geometry blocks c.args.slot f c.requires.within said pass
    (sym (key_found (ledger_in c.args.geometry blocks) c.args.slot c.in-Used.named.key.now c.args.lower.now c.slot_of.result lower c.slot_of.ensures)
    ∙ sym c.is_some.ensures ∙ c.if-is_some.false))
