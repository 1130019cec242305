use Rattle.std.proofs.Common.{◌≡◌, ◌+◌, ◌∙◌, length, ap, subst, arith}
use Rattle.std.proofs.lemmas.List.{length_push}
use Rattle.std.proofs.lemmas.Result.{err_from_is_err_and}
use Rattle.patch_frame.specs.Geometry.{slot_count}
use Rattle.patch_recovery.specs.Reading.{ledger_in, slot_tests}
use Rattle.patch_index.specs.Index.{told}
use Rattle.patch_store.specs.Opening.{nothing, AreScanned, IsFirstOf, index_tests}
use Rattle.patch_store.proofs.Tested.{fault_among, passed_on}
use Rattle.patch_store.proofs.Scanned.{scanned_more}
use Rattle.patch_store.proofs.scanning.read_slots.Goals as goal

pub returns-in_err-entry-clause-read : goal.returns-in_err-entry-clause-read
returns-in_err-entry-clause-read g c blocks cache extents =
    let l = ledger_in c.args.geometry blocks in
    let scanned = c.loop-slot.invariant.1 blocks cache extents in
    let p = err_from_is_err_and c.from_residual.result c.from_residual.ensures.1 in
    let less = c.loop-slot-test.true in
    let count = c.slot_count-count.ensures in
    passed_on c.from_residual.result _ (IsFirstOf (index_tests c.args.geometry blocks)) c.in_err-entry.field-0.0 p.0 p.1 p.2
    (fault_among (slot_tests l blocks) nothing (slot_count c.args.geometry) c.loop-slot.slot c.in_err-entry.field-0.0 (omega (arith, less, count))
    scanned.pass (c.in_err-entry.ensures blocks cache extents scanned.say))

pub loop-slot-preserved : goal.loop-slot-preserved
loop-slot-preserved g c = (
  ap length c.in-Ok-push.ensures.pushed ∙ length_push c.loop-slot.index (told c.in_ok-entry.entry) ∙ ap (λ n. n + 1) c.loop-slot.invariant.0,
  λ blocks cache extents.
      let scanned = c.loop-slot.invariant.1 blocks cache extents in
      scanned_more (ledger_in c.args.geometry blocks) blocks c.loop-slot.index c.push.new.self c.loop-slot.slot (told c.in_ok-entry.entry) scanned
      (c.in_ok-entry.ensures blocks cache extents scanned.say) c.in-Ok-push.ensures.pushed,
)

pub returns-clause-read : goal.returns-clause-read
returns-clause-read g c = λ blocks cache extents.
    let scanned = c.loop-slot.invariant.1 blocks cache extents in
    let last : c.loop-slot.slot ≡ slot_count c.args.geometry = let done = c.loop-slot-test.false in let count = c.slot_count-count.ensures in omega arith in
    subst (λ n. AreScanned (ledger_in c.args.geometry blocks) blocks c.loop-slot.index n) last scanned
