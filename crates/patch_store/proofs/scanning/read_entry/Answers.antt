use Rattle.std.proofs.Common.{◌≡◌, ◌∙◌, true, false, sym, ap, arith}
use Rattle.std.specs.Prelude.{nat_le, ◌+◌}
use Rattle.std.proofs.lemmas.Bool.Decides.{nat_tests}
use Rattle.patch_frame.specs.Frame.{frame_at}
use Rattle.patch_frame.specs.Geometry.{value_limit, largest_pointer}
use Rattle.patch_frame.specs.Slot.{used_fields}
use Rattle.patch_recovery.specs.Ledger.{is_frame_of}
use Rattle.patch_recovery.specs.Reading.{ledger_in}
use Rattle.patch_store.proofs.Scanned.{names_if, frame_good, frame_bad}
use Rattle.patch_store.proofs.scanning.read_entry.Goals as goal

pub returns-then-not-is_frame_of-clause-read : goal.returns-then-not-is_frame_of-clause-read
returns-then-not-is_frame_of-clause-read g c blocks cache extents =
    let l = ledger_in c.args.extents.now.geometry blocks in
    let f = used_fields c.args.named.now in
    let place = c.in_ok-bytes.ensures blocks cache extents in
    let limit = c.value_limit.ensures ∙ ap value_limit (sym c.requires.extents) in
    let is = c.is_frame_of.ensures.value ∙ ap (λ b. is_frame_of f (frame_at c.value_limit.result b)) c.deref.ensures.value
    ∙ ap (λ n. is_frame_of f (frame_at n c.in_ok-bytes.bytes.items)) limit in
    frame_bad l c.args.slot f place.known (names_if l f c.in_ok-bytes.bytes.items place ∙ sym is ∙ c.if-not-is_frame_of.true)

pub returns-then-not-ends_within-clause-read : goal.returns-then-not-ends_within-clause-read
returns-then-not-ends_within-clause-read g c blocks cache extents =
    let inside = (c.in_ok-bytes.ensures blocks cache extents).inside in
    let same = ap largest_pointer c.requires.extents in
    let t : nat_le (c.args.named.now.offset + c.args.named.now.length) (largest_pointer c.args.format) ≡ true = grind (arith, nat_tests, inside, same) in
    let both : true ≡ false = sym t ∙ sym c.ends_within.ensures ∙ c.if-not-ends_within.true in
    absurd cc

pub returns-clause-read : goal.returns-clause-read
returns-clause-read g c blocks cache extents =
    let l = ledger_in c.args.extents.now.geometry blocks in
    let f = used_fields c.args.named.now in
    let place = c.in_ok-bytes.ensures blocks cache extents in
    let limit = c.value_limit.ensures ∙ ap value_limit (sym c.requires.extents) in
    let is = c.is_frame_of.ensures.value ∙ ap (λ b. is_frame_of f (frame_at c.value_limit.result b)) c.deref.ensures.value
    ∙ ap (λ n. is_frame_of f (frame_at n c.in_ok-bytes.bytes.items)) limit in
    frame_good l c.args.slot f place.known (names_if l f c.in_ok-bytes.bytes.items place ∙ sym is ∙ c.if-not-is_frame_of.false)
