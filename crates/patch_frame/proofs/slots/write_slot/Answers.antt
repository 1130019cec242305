use Rattle.std.proofs.Common.{◌≡◌, ◌≤◌, ◌∙◌, ap, subst, length, arith}
use Rattle.std.proofs.lemmas.Result.{IfOk-weaker}
use Rattle.patch_frame.specs.Field.{zeros}
use Rattle.patch_frame.specs.Slot.{fields, used_fields, used_spelling, Fits, FitsUsed}
use Rattle.patch_frame.specs.declared.slots.SlotState.{SlotState}
use Rattle.patch_frame.proofs.Parts.{length-zeros}
use Rattle.patch_frame.proofs.SlotFields.{length-used_spelling}
use Rattle.patch_frame.proofs.slots.write_slot.Goals as goal

pub returns-in-Empty-clause-length : goal.returns-in-Empty-clause-length
returns-in-Empty-clause-length g c = IfOk-weaker c.empty_bytes.result (λ bytes. bytes.items ≡ zeros 64) (λ bytes. length bytes.items ≡ 64) (λ bytes h. ap length h ∙ length-zeros 64) c.empty_bytes.ensures

pub returns-in-Used-clause-length : goal.returns-in-Used-clause-length
returns-in-Used-clause-length g c =
    let s = used_fields c.in-Used.slot in
    let fits : FitsUsed 131120 s = subst (λ (state : SlotState). Fits 131120 (fields state)) c.in-Used.is c.requires in
    let short : length s.key ≤ 48 = omega (arith, fits.short_key) in
    IfOk-weaker c.used_bytes.result (λ bytes. bytes.items ≡ used_spelling s) (λ bytes. length bytes.items ≡ 64) (λ bytes h. ap length h ∙ length-used_spelling s short) c.used_bytes.ensures
