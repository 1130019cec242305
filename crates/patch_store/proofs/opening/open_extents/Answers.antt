use Rattle.std.proofs.Common.{◌≡◌, ◌∙◌, true, refl, ap, subst}
use Rattle.patch_recovery.specs.Reading.{bad_pointers}
use Rattle.patch_extent.specs.Answers.{tells_bad}
use Rattle.patch_store.specs.Opening.{unchanged}
use Rattle.patch_store.proofs.Scanned.{cached_unchanged}
use Rattle.patch_store.proofs.opening.open_extents.Goals as goal

pub returns-in-Ok-clause-opened : goal.returns-in-Ok-clause-opened
returns-in-Ok-clause-opened g c blocks cache = (c.in-Ok.ensures.opened (unchanged blocks) cache).represents refl

pub returns-in-Err-BadPointer-clause-opened : goal.returns-in-Err-BadPointer-clause-opened
returns-in-Err-BadPointer-clause-opened g c blocks cache =
    let told = c.in-Err-BadPointer.ensures.opened (unchanged blocks) cache in
    let bad : bad_pointers c.args.geometry blocks ≡ true =
    subst (λ x. bad_pointers c.args.geometry x ≡ true) (cached_unchanged blocks) (told ∙ ap tells_bad c.in-Err-BadPointer.field-0-is) in
    rw bad refl
