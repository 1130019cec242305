-- A call on a handle says what the call on its store says.
use Rattle.std.proofs.Common.{◌≡◌, ℤ, pos, sym, subst, refl}
use Rattle.std.specs.Prelude.{IfSome, Option, Some, None}
use Rattle.patch_handles.specs.declared.answers.Answer.{Answer}
use Rattle.patch_handles.specs.declared.answers.Answer.TheVariants.{Done, Refused, BufferTooSmall, Absent, NoSync, BadWriter, IsResident}
use Rattle.patch_c.specs.declared.handle.Handle.{Handle}
use Rattle.patch_c.specs.declared.opened.Opened.{Opened}
use Rattle.patch_handles.specs.Answering.{number_of}
use Rattle.patch_c.specs.Handle.{Between}
use Rattle.patch_handles.proofs.Codes.{code_rises}

pub between_so : (old new : Handle) (before after : Opened) (Said : Opened → Opened → Type 0) → Some before ≡ old.sealed.opened
    → new.sealed.opened ≡ Some after → Said before after → Between old new Said
between_so old new before after Said was is said =
    subst (λ o. IfSome o (λ b. IfSome new.sealed.opened (λ a. Said b a))) was
    (subst (λ (n : Option Opened). IfSome n (λ a. Said before a)) (sym is) said)

-- by its number
pub told_so : (old new : Handle) (before after : Opened) (Said : ℤ → Opened → Opened → Type 0) (number : ℤ) (answer : Answer)
    → Some before ≡ old.sealed.opened → new.sealed.opened ≡ Some after → number ≡ number_of answer → Said (number_of answer) before after
    → Between old new (Said number)
told_so old new before after Said number answer was is told said =
    between_so old new before after (Said number) was is (subst (λ n. Said n before after) (sym told) said)

-- of a call that leaves the store as it is
pub read_so : (old : Handle) (before : Opened) (Said : ℤ → Opened → Type 0) (number : ℤ) (answer : Answer) → Some before ≡ old.sealed.opened
    → number ≡ number_of answer → Said (number_of answer) before → IfSome old.sealed.opened (Said number)
read_so old before Said number answer was told said =
    subst (λ o. IfSome o (Said number)) was (subst (λ n. Said n before) (sym told) said)

pub each_some : {X : Type 0} (o : Option X) (P Q : X → Type 0) → ((x : X) → P x → Q x) → IfSome o P → IfSome o Q
each_some None P Q f said = tt
each_some (Some x) P Q f said = f x said

-- the number 0 is that of one answer
pub done_is : (answer : Answer) → number_of answer ≡ pos 0 → answer ≡ Done
done_is Done zero = refl
done_is (Refused kind) zero = absurd (code_rises kind (cc))
done_is BufferTooSmall zero = absurd (cc)
done_is Absent zero = absurd (cc)
done_is NoSync zero = absurd (cc)
done_is BadWriter zero = absurd (cc)
done_is IsResident zero = absurd (cc)
