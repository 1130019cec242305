-- A call on a handle says what the call on its engine says.
use Rattle.std.proofs.Common.{◌≡◌, ℤ, sym, subst}
use Rattle.std.specs.Prelude.{IfSome, Option, Some}
use Rattle.std.specs.Global.{Global}
use Rattle.patch_engine.specs.declared.engines.Engine.{Engine}
use Rattle.patch_handles.specs.declared.answers.Answer.{Answer}
use Rattle.patch_handles.specs.Answering.{number_of}
use Rattle.patch_engine_c.specs.declared.handle.Handle.{Handle}
use Rattle.patch_engine_c.specs.declared.opened.Opened.{Opened}
use Rattle.patch_engine_c.specs.Handle.{Between, OfCache}

-- by the number of the answer
pub told_so : (old new : Handle) (before after : Opened) (Said : ℤ → Engine Global → Engine Global → Type 0) (number : ℤ) (answer : Answer)
    → Some before ≡ old.sealed.opened → new.sealed.opened ≡ Some after → number ≡ number_of answer → Said (number_of answer) before.engine after.engine
    → Between old new (Said number)
told_so old new before after Said number answer was is told said =
    subst (λ o. IfSome o (λ b. IfSome new.sealed.opened (λ a. Said number b.engine a.engine))) was
    (subst (λ (n : Option Opened). IfSome n (λ a. Said number before.engine a.engine)) (sym is)
    (subst (λ n. Said n before.engine after.engine) (sym told) said))

-- of a call that leaves the engine as it is
pub read_so : (old : Handle) (before : Opened) (Said : ℤ → Engine Global → Type 0) (number : ℤ) (answer : Answer) → Some before ≡ old.sealed.opened
    → number ≡ number_of answer → Said (number_of answer) before.engine → OfCache old (Said number)
read_so old before Said number answer was told said =
    subst (λ o. IfSome o (λ b. Said number b.engine)) was (subst (λ n. Said n before.engine) (sym told) said)
