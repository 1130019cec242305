-- What is told of a call by how it ends.
use Rattle.std.proofs.Common.{◌≡◌, false, Option, Some, None, Result, Ok, Err, refl, sym, subst}
use Rattle.std.proofs.lemmas.Bool.{false≢true}
use Rattle.std.specs.Prelude.{is_err, IsErr, IsErrAnd, IfOk, IfErr, OnOk, OnErr}
use Rattle.patch_model.specs.declared.refusals.RefusalKind.TheVariants as kind
use Rattle.patch_model.specs.declared.refusals.Refusal.{Refusal as Cause}
use Rattle.patch_model.specs.Refusing.{bare}
use Rattle.patch_cache.specs.Refusals.{IsCause}

module _ {T E : Type 0} where
  -- a call that is refused tells nothing of what is done
  pub refused-done : (r : Result T E) (P : Type 0) → IsErr r → OnOk r P
  refused-done (Ok x) P is = absurd (false≢true is)
  refused-done (Err e) P is = tt

  -- what follows from what is done
  pub done-then : (r : Result T E) (P Q : Type 0) → (P → Q) → OnOk r P → OnOk r Q
  done-then (Ok x) P Q f h = f h
  done-then (Err e) P Q f h = tt

  pub done-from : (r : Result T E) (P : T → Type 0) (Q : Type 0) → ((x : T) → P x → Q) → IfOk r P → OnOk r Q
  done-from (Ok x) P Q f h = f x h
  done-from (Err e) P Q f h = tt

  pub done-always : (r : Result T E) (P : T → Type 0) → ((x : T) → P x) → IfOk r P
  done-always (Ok x) P h = h x
  done-always (Err e) P h = tt

  -- what is told of a call that isn't refused
  pub done-sure : (r : Result T E) (P : Type 0) → false ≡ is_err r → OnOk r P → P
  done-sure (Ok x) P is h = h
  done-sure (Err e) P is h = absurd (false≢true is)

  -- what holds in any case holds of a refusal
  pub refused-still : (r : Result T E) (P : Type 0) → P → OnErr r P
  refused-still (Ok x) P h = tt
  refused-still (Err e) P h = h

  -- what holds of the cause is told of the refusal
  pub refused-told : (r : Result T E) (e : E) (P : E → Type 0) → IsErrAnd r (λ f. f ≡ e) → P e → IfErr r P
  refused-told (Ok x) e P is h = absurd is
  refused-told (Err f) e P is h = subst P (sym is) h

-- the first cause is told
pub caused : (why : Option Cause) (cause : Cause) → Some cause ≡ why → IsCause why cause
caused why cause is = subst (λ w. IsCause w cause) is refl

-- where there is none, memory is lacking
pub lacking : (why : Option Cause) → None ≡ why → IsCause why (bare kind.OutOfMemory)
lacking why none = subst (λ w. IsCause w (bare kind.OutOfMemory)) none refl
