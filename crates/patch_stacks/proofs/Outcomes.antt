-- What is told of a call by how it ends.
use Rattle.std.proofs.Common.{◌≡◌, ◌∙◌, ℕ, List, Bool, true, false, not, ap, refl, Result, Ok, Err}
use Rattle.std.proofs.lemmas.Bool.{false≢true}
use Rattle.std.specs.Prelude.{IsErr, OnOk, OnErr}
use Rattle.patch_stacks.specs.State.{Block}
use Rattle.patch_records.specs.Records.{Class, is_takeable}

module _ {T E : Type 0} where
  -- a call that is refused tells nothing of what is done
  pub refused-done : (r : Result T E) (P : Type 0) → IsErr r → OnOk r P
  refused-done (Ok x) P is = absurd (false≢true is)
  refused-done (Err e) P is = tt

  -- what holds in any case holds of a refusal
  pub refused-still : (r : Result T E) (P : Type 0) → P → OnErr r P
  refused-still (Ok x) P h = tt
  refused-still (Err e) P h = h

  -- what is told of a call that is done, told further
  pub done-then : (r : Result T E) (P Q : Type 0) → (P → Q) → OnOk r P → OnOk r Q
  done-then (Ok x) P Q then h = then h
  done-then (Err e) P Q then h = tt

-- a block with the records that it had
pub same-block : (bytes : List ℕ) (old new : List Class) (was : Block) → new ≡ old → (let b : Block = record { bytes = bytes; classes = old } in b) ≡ was
    → (let b : Block = record { bytes = bytes; classes = new } in b) ≡ was
same-block bytes old new was same is = ap (λ cs. let b : Block = record { bytes = bytes; classes = cs } in b) same ∙ is

-- a class in memory that isn't taken can be, where it isn't hard
pub takeable-soft : (c : Class) (hard : Bool) → c.flying ≡ false → c.taken ≡ false → c.hard ≡ hard → is_takeable c ≡ not hard
takeable-soft c hard grounded off is = by-cases hard is
  where
    by-cases : (h : Bool) → c.hard ≡ h → is_takeable c ≡ not h
    by-cases true at = rw (grounded, off, at) refl
    by-cases false at = rw (grounded, off, at) refl
