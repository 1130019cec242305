-- Numbers below the one that all pending patches reach.
use Rattle.std.proofs.Common.{◌≡◌, ℕ, ◌+◌, ◌-◌, ◌<◌, ◌≤◌, inl, inr, Bool, false, List, [], ◌∷◌, refl, arith, filter}
use Rattle.std.specs.Prelude.{max, min, count_by}
use Rattle.std.specs.List.{range_with_len}
use Rattle.patch_model.specs.Member.{In}
use Rattle.patch_model.specs.declared.runs.Run.{Run}
use Rattle.patch_model.specs.Runs.{numbers_of}
use Rattle.patch_group.proofs.Pending.{none_more}
use Rattle.patch_group.proofs.Uniting.{range-In, numbers-In}

-- none of these passes
abbrev NonePass : (ℕ → Bool) → List ℕ → Type 0
NonePass p ns = (n : ℕ) → In ns n → p n ≡ false

-- none below this number does
abbrev pub NoneBelow : (ℕ → Bool) → ℕ → Type 0
NoneBelow p from = (n : ℕ) → n < from → p n ≡ false

none_counted : (p : ℕ → Bool) (ns : List ℕ) → NonePass p ns → count_by p ns ≡ 0
none_counted p [] none = refl
none_counted p (n ∷ ns) none = none_more p n ns (none n (inl refl)) (none_counted p ns (λ m i. none m (inr i)))

none_kept : (p : ℕ → Bool) (ns : List ℕ) → NonePass p ns → filter p ns ≡ []
none_kept p [] none = refl
none_kept p (n ∷ ns) none = let f : p n ≡ false = none n (inl refl) in rw f (none_kept p ns (λ m i. none m (inr i)))

-- a run that ends below it has none
run_below : (p : ℕ → Bool) (from : ℕ) (r : Run) → NoneBelow p from → r.last < from → NonePass p (numbers_of r)
run_below p from r none less n i = let h = numbers-In r n i in none n (omega (arith, h.1, less))

-- and no other has one before it
front_below : (p : ℕ → Bool) (from first start : ℕ) → NoneBelow p from → start ≡ max first from → NonePass p (range_with_len first (start - first))
front_below p from first start none is n i = let h = range-In first (start - first) n i in none n (omega (arith, h.0, h.1, is))

pub run_counted : (p : ℕ → Bool) (from : ℕ) (r : Run) → NoneBelow p from → r.last < from → count_by p (numbers_of r) ≡ 0
run_counted p from r none less = none_counted p (numbers_of r) (run_below p from r none less)

pub run_kept : (p : ℕ → Bool) (from : ℕ) (r : Run) → NoneBelow p from → r.last < from → filter p (numbers_of r) ≡ []
run_kept p from r none less = none_kept p (numbers_of r) (run_below p from r none less)

pub front_counted : (p : ℕ → Bool) (from first start : ℕ) → NoneBelow p from → start ≡ max first from → count_by p (range_with_len first (start - first)) ≡ 0
front_counted p from first start none is = none_counted p (range_with_len first (start - first)) (front_below p from first start none is)

pub front_kept : (p : ℕ → Bool) (from first start : ℕ) → NoneBelow p from → start ≡ max first from → filter p (range_with_len first (start - first)) ≡ []
front_kept p from first start none is = none_kept p (range_with_len first (start - first)) (front_below p from first start none is)

-- a count that none of these adds to
pub not_raised : (p : ℕ → Bool) (ns : List ℕ) (before : ℕ) → before ≤ 4294967295 → count_by p ns ≡ 0 → before ≡ min (before + count_by p ns) 4294967295
not_raised p ns before fits none = omega (arith, fits, none)
