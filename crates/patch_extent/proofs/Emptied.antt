-- What is kept of all extents when the pointer of one of them moves.
use Rattle.std.proofs.Common.{◌≡◌, ℕ, ◌<◌, ◌∙◌, inl, inr, Bool, true, false, List, refl, sym, ap, subst, arith, get_or-set_same, get_or-set_other}
use Rattle.std.specs.Prelude.{◌==◌, ◌&&◌, ◌||◌, not, slice_set}
use Rattle.std.proofs.lemmas.Bool.{cases_eq}
use Rattle.std.proofs.lemmas.Bool.Decides.{nat_tests}
use Rattle.std.proofs.lemmas.List.{length-set}
use Rattle.patch_frame.specs.Geometry.{largest_pointer}
use Rattle.patch_frame.specs.Pointer.{Fits}
use Rattle.patch_plans.specs.declared.records.Extent.{Extent}
use Rattle.patch_plans.specs.Empties.{passing}
use Rattle.patch_plans.specs.Extents.{Extents, AreWhole, no_extent, extent_at, offset_at, empty_extents}
use Rattle.patch_extent.proofs.Rising.{alike, but, with}

abbrev pub changed : Extents → ℕ → Extent → Extents
changed s e x = record s { each = slice_set s.each e x }

abbrev pub is_empty : Extents → ℕ → Bool
is_empty s e = offset_at s e == 0

here : (s : Extents) (e : ℕ) (x : Extent) → AreWhole s → e < s.geometry.extents → extent_at (changed s e x) e ≡ x
here s e x whole known = let count = whole.count in get_or-set_same s.each e x no_extent (omega (arith, known, count))

pub still_whole : (s : Extents) (e : ℕ) (x : Extent) → AreWhole s → e < s.geometry.extents → Fits (largest_pointer s.geometry.format) x.pointer
    → AreWhole (changed s e x)
still_whole s e x whole known fits = record {
  geometry = whole.geometry;
  count = length-set s.each e x ∙ whole.count;
  fits = λ k. elim (cases_eq k e) [
    | inl same ↦ subst (λ (y : Extent). Fits (largest_pointer s.geometry.format) y.pointer)
        (sym (ap (extent_at (changed s e x)) same ∙ here s e x whole known)) fits
    | inr other ↦ subst (λ (y : Extent). Fits (largest_pointer s.geometry.format) y.pointer)
        (sym (get_or-set_other s.each e k x no_extent other)) (whole.fits k)
  ];
}

-- the test of one extent behind the change
tested : (s : Extents) (e : ℕ) (x : Extent) → AreWhole s → e < s.geometry.extents → is_empty (changed s e x) e ≡ (x.pointer.offset == 0)
tested s e x whole known = ap (λ (k : Extent). k.pointer.offset == 0) (here s e x whole known)

untested : (s : Extents) (e : ℕ) (x : Extent) (k : ℕ) → (k ≡ e → ⊥) → is_empty (changed s e x) k ≡ is_empty s k
untested s e x k other = ap (λ (y : Extent). y.pointer.offset == 0) (get_or-set_other s.each e k x no_extent other)

never : (b : Bool) → (b && false) ≡ false
never true = refl
never false = refl

always : (b : Bool) → (b || true) ≡ true
always true = refl
always false = refl

kept_by_and : (b : Bool) → (b && true) ≡ b
kept_by_and true = refl
kept_by_and false = refl

kept_by_or : (b : Bool) → (b || false) ≡ b
kept_by_or true = refl
kept_by_or false = refl

pub same_number : (a b : ℕ) → a ≡ b → (a == b) ≡ true
same_number a b is = grind (arith, nat_tests, is)

pub other_number : (a b : ℕ) → (a ≡ b → ⊥) → (a == b) ≡ false
other_number a b is = grind (arith, nat_tests, is)

-- one that is filled is empty no more
pub empties_taken : (s : Extents) (e : ℕ) (x : Extent) (empty : List ℕ) → AreWhole s → e < s.geometry.extents → (x.pointer.offset == 0) ≡ false
    → empty ≡ passing (but (is_empty s) e) s.geometry.extents → empty ≡ empty_extents (changed s e x)
empties_taken s e x empty whole known some is =
    is ∙ alike (but (is_empty s) e) (is_empty (changed s e x)) 0 s.geometry.extents (λ k low high. elim (cases_eq k e) [
      | inl same ↦ ap (λ b. is_empty s k && not b) (same_number k e same) ∙ never (is_empty s k)
          ∙ sym (ap (is_empty (changed s e x)) same ∙ tested s e x whole known ∙ some)
      | inr other ↦ ap (λ b. is_empty s k && not b) (other_number k e other) ∙ kept_by_and (is_empty s k) ∙ sym (untested s e x k other)
    ])

-- and one that is emptied is
pub empties_put : (s : Extents) (e : ℕ) (x : Extent) (empty : List ℕ) → AreWhole s → e < s.geometry.extents → (x.pointer.offset == 0) ≡ true
    → empty ≡ passing (with (is_empty s) e) s.geometry.extents → empty ≡ empty_extents (changed s e x)
empties_put s e x empty whole known none is =
    is ∙ alike (with (is_empty s) e) (is_empty (changed s e x)) 0 s.geometry.extents (λ k low high. elim (cases_eq k e) [
      | inl same ↦ ap (λ b. is_empty s k || b) (same_number k e same) ∙ always (is_empty s k)
          ∙ sym (ap (is_empty (changed s e x)) same ∙ tested s e x whole known ∙ none)
      | inr other ↦ ap (λ b. is_empty s k || b) (other_number k e other) ∙ kept_by_or (is_empty s k) ∙ sym (untested s e x k other)
    ])
