-- Places at which a class stands.
use Rattle.std.proofs.Common.{sym, subst, ◌∙◌, ◌≡◌, ℕ, ◌<◌, ◌≤◌, true, false, inl, inr, Bool, List, length, get_or, refl, arith, ◌+◌, ◌⊎◌}
use Rattle.std.specs.Prelude.{Some, None, nat_lt, slice_index_or, if◌then◌else◌}
use Rattle.std.specs.List.{position, position_or_len, remove}
use Rattle.std.proofs.lemmas.Bool.{cases_lt, lt-ltb, le-ltb}
use Rattle.std.proofs.lemmas.List.Sums.{fails_before_first}
use Rattle.std.proofs.lemmas.Option.{none-some, same_Some}
use Rattle.patch_stacks.specs.State.{Block, class_at, place_of}
use Rattle.patch_records.specs.Records.{no_class, Class}
use Rattle.std.proofs.lemmas.List.Edits.{get_or-remove_below, get_or-remove_above}

-- no element passes where the search for one finds none
pub position-None : {X : Type 0} (p : X → Bool) (xs : List X) (k : ℕ) (d : X) → position p xs ≡ None → k < length xs → p (get_or xs k d) ≡ false
position-None p xs k d e h = elim (cases_lt (position_or_len p xs) (length xs)) [
  | inl within ↦ let t = lt-ltb _ _ within in absurd (let f = rw t at e in cc)
  | inr past ↦ fails_before_first p xs k d (omega arith)
]

-- where the class at a place of the shorter list stood
abbrev pub stood : ℕ → ℕ → ℕ
stood at i = if nat_lt i at then i else i + 1

pub at_stood : (cs : List Class) (at i : ℕ) → at < length cs → slice_index_or (remove cs at) i no_class ≡ slice_index_or cs (stood at i) no_class
at_stood cs at i within = elim (cases_lt i at) [
  | inl before ↦ let t : nat_lt i at ≡ true = lt-ltb _ _ before in rw t (get_or-remove_below cs at no_class i before within)
  | inr behind ↦ let t : nat_lt i at ≡ false = le-ltb _ _ behind in rw t (get_or-remove_above cs at no_class i behind within)
]

pub stood_is : (at i : ℕ) → ((i < at) × (stood at i ≡ i)) ⊎ ((at ≤ i) × (stood at i ≡ i + 1))
stood_is at i = elim (cases_lt i at) [
  | inl before ↦ let t : nat_lt i at ≡ true = lt-ltb _ _ before in inl (before, rw t refl)
  | inr behind ↦ let t : nat_lt i at ≡ false = le-ltb _ _ behind in inr (behind, rw t refl)
]

-- what has a place has no other
pub not_found : (b : Block) (number at : ℕ) → place_of b number ≡ None → place_of b number ≡ Some at → ⊥
not_found b number at none is = none-some at (sym none ∙ is)

pub found_there : (b : Block) (number i j : ℕ) → place_of b number ≡ Some i → place_of b number ≡ Some j → (class_at b i).taken ≡ false → (class_at b j).taken ≡ false
found_there b number i j is_i is_j off = subst (λ (k : ℕ). (class_at b k).taken ≡ false) (same_Some _ _ (sym is_i ∙ is_j)) off
