-- Marks on keys.
use Rattle.std.specs.Prelude.{ℕ, Bool, true, false, ◌≡◌, List, slice_index_or, count_by}
use Rattle.patch_model.specs.Member.{In}

abbrev pub is_marked : List Bool → ℕ → Bool
is_marked marks key = slice_index_or marks key false

-- nothing is marked
abbrev pub AreClear : List Bool → Type 0
AreClear marks = (key : ℕ) → is_marked marks key ≡ false

-- each key that is marked is among these
abbrev pub HoldsMarked : List Bool → List ℕ → Type 0
HoldsMarked marks keys = (key : ℕ) → is_marked marks key ≡ true → In keys key

abbrev pub marked_count : List Bool → ℕ
marked_count marks = count_by (λ b. b) marks
