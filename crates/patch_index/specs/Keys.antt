-- What comes next and previous among keys in order.
use Rattle.std.specs.Prelude.{ℕ, Bool, ◌≡◌, ◌≤◌, true, false, List, Option, Some, None, All, Contains, length}
use Rattle.std.specs.Cmp.Lexicographic.{slice_cmp}
use Rattle.std.specs.List.Sorted.{IsPartitionPoint}
use Rattle.std.specs.Ordering.{nat_cmp, is_lt}
use Rattle.patch_frame.specs.Slot.{SlotFields}
use Rattle.patch_index.specs.Orders.{key_in}

-- the first byte that differs decides, and else the shorter key comes first
abbrev pub is_key_before : (one other : List ℕ) → Bool
is_key_before one other = is_lt (slice_cmp nat_cmp one other)

-- Keys are said with the lengths of their values.

-- the least of those from a key on
pub record IsNext (said : List (List ℕ × ℕ)) (from : List ℕ) (it : List ℕ × ℕ) : Type 0 where
  pub stands : Contains said it
  pub reached : is_key_before it.0 from ≡ false
  pub least : All (λ other. is_key_before other.0 from ≡ false → is_key_before other.0 it.0 ≡ false) said

abbrev pub NoneFrom : List (List ℕ × ℕ) → List ℕ → Type 0
NoneFrom said from = All (λ other. is_key_before other.0 from ≡ true) said

-- every key is below where none is named
abbrev pub is_below : Option (List ℕ) → List ℕ → Bool
is_below None key = true
is_below (Some b) key = is_key_before key b

-- the greatest of those below
pub record IsPrevious (said : List (List ℕ × ℕ)) (before : Option (List ℕ)) (it : List ℕ × ℕ) : Type 0 where
  pub stands : Contains said it
  pub below : is_below before it.0 ≡ true
  pub greatest : All (λ other. is_below before other.0 ≡ true → is_key_before it.0 other.0 ≡ false) said

abbrev pub NoneBelow : List (List ℕ × ℕ) → Option (List ℕ) → Type 0
NoneBelow said before = All (λ other. is_below before other.0 ≡ false) said

-- the place in an order of slots by key that just those with keys below stand before
pub record IsPlaceBelow (slots : List (Option SlotFields)) (before : Option (List ℕ)) (order : List ℕ) (place : ℕ) : Type 0 where
  pub within : place ≤ length order
  pub point : IsPartitionPoint (λ s. is_below before (key_in slots s) ≡ true) (λ s. is_below before (key_in slots s) ≡ false) order place
