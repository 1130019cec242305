-- Slots in an order, by what they are ranked by.
use Rattle.std.specs.Prelude.{ℕ, Bool, ◌≡◌, ◌+◌, ◌<◌, ◌≤◌, ◌==◌, ◌&&◌, true, false, List, [], ◌∷◌, length, nat_lt, slice_index_or, Option, Some, None, is_some, is_none}
use Rattle.std.specs.Cmp.Lexicographic.{slice_cmp}
use Rattle.std.specs.List.{AllPairs, list_any}
use Rattle.std.specs.List.Sorted.{IsPartitionPoint}
use Rattle.std.specs.Ordering.{ordering_then, nat_cmp, is_lt}
use Rattle.patch_frame.specs.Slot.{SlotFields}

-- of two slots with their ranks the first comes before the other: of one rank the lower slot does
abbrev pub comes_before : List ℕ × ℕ → List ℕ × ℕ → Bool
comes_before a b = is_lt (ordering_then (slice_cmp nat_cmp a.0 b.0) (nat_cmp a.1 b.1))

-- a slot with its rank
abbrev pub ranked : (ℕ → List ℕ) → ℕ → List ℕ × ℕ
ranked rank slot = (rank slot, slot)

abbrev pub Rises : (ℕ → List ℕ) → List ℕ → Type 0
Rises rank order = AllPairs (λ a b. comes_before (ranked rank a) (ranked rank b) ≡ true) order

abbrev pub holds : List ℕ → ℕ → Bool
holds order slot = list_any (λ s. s == slot) order

-- just the slots that pass, each once, by their ranks
pub record IsOrder (rank : ℕ → List ℕ) (passes : ℕ → Bool) (order : List ℕ) : Type 0 where
  pub rises : Rises rank order
  pub members : (slot : ℕ) → holds order slot ≡ passes slot

-- where a slot of a rank stands in an order, or would: behind all that come before it
pub record IsPlace (rank : ℕ → List ℕ) (it : List ℕ × ℕ) (order : List ℕ) (place : ℕ) : Type 0 where
  pub within : place ≤ length order
  pub point : IsPartitionPoint (λ s. comes_before (ranked rank s) it ≡ true) (λ s. comes_before (ranked rank s) it ≡ false) order place

-- What the slots of an index are ranked by.

abbrev pub key_rank : Option SlotFields → List ℕ
key_rank None = []
key_rank (Some f) = f.key

abbrev pub place_rank : Option SlotFields → List ℕ
place_rank None = 0 ∷ 0 ∷ []
place_rank (Some f) = f.extent ∷ f.offset ∷ []

abbrev pub key_in : List (Option SlotFields) → ℕ → List ℕ
key_in slots slot = key_rank (slice_index_or slots slot None)

abbrev pub place_in : List (Option SlotFields) → ℕ → List ℕ
place_in slots slot = place_rank (slice_index_or slots slot None)

abbrev pub unranked : ℕ → List ℕ
unranked slot = []

abbrev pub is_used : List (Option SlotFields) → ℕ → Bool
is_used slots slot = is_some (slice_index_or slots slot None)

abbrev pub is_empty : List (Option SlotFields) → ℕ → Bool
is_empty slots slot = nat_lt slot (length slots) && is_none (slice_index_or slots slot None)

-- the slot has so many others before it, but for the empty ones: each of those lies below it or above
pub record IsBehind (empty : List ℕ) (number slot : ℕ) : Type 0 where
  pub count : ℕ
  pub is : slot ≡ number + count
  pub within : count ≤ length empty
  pub below : (i : ℕ) → i < count → slice_index_or empty i 0 < slot
  pub above : (i : ℕ) → count ≤ i → i < length empty → slot < slice_index_or empty i 0

-- the empty slots, and the used ones by key and by place
pub record AreOrders (slots : List (Option SlotFields)) (empty by_key by_place : List ℕ) : Type 0 where
  pub empties : IsOrder unranked (is_empty slots) empty
  pub keys : IsOrder (key_in slots) (is_used slots) by_key
  pub places : IsOrder (place_in slots) (is_used slots) by_place
  pub counted : length by_key + length empty ≡ length slots
  pub placed : length by_place ≡ length by_key

-- where a slot with a frame stands in them, or would
pub record ArePlaces (slots : List (Option SlotFields)) (slot : ℕ) (f : SlotFields) (empty by_key by_place : List ℕ) (e k p : ℕ) : Type 0 where
  pub empty_is : IsPlace unranked ([], slot) empty e
  pub key_is : IsPlace (key_in slots) (f.key, slot) by_key k
  pub place_is : IsPlace (place_in slots) (f.extent ∷ f.offset ∷ [], slot) by_place p
