-- The room of a disk: which extents may be won back, and when there is none left.
use Rattle.std.specs.Prelude.{ℕ, Some, ◌≡◌, ◌≢◌, ◌+◌, ◌-◌, ◌*◌, ◌<◌, ◌≤◌, ◌⊎◌, List, [], ◌∷◌}
use Rattle.std.specs.List.{range_with_len}
use Rattle.patch_frame.specs.Geometry.{largest_pointer}
use Rattle.patch_frame.specs.Slot.{SlotFields}
use Rattle.patch_plans.specs.Extents.{generation_at, offset_at}
use Rattle.patch_history.specs.Choosing.{empty_extents}
use Rattle.patch_history.specs.Shelf.{Shelf}
use Rattle.patch_index.specs.Reporting.{live_bytes}

-- how many extents there are
abbrev pub extent_count : Shelf → ℕ
extent_count s = s.extents.geometry.extents

-- the bytes of an extent
abbrev pub extent_bytes : Shelf → ℕ
extent_bytes s = largest_pointer s.extents.geometry.format

-- those of the frames in it that slots name
abbrev pub live_in : Shelf → (extent : ℕ) → ℕ
live_in s extent = live_bytes s.slots extent

-- and of some extents together
abbrev pub live_among : Shelf → List ℕ → ℕ
live_among s [] = 0
live_among s (extent ∷ extents) = live_in s extent + live_among s extents

-- and of all
abbrev pub all_live : Shelf → ℕ
all_live s = live_among s (range_with_len 0 (extent_count s))

-- the bytes of some frames together
abbrev pub bytes_of : List (ℕ × SlotFields) → ℕ
bytes_of [] = 0
bytes_of (f ∷ frames) = f.1.length + bytes_of frames

-- an extent is empty
abbrev pub HasEmpty : Shelf → Type 0
HasEmpty s = empty_extents s ≢ []

-- The extent isn't empty; if it is the current one nothing in it is live; and it can be emptied once more.
pub record MayBeWon (s : Shelf) (extent : ℕ) : Type 0 where
  pub known : extent < extent_count s
  pub begun : 1 ≤ offset_at s.extents extent
  pub idle : s.current ≡ Some extent → live_in s extent ≡ 0
  pub fresh : generation_at s.extents extent ≢ 4294967295

-- Of the extents that may be won back this one has the fewest live bytes, and is the lowest of those with as few.
pub record IsCheapest (s : Shelf) (extent : ℕ) : Type 0 where
  pub may : MayBeWon s extent
  pub least : (other : ℕ) → MayBeWon s other
      → (live_in s extent < live_in s other) ⊎ ((live_in s extent ≡ live_in s other) × (extent ≤ other))

-- what is live in each such extent leaves no room for so many bytes more
abbrev pub NoneWorthWinning : Shelf → (len : ℕ) → Type 0
NoneWorthWinning s len = (extent : ℕ) → MayBeWon s extent → extent_bytes s < live_in s extent + len

-- an extent isn't empty and can't be emptied any more
abbrev pub IsSpent : Shelf → Type 0
IsSpent s =
    (extent : ℕ) × (extent < extent_count s) × (1 ≤ offset_at s.extents extent)
    × (generation_at s.extents extent ≡ 4294967295)

-- No extent is empty, one can't be emptied any more, or there is more live than this: of each extent but two all bytes that a
-- frame of this length doesn't need.
abbrev pub IsFull : Shelf → (len : ℕ) → Type 0
IsFull s len =
    (empty_extents s ≡ []) ⊎ IsSpent s ⊎ ((extent_count s - 2) * (extent_bytes s - len) < all_live s)
