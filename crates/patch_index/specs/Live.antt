-- Slots that name an extent.
use Rattle.std.specs.Prelude.{ℕ, ◌≡◌, ◌≤◌, List, [], ◌∷◌, length, map, drop, slice_index_or, Option, Some, None}
use Rattle.std.specs.List.{insert}
use Rattle.patch_frame.specs.Slot.{SlotFields}
use Rattle.patch_history.specs.Choosing.{live_from, placed, in_order}

-- the slots of some frames
abbrev pub slots_of : List (ℕ × SlotFields) → List ℕ
slots_of frames = map (λ f. f.0) frames

-- those from this one on that name the extent, in order of offset
abbrev pub live_behind : List (Option SlotFields) → (extent slot : ℕ) → List ℕ
live_behind slots extent slot = slots_of (in_order (live_from extent slot (drop slot slots)))

-- each slot says what stands beside it
abbrev pub AreSaid : List (Option SlotFields) → List (ℕ × SlotFields) → Type 0
AreSaid slots [] = Unit {0}
AreSaid slots (f ∷ fs) = (slice_index_or slots f.0 None ≡ Some f.1) × AreSaid slots fs

-- the place of a frame with this offset among those of other slots: put in there, they stand as they do in order
pub record IsPlaceFor (slots : List (Option SlotFields)) (offset : ℕ) (others : List ℕ) (place : ℕ) : Type 0 where
  pub within : place ≤ length others
  pub order : (f : ℕ × SlotFields) (frames : List (ℕ × SlotFields)) → AreSaid slots frames → others ≡ slots_of frames
      → f.1.offset ≡ offset → insert others place f.0 ≡ slots_of (placed f frames)
