-- What a command makes: changes, and the patches that each names. In each plan n is the number of the first patch.
use Rattle.std.specs.Prelude.{ℕ, ◌+◌, List, [], ◌∷◌, ◌++◌, length, Option, Some, None, option_to_list, option_map}
use Rattle.std.specs.Prelude.{unwrap_or, is_none, if◌then◌else◌}
use Rattle.patch_frame.specs.Frame.{Content, spelling, length_of}
use Rattle.patch_frame.specs.Slot.{SlotFields}
use Rattle.patch_recovery.specs.Change.{Fill, Clear, Widen, Made}
use Rattle.patch_recovery.specs.Ledger.{value_in}
use Rattle.patch_plans.specs.Extents.{generation_at, offset_at}
use Rattle.patch_plans.specs.Planning.{append_plan, reset_plan, touched}
use Rattle.patch_history.specs.Shelf.{Shelf, slot_at, left_of, after_plan}
use Rattle.patch_history.specs.Choosing.{slot_of, slot_for, extent_for_put, extent_for_move, live_frames}

-- what a slot says of a frame that is appended to the extent
abbrev pub fields_for : Shelf → ℕ → Content → SlotFields
fields_for s extent c = record {
  key = c.key;
  extent = extent;
  generation = generation_at s.extents extent;
  offset = offset_at s.extents extent;
  length = length_of c;
}

-- The slot names the frame, behind the pointer patch and, in a store that was upgraded, behind the upgrade's patch. One
-- that was empty is filled behind the last delete's patch too.
abbrev pub fill_plan : Shelf → (n extent slot : ℕ) → Content → Made
fill_plan s n extent slot c = record {
  change = Fill slot (fields_for s extent c);
  after = (n + touched (offset_at s.extents extent) (length_of c))
      ∷ ((if is_none (slot_at s slot) then option_to_list s.last_delete else []) ++ option_to_list s.upgrade);
}

-- the frame is appended, and then named by the slot
abbrev pub frame_plan : Shelf → (n extent slot : ℕ) → Content → List Made
frame_plan s n extent slot c = append_plan s.extents n extent (spelling c) [] ++ fill_plan s n extent slot c ∷ []

-- a put, where there is a slot and an extent for it
abbrev pub put_plan : Shelf → ℕ → Content → Option (List Made)
put_plan s n c = elim (slot_for s c.key) [
  | None ↦ None
  | Some slot ↦ option_map (λ extent. frame_plan s n extent slot c) (extent_for_put s (length_of c))
]

-- a slot is cleared, behind the last delete's patch
abbrev pub clear_plan : Shelf → ℕ → List Made
clear_plan s slot = record { change = Clear slot; after = option_to_list s.last_delete } ∷ []

-- a delete clears the key's slot
abbrev pub delete_plan : Shelf → List ℕ → Option (List Made)
delete_plan s key = option_map (clear_plan s) (slot_of s key)

-- the frame that a slot names: its key, and the value that the map has for it
abbrev pub content_of : List Content → SlotFields → Content
content_of entries fields = record { key = fields.key; value = unwrap_or (value_in entries fields.key) [] }

-- the frames of some slots, one after another, each to where it goes by then; none where one of them finds no extent
abbrev pub moves : List Content → Shelf → ℕ → List (ℕ × SlotFields) → Option (List Made)
moves entries s n [] = Some []
moves entries s n (f ∷ fs) = elim (extent_for_move s f.1.length) [
  | None ↦ None
  | Some extent ↦
      let plan = frame_plan s n extent f.0 (content_of entries f.1) in
      option_map (λ rest. plan ++ rest) (moves entries (after_plan s n plan) (n + length plan) fs)
]

-- the moves, then the reset, behind the slot patches that took from the extent since its last one
abbrev pub emptied : Shelf → (n extent : ℕ) → List Made → List Made
emptied s n extent plan = plan ++ reset_plan s.extents extent (left_of (after_plan s n plan) extent)

-- the live frames of the extent move, then it is reset
abbrev pub reclaim_plan : List Content → Shelf → (n extent : ℕ) → Option (List Made)
reclaim_plan entries s n extent = option_map (emptied s n extent) (moves entries s n (live_frames s extent))

-- an upgrade is one patch
abbrev pub upgrade_plan : List Made
upgrade_plan = record { change = Widen; after = [] } ∷ []
