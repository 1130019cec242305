-- What is reported of the slots.
use Rattle.std.specs.Prelude.{ℕ, ◌+◌, ◌-◌, ◌==◌, List, [], ◌∷◌, length, Option, Some, None, if◌then◌else◌}
use Rattle.patch_frame.specs.declared.framing.TheConstants.{OVERHEAD}
use Rattle.patch_frame.specs.Slot.{SlotFields}
use Rattle.patch_index.specs.declared.reports.EntryReport.{EntryReport}
use Rattle.patch_index.specs.Index.{key_of}

-- a key with the length of its value, as reported, and as a slot says it
abbrev pub reported : EntryReport → List ℕ × ℕ
reported e = (key_of e.key, e.length)

abbrev pub of_slot : SlotFields → List ℕ × ℕ
of_slot f = (f.key, f.length - OVERHEAD - length f.key)

-- those of the used slots, rising
abbrev pub of_slots : List (Option SlotFields) → List (List ℕ × ℕ)
of_slots [] = []
of_slots (None ∷ slots) = of_slots slots
of_slots (Some f ∷ slots) = of_slot f ∷ of_slots slots

-- how many bytes a slot's frame has
abbrev pub length_told : Option SlotFields → ℕ
length_told None = 0
length_told (Some f) = f.length

-- and in the extent
abbrev pub bytes_in : ℕ → Option SlotFields → ℕ
bytes_in extent None = 0
bytes_in extent (Some f) = if f.extent == extent then f.length else 0

-- and all frames that slots name there
abbrev pub live_bytes : List (Option SlotFields) → (extent : ℕ) → ℕ
live_bytes [] extent = 0
live_bytes (slot ∷ slots) extent = bytes_in extent slot + live_bytes slots extent
