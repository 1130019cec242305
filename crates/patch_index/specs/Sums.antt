-- Sums that are kept of the live bytes of extents.
use Rattle.std.specs.Prelude.{ℕ, ◌≡◌, ◌+◌, ◌-◌, ◌<◌, List, Option, length, slice_index_or, slice_set}
use Rattle.patch_frame.specs.Slot.{SlotFields}
use Rattle.patch_index.specs.Reporting.{live_bytes}

-- with a frame more, and with one less: of an extent behind the last nothing is kept
abbrev pub with_frame : List ℕ → SlotFields → List ℕ
with_frame sums f = slice_set sums f.extent (slice_index_or sums f.extent 0 + f.length)

abbrev pub without_frame : List ℕ → SlotFields → List ℕ
without_frame sums f = slice_set sums f.extent (slice_index_or sums f.extent 0 - f.length)

-- each is that of the slots
abbrev pub AreSums : List (Option SlotFields) → List ℕ → Type 0
AreSums slots sums = (extent : ℕ) → extent < length sums → slice_index_or sums extent 0 ≡ live_bytes slots extent
