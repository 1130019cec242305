-- Index slots: empty, or a key and the place of its frame.
use Rattle.std.specs.Prelude.{ℕ, ◌+◌, ◌-◌, ◌<◌, ◌≤◌, ◌^◌, Bool, not, ◌||◌, ◌==◌, nat_lt, if◌then◌else◌, List, [], ◌∷◌, ◌++◌, length, slice_index, slice_range, Option, Some, None, Result}
use Rattle.std.specs.Int.{w16, w32, to_be_bytes, from_be_bytes}
use Rattle.patch_frame.specs.declared.faults.FrameFault.{FrameFault}
use Rattle.patch_frame.specs.declared.faults.FrameFault.TheVariants.{BadMagic, BadKey, BadValue, NotZero}
use Rattle.patch_frame.specs.declared.framing.TheConstants.{MAX_KEY, MIN_FRAME}
use Rattle.patch_frame.specs.declared.slots.Slot.{Slot}
use Rattle.patch_frame.specs.declared.slots.SlotState.{SlotState}
use Rattle.patch_frame.specs.declared.slots.SlotState.TheVariants.{Empty, Used}
use Rattle.patch_frame.specs.declared.slots.TheConstants.{SLOT_BYTES, SLOT_KEY_START}
use Rattle.patch_frame.specs.Field.{zeros, are_zeros, outcome}

-- what a used slot says
pub record SlotFields : Type 0 where
  pub key : List ℕ
  pub extent : ℕ
  pub generation : ℕ
  pub offset : ℕ
  pub length : ℕ

abbrev pub used_fields : Slot → SlotFields
used_fields slot = record { key = slot.key.now; extent = slot.extent; generation = slot.generation; offset = slot.offset; length = slot.length }

-- an empty one says nothing
abbrev pub fields : SlotState → Option SlotFields
fields Empty = None
fields (Used slot) = Some (used_fields slot)

-- a key has 1 to 32 bytes, and a frame 17 to longest
pub record FitsUsed (longest : ℕ) (s : SlotFields) : Type 0 where
  pub some_key : 0 < length s.key
  pub short_key : length s.key ≤ MAX_KEY
  pub extent : s.extent < 2 ^ 16
  pub generation : s.generation < 2 ^ 32
  pub offset : s.offset < 2 ^ 32
  pub some_frame : MIN_FRAME ≤ s.length
  pub short_frame : s.length ≤ longest

abbrev pub Fits : ℕ → Option SlotFields → Type 0
Fits longest None = Unit {0}
Fits longest (Some s) = FitsUsed longest s

-- the one spelling of a used slot: state, length of the key, extent, generation, offset, length of the frame, key, zeros
abbrev pub used_spelling : SlotFields → List ℕ
used_spelling s =
    1 ∷ length s.key ∷ []
    ++ to_be_bytes w16 s.extent
    ++ to_be_bytes w32 s.generation
    ++ to_be_bytes w32 s.offset
    ++ to_be_bytes w32 s.length
    ++ s.key
    ++ zeros (SLOT_BYTES - SLOT_KEY_START - length s.key)

abbrev pub spelling : Option SlotFields → List ℕ
spelling None = zeros SLOT_BYTES
spelling (Some s) = used_spelling s

-- The same the other way: what stands where.
abbrev pub state : List ℕ → ℕ
state bytes = slice_index bytes 0

abbrev pub key_length : List ℕ → ℕ
key_length bytes = slice_index bytes 1

abbrev pub key_end : List ℕ → ℕ
key_end bytes = SLOT_KEY_START + key_length bytes

abbrev pub frame_length : List ℕ → ℕ
frame_length bytes = from_be_bytes w32 (slice_range bytes 12 16)

abbrev pub fields_of : List ℕ → SlotFields
fields_of bytes = record {
  key = slice_range bytes SLOT_KEY_START (key_end bytes);
  extent = from_be_bytes w16 (slice_range bytes 2 4);
  generation = from_be_bytes w32 (slice_range bytes 4 8);
  offset = from_be_bytes w32 (slice_range bytes 8 12);
  length = frame_length bytes;
}

-- the one test of an empty slot
abbrev pub empty_tests : List ℕ → List (Bool × FrameFault)
empty_tests bytes = (not (are_zeros bytes), NotZero) ∷ []

-- the tests of every other one, in order
abbrev pub used_tests : ℕ → List ℕ → List (Bool × FrameFault)
used_tests longest bytes =
    (nat_lt 1 (state bytes), BadMagic)
    ∷ (key_length bytes == 0 || nat_lt MAX_KEY (key_length bytes), BadKey)
    ∷ (not (are_zeros (slice_range bytes (key_end bytes) SLOT_BYTES)), NotZero)
    ∷ (nat_lt (frame_length bytes) MIN_FRAME || nat_lt longest (frame_length bytes), BadValue)
    ∷ []

-- what the 64 bytes are, with a frame of at most longest bytes
abbrev pub slot_at : ℕ → List ℕ → Result (Option SlotFields) FrameFault
slot_at longest bytes =
    if state bytes == 0
    then outcome (empty_tests bytes) None
    else outcome (used_tests longest bytes) (Some (fields_of bytes))
