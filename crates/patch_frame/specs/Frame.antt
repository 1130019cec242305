-- Frames: a key and its value between two marks.
use Rattle.std.specs.Prelude.{ℕ, ◌+◌, ◌<◌, ◌≤◌, Bool, not, ◌||◌, ◌==◌, nat_lt, List, [], ◌∷◌, ◌++◌, length, slice_index, slice_range, codes, Result}
use Rattle.std.specs.Int.{w32, to_be_bytes, from_be_bytes}
use Rattle.std.specs.Str.{bytes_eq}
use Rattle.patch_frame.specs.declared.faults.FrameFault.{FrameFault}
use Rattle.patch_frame.specs.declared.faults.FrameFault.TheVariants.{BadMagic, BadKey, BadValue, Short, NotZero}
use Rattle.patch_frame.specs.declared.framing.Frame.{Frame}
use Rattle.patch_frame.specs.declared.framing.TheConstants.{MAX_KEY, KEY_START, OVERHEAD}
use Rattle.patch_frame.specs.Field.{zeros, are_zeros, outcome}

-- what a frame holds
pub record Content : Type 0 where
  pub key : List ℕ
  pub value : List ℕ

abbrev pub content : Frame → Content
content frame = record { key = frame.key.now; value = frame.value.now }

-- a key has 1 to 32 bytes, and the value at most limit
pub record Fits (limit : ℕ) (c : Content) : Type 0 where
  pub some_key : 0 < length c.key
  pub short_key : length c.key ≤ MAX_KEY
  pub short_value : length c.value ≤ limit

-- the one spelling: mark, length of the key, three zeros, length of the value, key, value, mark
abbrev pub spelling : Content → List ℕ
spelling c =
    codes "FCH1"
    ++ length c.key ∷ []
    ++ zeros 3
    ++ to_be_bytes w32 (length c.value)
    ++ c.key
    ++ c.value
    ++ codes "1HCF"

-- how many bytes that is
abbrev pub length_of : Content → ℕ
length_of c = OVERHEAD + length c.key + length c.value

-- The same the other way: what stands where in the bytes of a frame.
abbrev pub key_length : List ℕ → ℕ
key_length bytes = slice_index bytes 4

abbrev pub value_length : List ℕ → ℕ
value_length bytes = from_be_bytes w32 (slice_range bytes 8 12)

-- where the key ends and where the value does
abbrev pub key_end : List ℕ → ℕ
key_end bytes = KEY_START + key_length bytes

abbrev pub value_end : List ℕ → ℕ
value_end bytes = key_end bytes + value_length bytes

abbrev pub content_of : List ℕ → Content
content_of bytes = record { key = slice_range bytes KEY_START (key_end bytes); value = slice_range bytes (key_end bytes) (value_end bytes) }

-- the tests in order
abbrev pub frame_tests : ℕ → List ℕ → List (Bool × FrameFault)
frame_tests limit bytes =
    (nat_lt (length bytes) KEY_START, Short)
    ∷ (not (bytes_eq (slice_range bytes 0 4) (codes "FCH1")), BadMagic)
    ∷ (key_length bytes == 0 || nat_lt MAX_KEY (key_length bytes), BadKey)
    ∷ (not (are_zeros (slice_range bytes 5 8)), NotZero)
    ∷ (nat_lt limit (value_length bytes), BadValue)
    ∷ (nat_lt (length bytes) (value_end bytes + 4), Short)
    ∷ (not (bytes_eq (slice_range bytes (value_end bytes) (value_end bytes + 4)) (codes "1HCF")), BadMagic)
    ∷ []

-- what is read at the front of the bytes, with a value of at most limit bytes
abbrev pub frame_at : ℕ → List ℕ → Result Content FrameFault
frame_at limit bytes = outcome (frame_tests limit bytes) (content_of bytes)
