-- Pointer records: the generation of an extent and its write pointer.
use Rattle.std.specs.Prelude.{ℕ, ◌<◌, ◌≤◌, ◌^◌, Bool, nat_lt, List, [], ◌∷◌, ◌++◌, slice_range, Result}
use Rattle.std.specs.Int.{w32, to_be_bytes, from_be_bytes}
use Rattle.patch_frame.specs.declared.faults.FrameFault.{FrameFault}
use Rattle.patch_frame.specs.declared.faults.FrameFault.TheVariants.{BadValue}
use Rattle.patch_frame.specs.declared.pointers.Pointer.{Pointer}
use Rattle.patch_frame.specs.Field.{outcome}

pub record Fits (largest : ℕ) (p : Pointer) : Type 0 where
  pub generation : p.generation < 2 ^ 32
  pub offset : p.offset ≤ largest

-- the one spelling
abbrev pub spelling : Pointer → List ℕ
spelling p = to_be_bytes w32 p.generation ++ to_be_bytes w32 p.offset

-- what stands where
abbrev pub pointer_of : List ℕ → Pointer
pointer_of bytes = record { generation = from_be_bytes w32 (slice_range bytes 0 4); offset = from_be_bytes w32 (slice_range bytes 4 8) }

-- the one test
abbrev pub pointer_tests : ℕ → List ℕ → List (Bool × FrameFault)
pointer_tests largest bytes = (nat_lt largest (pointer_of bytes).offset, BadValue) ∷ []

abbrev pub pointer_at : ℕ → List ℕ → Result Pointer FrameFault
pointer_at largest bytes = outcome (pointer_tests largest bytes) (pointer_of bytes)
