-- What the laws of the crates below say.
use Rattle.std.specs.Prelude.{ℕ, ◌≡◌, ◌<◌, ◌≤◌, ◌^◌, List, length, Ok}
use Rattle.patch_model.specs.Execution.{Execution}
use Rattle.patch_model.specs.State.{entries_of}
use Rattle.patch_model.specs.Legal.{IsLegal}
use Rattle.patch_model.specs.Orderly.{IsOrderly}
use Rattle.patch_frame.specs.declared.framing.TheConstants.{MIN_FRAME}
use Rattle.patch_frame.specs.declared.geometries.Format.{Format}
use Rattle.patch_frame.specs.declared.pointers.Pointer.{Pointer}
use Rattle.patch_frame.specs.declared.pointers.TheConstants.{POINTER_BYTES}
use Rattle.patch_frame.specs.Geometry.{IsFormat, value_limit, longest_frame, largest_pointer}
use Rattle.patch_frame.specs.Field.{AreBytes}
use Rattle.patch_frame.specs.Frame.{Content, Fits, spelling, length_of}
use Rattle.patch_frame.specs.Pointer.{pointer_at}
use Rattle.patch_frame.specs.Pointer as pointers
use Rattle.patch_recovery.specs.Naming.{NamesSuffice}
use Rattle.patch_recovery.specs.Putting.{PutsAreWellMade, PutsAgainAreMoves}
use Rattle.patch_recovery.specs.Store.{StoresBegin, StoresGrow, OtherStepsLeaveStores}
use Rattle.patch_recovery.specs.Closed.{CachedBlocksOpen}
use Rattle.patch_recovery.specs.Lasting.{LedgersLast, ReadBlocksAreSound}

-- frames have as many bytes as is said, and fit the extents of their version
pub record Frames : Type 0 where
  pub long : (c : Content) → length (spelling c) ≡ length_of c
  pub fit : (f : Format) (c : Content) → IsFormat f → Fits (value_limit f) c
      → (MIN_FRAME ≤ length_of c) × (length_of c ≤ longest_frame f) × (length_of c ≤ largest_pointer f)

-- pointer records of bytes are read just where they are spelled
pub record Pointers : Type 0 where
  pub again : (largest : ℕ) (p : Pointer) → largest < 2 ^ 32 → pointers.Fits largest p
      → pointer_at largest (pointers.spelling p) ≡ Ok p
  pub spelled : (largest : ℕ) (bytes : List ℕ) (p : Pointer) → AreBytes bytes → length bytes ≡ POINTER_BYTES
      → pointer_at largest bytes ≡ Ok p → pointers.Fits largest p × (bytes ≡ pointers.spelling p)

pub record Given : Type 0 where
  pub frames : Frames
  pub pointers : Pointers
  pub names : NamesSuffice
  pub puts : PutsAreWellMade
  pub again : PutsAgainAreMoves
  pub begin : StoresBegin
  pub grow : StoresGrow
  pub others : OtherStepsLeaveStores
  pub last : LedgersLast
  pub read : ReadBlocksAreSound
  pub orderly : (run : Execution) → IsLegal run → IsOrderly (entries_of run)
  pub cached : CachedBlocksOpen
