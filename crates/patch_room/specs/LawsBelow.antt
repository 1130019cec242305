-- What the laws of the crates below say that those of the room of a disk rest on.
use Rattle.std.specs.Prelude.{◌≡◌, ◌≤◌, length}
use Rattle.patch_frame.specs.declared.geometries.Format.{Format}
use Rattle.patch_frame.specs.Frame.{Content, Fits, spelling, length_of}
use Rattle.patch_frame.specs.Geometry.{IsFormat, value_limit, largest_pointer}
use Rattle.patch_history.specs.Fitting.{FramesAreThere, PutsFit}
use Rattle.patch_history.specs.Laws.{StandingsAgree, ExtentsAreKept}
use Rattle.patch_history.specs.ShelfLedger.{ShelvesAreKept}

pub record Given : Type 0 where
  pub long : (c : Content) → length (spelling c) ≡ length_of c
  pub fit : (f : Format) (c : Content) → IsFormat f → Fits (value_limit f) c → length_of c ≤ largest_pointer f
  pub extents : ExtentsAreKept
  pub kept : ShelvesAreKept
  pub agree : StandingsAgree
  pub frames : FramesAreThere
  pub puts : PutsFit
