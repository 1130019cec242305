-- Frames one after another, without gaps.
use Rattle.std.specs.Prelude.{◌≡◌, ◌≢◌, ℕ, List, [], ◌++◌, map, All, Result, Ok, Err}
use Rattle.std.specs.List.{flat_map, AllByRecursion}
use Rattle.patch_frame.specs.declared.faults.FrameFault.{FrameFault}
use Rattle.patch_frame.specs.declared.runs.FramesRefusal.{FramesRefusal}
use Rattle.patch_frame.specs.declared.runs.FramesRefusal.TheVariants.{Fault, OutOfMemory}
use Rattle.patch_frame.specs.declared.framing.Frame.{Frame}
use Rattle.patch_frame.specs.Frame.{Content, content, Fits, spelling, length_of, frame_at}

-- the bytes of all the frames
abbrev pub run : List Content → List ℕ
run cs = flat_map spelling cs

abbrev pub AllFit : ℕ → List Content → Type 0
AllFit limit cs = AllByRecursion (Fits limit) cs

-- the frames read from the front of the bytes, up to the rest
pub record IsRead (limit : ℕ) (bytes : List ℕ) (frames : List Frame) (rest : List ℕ) : Type 0 where
  pub fit : AllFit limit (map content frames)
  pub lengths : All (λ frame. frame.length ≡ length_of (content frame)) frames
  pub stands : bytes ≡ run (map content frames) ++ rest

-- Behind some frames bytes are left, and what is read there is refused.
pub record StopsAt (limit : ℕ) (bytes : List ℕ) (fault : FrameFault) : Type 0 where
  pub before : List Content
  pub rest : List ℕ
  pub fit : AllFit limit before
  pub stands : bytes ≡ run before ++ rest
  pub some_rest : rest ≢ []
  pub refused : frame_at limit rest ≡ Err fault

-- why no run is read
abbrev pub StopsSo : ℕ → List ℕ → FramesRefusal → Type 0
StopsSo limit bytes (Fault fault) = StopsAt limit bytes fault
StopsSo limit bytes OutOfMemory = Unit {0}

-- What a function returned, seen by view, is this run, unless memory ran out.
abbrev pub GivesRun : {X : Type 0} → (X → List Content) → Result X FramesRefusal → List Content → Type 0
GivesRun view (Ok x) cs = view x ≡ cs
GivesRun view (Err (Fault _)) cs = ⊥
GivesRun view (Err OutOfMemory) cs = Unit {0}
