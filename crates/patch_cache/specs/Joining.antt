-- How what was done in two stretches, one after the other, is done in one.
use Rattle.std.specs.Prelude.{ℕ, ◌≡◌, ◌≢◌, ◌++◌, ◌∷◌, List, [], Some, IsFalse, count_by, slice_get}
use Rattle.std.specs.List.{swap_remove}
use Rattle.patch_model.specs.declared.patches.Undo.{Undo}
use Rattle.patch_model.specs.Step.{Step, Create, Merge, Send, Complete}
use Rattle.patch_model.specs.Execution.{Execution, extended, followed_by}
use Rattle.patch_model.specs.State.{state_of, has_flight}
use Rattle.patch_model.specs.Legal.{IsLegal}
use Rattle.patch_model.specs.Crash.{MayLeave}
use Rattle.patch_device.specs.SameDevice.{LeavesOnly}
use Rattle.patch_device.specs.declared.devices.Device.{Ghosts}
use Rattle.patch_cache.specs.Contents.{Contents}
use Rattle.patch_cache.specs.Flights.{IsSent, AreFlightsOf}
use Rattle.patch_cache.specs.Running.{Runs, IsCrashSafe}
use Rattle.patch_cache.specs.Waves.{is_send, steps_since, Continues, HasGoneOn, HasKept}
use Rattle.patch_cache.specs.Tries.{IsWave, EachTried}
use Rattle.patch_cache.specs.declared.flights.Flights.{Flights}
use Rattle.patch_cache.specs.declared.flights.Flight.{Flight}

-- a device that nothing was done to is left as a crash may leave it
abbrev pub UnmovedIsSafe : {D : Type 0} → Ghosts D → Type 0
UnmovedIsSafe {D = D} g = (run : Execution) (device : D) → LeavesOnly g device (MayLeave run) → IsCrashSafe g run run device device

-- and so it is after a step that ends no write
abbrev pub UnwrittenIsSafe : {D : Type 0} → Ghosts D → Type 0
UnwrittenIsSafe {D = D} g =
    (run : Execution) (step : Step) (device : D)
    → IsLegal run → IsLegal (extended run step) → ((block : ℕ) → step ≢ Complete block)
    → LeavesOnly g device (MayLeave run) → IsCrashSafe g run (extended run step) device device

-- what is so left from one execution to the next, and from there to a third, is so left from the first to the third
abbrev pub SafeJoin : {D : Type 0} → Ghosts D → Type 0
SafeJoin {D = D} g =
    (a b : Execution) (more : List Step) (before mid now : D)
    → IsCrashSafe g a b before mid → IsCrashSafe g b (followed_by b more) mid now
    → IsCrashSafe g a (followed_by b more) before now

-- a cache adds no step to its own trace
abbrev pub NoneSince : Type 0
NoneSince = (cache : Contents) → Continues cache cache × (steps_since cache cache ≡ [])

-- steps at the end of a trace are those since
abbrev pub AddedSince : Type 0
AddedSince = (old now : Contents) (steps : List Step) → now.trace ≡ old.trace ++ steps → Continues old now × (steps_since old now ≡ steps)

-- and those since a cache before the last one are those of both
abbrev pub SinceJoin : Type 0
SinceJoin =
    (old mid now : Contents) → Continues old mid → Continues mid now
    → Continues old now × (steps_since old now ≡ steps_since old mid ++ steps_since mid now)

-- where nothing was done there is a stretch of no steps
abbrev pub StillIsStretch : (A : Type 0) → Type 0
StillIsStretch A = (run : Execution) (cache : Contents) (flights : Flights A) → Runs cache flights run → HasGoneOn run [] cache flights

abbrev pub StretchesJoin : (A : Type 0) → Type 0
StretchesJoin A =
    (run : Execution) (a b : List Step) (mid now : Contents) (before after : Flights A)
    → HasGoneOn run a mid before → HasGoneOn (followed_by run a) b now after → HasGoneOn run (a ++ b) now after

-- it keeps a device that nothing was done to
abbrev pub StillIsKept : {D : Type 0} → Ghosts D → Type 0
StillIsKept {D = D} g = (run : Execution) (device : D) → HasKept g run [] device device

abbrev pub KeptJoin : {D : Type 0} → Ghosts D → Type 0
KeptJoin {D = D} g =
    (run : Execution) (a b : List Step) (before mid now : D)
    → HasKept g run a before mid → HasKept g (followed_by run a) b mid now → HasKept g run (a ++ b) before now

-- where steps begin no write, the flights that are held were tried if nothing was done, or if they went out in one wave
abbrev pub StillIsTried : (A : Type 0) {D : Type 0} → Ghosts D → Type 0
StillIsTried A {D = D} g = (steps : List Step) (held : List (Flight A)) (device : D) → count_by is_send steps ≡ 0 → EachTried g steps held device device

abbrev pub WavesAreTried : (A : Type 0) {D : Type 0} → Ghosts D → Type 0
WavesAreTried A {D = D} g =
    (steps : List Step) (held : List (Flight A)) (before now : D) → count_by is_send steps ≡ 0 → IsWave g held before now → EachTried g steps held before now

-- and what was tried in two stretches, with nothing held between them, was tried in one
abbrev pub TriesJoin : (A : Type 0) {D : Type 0} → Ghosts D → Type 0
TriesJoin A {D = D} g =
    (a b : List Step) (held between : List (Flight A)) (before mid now : D)
    → EachTried g a held before mid → between ≡ [] → EachTried g b between mid now → EachTried g (a ++ b) held before now

-- flights stay those of the execution beside a patch that is made
abbrev pub FlightsStay : (A : Type 0) → Type 0
FlightsStay A =
    (run : Execution) (block start : ℕ) (bytes after : List ℕ) (undo : Undo) (held : List (Flight A))
    → AreFlightsOf run held → AreFlightsOf (extended run (Create block start bytes after undo)) held

-- and beside a merge
abbrev pub FlightsStayMerged : (A : Type 0) → Type 0
FlightsStayMerged A = (run : Execution) (a b : ℕ) (held : List (Flight A)) → AreFlightsOf run held → AreFlightsOf (extended run (Merge a b)) held

-- the flight of a write that begins is one of them
abbrev pub FlightsBegin : (A : Type 0) → Type 0
FlightsBegin A =
    (run : Execution) (block : ℕ) (held : List (Flight A)) (flight : Flight A)
    → IsLegal run → IsFalse (has_flight (state_of run) block) → IsSent run block flight
    → AreFlightsOf run held → AreFlightsOf (extended run (Send block)) (held ++ flight ∷ [])

-- and that of a write that ends is taken out
abbrev pub FlightsEnd : (A : Type 0) → Type 0
FlightsEnd A =
    (run : Execution) (block at : ℕ) (held : List (Flight A)) (flight left : Flight A)
    → slice_get held at ≡ Some flight → flight.block ≡ block
    → AreFlightsOf run held → AreFlightsOf (extended run (Complete block)) (swap_remove held at left)
