-- Writes that are begun and ended, with no other step between them.
use Rattle.std.specs.Prelude.{ℕ, Bool, true, false, ◌≡◌, ◌≢◌, ◌==◌, ◌&&◌, ◌+◌, ◌<◌, ◌≤◌, ◌⊎◌, ◌++◌, List, [], ◌∷◌, IsTrue, IsFalse, length, drop, count_by, slice_index_or, slice_set, slice_get, Contains, Some, None, Result, Ok, Err}
use Rattle.std.specs.List.{list_all}
use Rattle.patch_model.specs.Step.{Step, Create, Merge, Send, Complete}
use Rattle.patch_model.specs.Execution.{Execution, extended, followed_by}
use Rattle.patch_model.specs.Entry.{Entry, is_memory, is_live}
use Rattle.patch_model.specs.State.{entries_of, state_of, has_flight}
use Rattle.patch_model.specs.History.{history_of, image}
use Rattle.patch_model.specs.Refusing.{why_not_sent}
use Rattle.patch_model.specs.Crash.{MayLeave}
use Rattle.patch_model.specs.Member.{In}
use Rattle.patch_device.specs.Device.{most_faults, HasRisen}
use Rattle.patch_device.specs.SameDevice.{LeavesOnly}
use Rattle.patch_device.specs.declared.devices.Device.{Ghosts}
use Rattle.patch_cache.specs.Contents.{Contents}
use Rattle.patch_cache.specs.Running.{RunsBeside, IsCrashSafe, held_by}
use Rattle.patch_cache.specs.Flights.{IsLeastReady}
use Rattle.patch_cache.specs.declared.flights.Flights.{Flights}
use Rattle.patch_cache.specs.declared.flights.Flight.{Flight}
use Rattle.patch_cache.specs.declared.landing.TheConstants.{TRIES}
use Rattle.patch_cache.specs.declared.refusals.FlushRefusal.{FlushRefusal}
use Rattle.patch_cache.specs.declared.refusals.FlushRefusal.TheVariants as flush

-- the step begins a write
abbrev pub is_send : Step → Bool
is_send (Send block) = true
is_send (Complete block) = false
is_send (Create block start bytes after undo) = false
is_send (Merge a b) = false

-- or ends one
abbrev pub is_write : Step → Bool
is_write (Send block) = true
is_write (Complete block) = true
is_write (Create block start bytes after undo) = false
is_write (Merge a b) = false

-- the steps that a cache has added since it was as the first one
abbrev pub steps_since : Contents → Contents → List Step
steps_since old now = drop (length old.trace) now.trace

-- and its trace is that of the first one with them at its end
abbrev pub Continues : Contents → Contents → Type 0
Continues old now = now.trace ≡ old.trace ++ steps_since old now

-- how many classes are in memory: each has its name of one patch
abbrev pub classes_in_memory : List Entry → ℕ
classes_in_memory all = count_by (λ e. is_memory e && e.patch.no == e.class) all

-- and how many are live
abbrev pub live_classes : List Entry → ℕ
live_classes all = count_by (λ e. is_live e && e.patch.no == e.class) all

-- A stretch of writes: these steps begin and end writes and do nothing else, they begin at most one write for each class
-- that was in memory, and cache and flights stand after them; others may be held elsewhere, or none are.
pub record HasGoneOnBeside {A : Type 0} (others : Bool) (run : Execution) (steps : List Step) (cache : Contents) (flights : Flights A) : Type 0 where
  pub writes : list_all is_write steps ≡ true
  pub sends : count_by is_send steps + classes_in_memory (entries_of (followed_by run steps)) ≤ classes_in_memory (entries_of run)
  pub runs : RunsBeside others cache flights (followed_by run steps)

-- and all flights are held
abbrev pub HasGoneOn : {A : Type 0} → Execution → List Step → Contents → Flights A → Type 0
HasGoneOn run steps cache flights = HasGoneOnBeside false run steps cache flights

-- each block that has no write under way holds its image
pub record HoldImages (run : Execution) (contents : List (List ℕ)) : Type 0 where
  pub count : length contents ≡ length run.first
  pub images : (b : ℕ) → b < length run.first → IsFalse (has_flight (state_of run) b) → slice_index_or contents b [] ≡ image (history_of run b)

-- What a stretch keeps of blocks that stay as they are: a crash may leave them, if it could before; and they are the images of all
-- blocks with no write under way, if they were.
pub record HasStayed (run : Execution) (steps : List Step) (contents : List (List ℕ)) : Type 0 where
  pub crash : MayLeave run contents → MayLeave (followed_by run steps) contents
  pub images : HoldImages run contents → HoldImages (followed_by run steps) contents

-- What it keeps of an honest device. What a cut on the way may have left is a disk that a crash may leave, if that was so at first;
-- and it holds the images of all blocks with no write under way, if it did.
pub record HasKept {D : Type 0} (g : Ghosts D) (run : Execution) (steps : List Step) (before now : D) : Type 0 where
  pub crash : LeavesOnly g before (MayLeave run) → IsCrashSafe g run (followed_by run steps) before now
  pub images : HoldImages run (g.contents before) → HoldImages (followed_by run steps) (g.contents now)

-- for each execution that cache and flights stood after
abbrev pub KeepsDiskBeside : {A D : Type 0} → Ghosts D → Bool → Contents → Contents → Flights A → (before after : D) → Type 0
KeepsDiskBeside g others old now flights before after = (run : Execution) → RunsBeside others old flights run → HasKept g run (steps_since old now) before after

-- and all flights are held
abbrev pub KeepsDisk : {A D : Type 0} → Ghosts D → Contents → Contents → Flights A → (before after : D) → Type 0
KeepsDisk g old now flights before after = KeepsDiskBeside g false old now flights before after

-- and of any blocks
abbrev pub StaysBeside : {A : Type 0} → Bool → Contents → Contents → Flights A → Type 0
StaysBeside others old now flights = (run : Execution) (contents : List (List ℕ)) → RunsBeside others old flights run → HasStayed run (steps_since old now) contents

-- the block of each flight is its image
abbrev pub HoldFlights : {A : Type 0} → List (List ℕ) → List (Flight A) → Type 0
HoldFlights {A = A} contents held = (flight : Flight A) → In held flight → slice_index_or contents flight.block [] ≡ flight.image

-- and of blocks that hold the images of all flights
abbrev pub StaysOnImages : {A : Type 0} → Bool → Contents → Contents → Flights A → Type 0
StaysOnImages others old now flights =
    (run : Execution) (contents : List (List ℕ)) → RunsBeside others old flights run → HoldFlights contents (held_by flights) → HasStayed run (steps_since old now) contents

-- blocks with the images of flights written, one after another
abbrev pub with_flights : {A : Type 0} → List (List ℕ) → List (Flight A) → List (List ℕ)
with_flights contents [] = contents
with_flights contents (flight ∷ held) = with_flights (slice_set contents flight.block flight.image) held

-- the count of faults rose by so many, or ended at its greatest
abbrev pub HasRisenBy : ℕ → ℕ → ℕ → Type 0
HasRisenBy n before now = (before + n ≤ now) ⊎ (now ≡ most_faults)

-- by as many as a write is tried
abbrev pub HasGivenUp : ℕ → ℕ → Type 0
HasGivenUp before now = HasRisenBy TRIES before now

-- an answer that the device gave up rests on so many faults, and one that a sync failed on one
abbrev pub RisesIfGivenUp : {T : Type 0} → Result T FlushRefusal → ℕ → ℕ → Type 0
RisesIfGivenUp (Ok done) before now = Unit {0}
RisesIfGivenUp (Err (flush.DeviceGaveUp block)) before now = HasGivenUp before now
RisesIfGivenUp (Err flush.SyncFailed) before now = HasRisen before now
RisesIfGivenUp (Err flush.OutOfMemory) before now = Unit {0}

-- What tries to write a flight leave of an honest device is what a crash may leave, of each execution whose image it holds.
abbrev pub IsTriedSafely : {A D : Type 0} → Ghosts D → Flight A → (before now : D) → Type 0
IsTriedSafely g flight before now =
    (run : Execution) → flight.block < length run.first → flight.image ≡ image (history_of run flight.block)
    → LeavesOnly g before (MayLeave run) → IsCrashSafe g run run before now

-- These are flights of the execution: each of a block whose write is under way, with its image.
abbrev pub AreImages : {A : Type 0} → Execution → List (Flight A) → Type 0
AreImages {A = A} run held =
    (flight : Flight A) → In held flight → (flight.block < length run.first) × IsTrue (has_flight (state_of run) flight.block) × (flight.image ≡ image (history_of run flight.block))

-- And what tries to write all of these leave of it: no other block is changed.
abbrev pub AreTriedSafely : {A D : Type 0} → Ghosts D → List (Flight A) → (before now : D) → Type 0
AreTriedSafely g held before now = (run : Execution) → AreImages run held → HasKept g run [] before now

-- the device has the block of each flight
abbrev pub AreOnDevice : {A D : Type 0} → Ghosts D → List (Flight A) → D → Type 0
AreOnDevice {A = A} g held device = (flight : Flight A) → In held flight → flight.block < g.block_count device

-- one of the flights is of the block
abbrev pub IsOneOf : {A : Type 0} → ℕ → List (Flight A) → Type 0
IsOneOf {A = A} block held = (flight : Flight A) × In held flight × (flight.block ≡ block)

-- what is held was held before
abbrev pub StillHolds : {A : Type 0} → (old now : Flights A) → Type 0
StillHolds {A = A} old now = (flight : Flight A) → In (held_by now) flight → In (held_by old) flight

-- a flight of the block is held
abbrev pub IsHeld : {A : Type 0} → ℕ → Flights A → Type 0
IsHeld block flights = IsOneOf block (held_by flights)

-- and so is that of a block which the device gave up
abbrev pub IsHeldIfGivenUp : {A T : Type 0} → Result T FlushRefusal → Flights A → Type 0
IsHeldIfGivenUp (Ok done) flights = Unit {0}
IsHeldIfGivenUp (Err (flush.DeviceGaveUp block)) flights = IsHeld block flights
IsHeldIfGivenUp (Err flush.SyncFailed) flights = Unit {0}
IsHeldIfGivenUp (Err flush.OutOfMemory) flights = Unit {0}

-- the flight that was held first is completed, and nothing else is done
abbrev pub EndsFirst : {A : Type 0} → Flights A → Contents → Contents → Type 0
EndsFirst {A = A} flights old now = (flight : Flight A) → slice_get (held_by flights) 0 ≡ Some flight → now.trace ≡ old.trace ++ Complete flight.block ∷ []

-- where just one was held, it is completed, and nothing else is done
abbrev pub EndsOne : {A : Type 0} → Flights A → Contents → Contents → Type 0
EndsOne {A = A} flights old now = (flight : Flight A) → held_by flights ≡ flight ∷ [] → steps_since old now ≡ Complete flight.block ∷ []

-- the step that begins a write of the block, if it was begun
abbrev pub begun : ℕ → Bool → List Step
begun block true = Send block ∷ []
begun block false = []

-- a write of the block was begun and its flight is held, or none can begin
abbrev pub IsSentOr : {A : Type 0} → (others : Bool) → Execution → ℕ → Bool → Contents → Flights A → Type 0
IsSentOr others run block true cache flights = (why_not_sent run block ≡ None) × RunsBeside others cache flights (extended run (Send block))
IsSentOr others run block false cache flights = (why_not_sent run block ≢ None) × RunsBeside others cache flights run

-- and where it was begun its flight is held behind those that were, or they are as before
abbrev pub HoldsBegun : {A : Type 0} → ℕ → Bool → (old now : Flights A) → Type 0
HoldsBegun {A = A} block true old now = (flight : Flight A) × (flight.block ≡ block) × (held_by now ≡ held_by old ++ flight ∷ [])
HoldsBegun block false old now = held_by now ≡ held_by old

-- no write can begin
abbrev pub NoneCanBegin : Execution → Type 0
NoneCanBegin run = (b : ℕ) → why_not_sent run b ≡ None → ⊥

-- a write of some block was begun, or none could be
abbrev pub IsPass : Execution → Bool → List Step → Type 0
IsPass run true steps = 0 < count_by is_send steps
IsPass run false steps = (steps ≡ []) × NoneCanBegin run

-- no patch is in memory or in flight
pub record IsFlushed (run : Execution) : Type 0 where
  pub none : (e : Entry) → Contains (entries_of run) e → is_live e ≡ false
  pub no_flight : (b : ℕ) → IsFalse (has_flight (state_of run) b)

-- one write was begun, of the least block of which one could begin, and was completed; or there was none to begin and
-- nothing is left
abbrev pub HasWrittenOne : Execution → Bool → List Step → Type 0
HasWrittenOne run true steps = (block : ℕ) × IsLeastReady run (Some block) × (steps ≡ Send block ∷ Complete block ∷ [])
HasWrittenOne run false steps = (steps ≡ []) × IsFlushed (followed_by run steps)
