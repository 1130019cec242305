-- How a group is brought to the disk.
use Rattle.std.specs.Prelude.{ℕ, ◌≡◌, ◌<◌, List, [], ◌∷◌, IsTrue, IsFalse, Some, count_by, Result, Ok, Err}
use Rattle.patch_model.specs.Step.{Step, Send, Complete}
use Rattle.patch_model.specs.Execution.{Execution, extended, followed_by}
use Rattle.patch_model.specs.State.{entries_of, state_of, has_flight}
use Rattle.patch_device.specs.Device.{HasRisen}
use Rattle.patch_device.specs.declared.devices.Device.{Ghosts}
use Rattle.patch_cache.specs.Contents.{Contents}
use Rattle.patch_cache.specs.Flights.{IsLeastReady}
use Rattle.patch_cache.specs.Refused.{HasRefusedHeld, HasNotSynced}
use Rattle.patch_cache.specs.Running.{held_by}
use Rattle.patch_cache.specs.Waves.{steps_since, HasGivenUp, IsHeld}
use Rattle.patch_cache.specs.declared.flights.Flights.{Flights}
use Rattle.patch_plans.specs.Groups.{Groups, is_pending}
use Rattle.patch_group.specs.Runs.{RunsWith}
use Rattle.patch_group.specs.declared.refusals.SyncRefusal.{SyncRefusal}
use Rattle.patch_group.specs.declared.refusals.SyncRefusal.TheVariants as sync

-- none of these patches is in memory or in flight
abbrev pub NonePending : Execution → List ℕ → Type 0
NonePending run numbers = count_by (is_pending (entries_of run)) numbers ≡ 0

-- some of them is
abbrev pub SomePending : Execution → List ℕ → Type 0
SomePending run numbers = 0 < count_by (is_pending (entries_of run)) numbers

-- no block has a write under way
abbrev pub NoneFly : Execution → Type 0
NoneFly run = (block : ℕ) → IsFalse (has_flight (state_of run) block)

-- The steps that bring these patches to the disk, and no step more: each write that is under way is ended, and then, as long as
-- some of the patches is pending, the least block of which a write can begin is written.
pub data IsSynced (numbers : List ℕ) : Execution → List Step → Type 0 where
  settled : {run : Execution} → NoneFly run → NonePending run numbers → IsSynced numbers run []
  ended : {run : Execution} {block : ℕ} {steps : List Step}
      → IsTrue (has_flight (state_of run) block) → IsSynced numbers (extended run (Complete block)) steps
      → IsSynced numbers run (Complete block ∷ steps)
  written : {run : Execution} {block : ℕ} {steps : List Step}
      → NoneFly run → SomePending run numbers → IsLeastReady run (Some block)
      → IsSynced numbers (followed_by run (Send block ∷ Complete block ∷ [])) steps
      → IsSynced numbers run (Send block ∷ Complete block ∷ steps)

-- all stands behind the steps that the cache has added, for each execution that it stood behind; the groups stay as they are
abbrev pub StandsAfter : {A D : Type 0} → Ghosts D → Groups → Contents → Flights A → D → Contents → Flights A → D → Type 0
StandsAfter g groups cache flights device cache_now flights_now device_now =
    (run : Execution) → RunsWith g cache flights groups device run → RunsWith g cache_now flights_now groups device_now (followed_by run (steps_since cache cache_now))

-- an answer that the device gave up rests on as many faults as a write is tried, and one that a sync failed on one
abbrev pub RisesIfSyncStops : {T : Type 0} → Result T SyncRefusal → ℕ → ℕ → Type 0
RisesIfSyncStops (Ok done) before now = Unit {0}
RisesIfSyncStops (Err sync.NoSuchGroup) before now = Unit {0}
RisesIfSyncStops (Err (sync.DeviceGaveUp block)) before now = HasGivenUp before now
RisesIfSyncStops (Err sync.SyncFailed) before now = HasRisen before now
RisesIfSyncStops (Err sync.OutOfMemory) before now = Unit {0}

-- the flight of a block that the device gave up was refused as often as a write is tried, and nothing else was done behind that; and
-- so was a sync that failed
abbrev pub IfSyncStops : {A D T : Type 0} → Ghosts D → Result T SyncRefusal → Flights A → (before now : D) → Type 0
IfSyncStops g (Ok done) flights before now = Unit {0}
IfSyncStops g (Err sync.NoSuchGroup) flights before now = Unit {0}
IfSyncStops g (Err (sync.DeviceGaveUp block)) flights before now = HasRefusedHeld g block (held_by flights) before now
IfSyncStops g (Err sync.SyncFailed) flights before now = HasNotSynced g before now
IfSyncStops g (Err sync.OutOfMemory) flights before now = Unit {0}

-- the flight of a block that the device gave up is held
abbrev pub IsHeldIfSyncStops : {A T : Type 0} → Result T SyncRefusal → Flights A → Type 0
IsHeldIfSyncStops (Ok done) flights = Unit {0}
IsHeldIfSyncStops (Err sync.NoSuchGroup) flights = Unit {0}
IsHeldIfSyncStops (Err (sync.DeviceGaveUp block)) flights = IsHeld block flights
IsHeldIfSyncStops (Err sync.SyncFailed) flights = Unit {0}
IsHeldIfSyncStops (Err sync.OutOfMemory) flights = Unit {0}
