-- How all patches of a store are brought to the disk.
use Rattle.std.specs.Prelude.{ℕ, ◌≡◌, ◌+◌, ◌<◌, ◌≤◌, List, [], ◌++◌, length, map, count_by, slice_index_or, IsFalse, Result, Ok, Err}
use Rattle.patch_model.specs.Step.{Step}
use Rattle.patch_model.specs.Execution.{Execution, followed_by}
use Rattle.patch_model.specs.State.{entries_of, state_of, has_flight}
use Rattle.patch_model.specs.History.{history_of, image, cached}
use Rattle.patch_device.specs.declared.devices.Device.{Ghosts}
use Rattle.patch_cache.specs.Refused.{HasRefused, HasNotSynced}
use Rattle.patch_cache.specs.declared.refusals.FlushRefusal.{FlushRefusal}
use Rattle.patch_cache.specs.declared.refusals.FlushRefusal.TheVariants as flush
use Rattle.patch_cache.specs.Waves.{is_send, classes_in_memory, steps_since, HasKept}
use Rattle.patch_cache.specs.Tries.{EachTried}
use Rattle.patch_history.specs.History.{History, Moved, execution_of}
use Rattle.patch_store.specs.Meaning.{Store, IsStoreOf}

-- the store represents the history, and no write of it is under way
pub record StandsStill (s : Store) (h : History) : Type 0 where
  pub represents : IsStoreOf s h
  pub no_flight : (block : ℕ) → IsFalse (has_flight (state_of (execution_of h)) block)

-- the history with these steps of writes at its end
abbrev pub with_writes : History → List Step → History
with_writes h steps = record h { events = h.events ++ map Moved steps }

-- The store represents the history with these steps of writes at its end. They begin at most one write for each class that
-- was in memory.
pub record HasWritten (h : History) (steps : List Step) (new : Store) : Type 0 where
  pub represents : IsStoreOf new (with_writes h steps)
  pub sends : count_by is_send steps + classes_in_memory (entries_of (execution_of (with_writes h steps)))
      ≤ classes_in_memory (entries_of (execution_of h))

-- the execution behind what a call has added to the trace
abbrev pub run_after : History → (old new : Store) → Execution
run_after h old new = followed_by (execution_of h) (steps_since old.cache new.cache)

-- the disk holds what these steps leave of it, and what a cut of the power leaves on the way is such as a crash may leave
abbrev pub KeepsDisk : {D : Type 0} → Ghosts D → History → (old new : Store) → (before now : D) → Type 0
KeepsDisk g h old new before now = HasKept g (execution_of h) (steps_since old.cache new.cache) before now

-- each block of the device is the cached one
pub record HoldCached (run : Execution) (contents : List (List ℕ)) : Type 0 where
  pub count : length contents ≡ length run.first
  pub blocks : (b : ℕ) → b < length run.first → slice_index_or contents b [] ≡ cached (history_of run b)

-- behind what a call has added to the trace
abbrev pub HoldNow : History → (old new : Store) → (contents : List (List ℕ)) → Type 0
HoldNow h old new contents = HoldCached (run_after h old new) contents

-- a block that the device gave up was refused its image as often as a write is tried, and nothing else was done behind that; and so was
-- a sync that failed
abbrev pub IfRefused : {D T : Type 0} → Ghosts D → Result T FlushRefusal → Execution → (before now : D) → Type 0
IfRefused g (Ok done) run before now = Unit {0}
IfRefused g (Err (flush.DeviceGaveUp block)) run before now = HasRefused g block (image (history_of run block)) before now
IfRefused g (Err flush.SyncFailed) run before now = HasNotSynced g before now
IfRefused g (Err flush.OutOfMemory) run before now = Unit {0}

-- of each block as many flights went out as the steps have begun, and none was tried by what another one left over
abbrev pub EachBegunTried : (A : Type 0) {D : Type 0} → Ghosts D → List Step → (before now : D) → Type 0
EachBegunTried A g steps before now = EachTried {A = A} g steps [] before now
