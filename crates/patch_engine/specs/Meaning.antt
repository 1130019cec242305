-- Which executions an engine represents, and what its calls make of them.
use Rattle.std.specs.Prelude.{ℕ, Bool, ◌≡◌, ◌==◌, ◌&&◌, List, [], Option, None, min, length, Contains}
use Rattle.patch_model.specs.declared.patches.Undo.{Undo}
use Rattle.patch_model.specs.Execution.{Execution, extended}
use Rattle.patch_model.specs.Step.{Merge, Send}
use Rattle.patch_model.specs.State.{entries_of, state_of, class_of}
use Rattle.patch_model.specs.History.{history_of, image}
use Rattle.patch_model.specs.Legal.{IsLegalMerge}
use Rattle.patch_model.specs.Refusing.{why_not_sent}
use Rattle.patch_cache.specs.Meaning.{IsPagedCacheOf}
use Rattle.patch_cache.specs.Flights.{AreFlightsOf}
use Rattle.patch_cache.specs.declared.flights.Flight.{Flight}
use Rattle.patch_plans.specs.Groups.{with_patch, patch_of, why_not_patched}
use Rattle.patch_plans.specs.Order.{AreGroupsOf}
use Rattle.patch_engine.specs.declared.engines.Engine.{Engine}

-- The engine stands at the end of an execution: its cache represents it, the writes that it holds are all of those that are out, the
-- groups are those of its patches, and no step is kept in the cache's trace.
pub record IsEngineOf {A : Type 0} (engine : Engine A) (run : Execution) : Type 0 where
  pub cache_is : IsPagedCacheOf engine.cache run
  pub flights_are : AreFlightsOf run engine.held.items
  pub groups_are : AreGroupsOf run engine.groups
  pub trace_is : engine.cache.trace ≡ []

-- the same cache, groups and writes; memory may have been taken
pub record IsAsBefore {A : Type 0} (old new : Engine A) : Type 0 where
  pub cache_is : new.cache ≡ old.cache
  pub groups_are : new.groups ≡ old.groups
  pub flights_are : new.held.items ≡ old.held.items

-- the cache alone may be another one
pub record KeepsRest {A : Type 0} (old new : Engine A) : Type 0 where
  pub groups_are : new.groups ≡ old.groups
  pub flights_are : new.held ≡ old.held

-- the groups alone may be others
pub record KeepsCache {A : Type 0} (old new : Engine A) : Type 0 where
  pub cache_is : new.cache ≡ old.cache
  pub flights_are : new.held ≡ old.held

-- a patch of the writer, that no cause stands against, is made: it has the next number, and joins the groups that the writer has engaged
pub record IsPatched {A : Type 0} (run : Execution) (old : Engine A) (writer : Option ℕ) (block start : ℕ) (bytes after : List ℕ) (undo : Undo) (number : ℕ) (new : Engine A) : Type 0 where
  pub allowed : why_not_patched run old.groups writer block start bytes after ≡ None
  pub number_is : number ≡ length (entries_of run)
  pub groups_are : new.groups ≡ with_patch old.groups writer number
  pub stands : IsEngineOf new (extended run (patch_of old.groups writer block start bytes after undo))

-- two classes that may be are one, of the lesser name
pub record IsMerged {A : Type 0} (run : Execution) (a b name : ℕ) (new : Engine A) : Type 0 where
  pub legal : IsLegalMerge (entries_of run) a b
  pub name_is : name ≡ min (class_of (entries_of run) a) (class_of (entries_of run) b)
  pub stands : IsEngineOf new (extended run (Merge a b))

-- a write of the block is begun that may be: its number, and the bytes that go to the disk
pub record IsBegun {A : Type 0} (run : Execution) (block number : ℕ) (bytes : List ℕ) (new : Engine A) : Type 0 where
  pub allowed : why_not_sent run block ≡ None
  pub number_is : number ≡ (state_of run).sends
  pub image_is : bytes ≡ image (history_of (extended run (Send block)) block)
  pub stands : IsEngineOf new (extended run (Send block))

-- the write of this block and number was begun, and not completed
abbrev pub IsOut : Execution → (block number : ℕ) → Type 0
IsOut run block number = Contains (state_of run).flights (block, number)

abbrev pub IsNotOut : Execution → (block number : ℕ) → Type 0
IsNotOut run block number = IsOut run block number → ⊥

-- the flight is of this block and number
abbrev pub is_numbered : {A : Type 0} → (block number : ℕ) → Flight A → Bool
is_numbered block number flight = flight.block == block && flight.sequence == number
