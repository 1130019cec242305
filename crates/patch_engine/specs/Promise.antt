-- The promise of engines: what is said of every execution that one represents.
use Rattle.std.specs.Prelude.{ℕ, Bool, ◌≡◌, not, List, map, filter}
use Rattle.patch_model.specs.Crash.{IsClosed, AreWhole, crash_set}
use Rattle.patch_model.specs.Entry.{Entry, is_memory}
use Rattle.patch_model.specs.Execution.{Execution}
use Rattle.patch_model.specs.History.{history_of}
use Rattle.patch_model.specs.Member.{In}
use Rattle.patch_model.specs.Pile.{pile}
use Rattle.patch_model.specs.State.{entries_of}
use Rattle.patch_cache.specs.declared.flights.Flight.{Flight}
use Rattle.patch_plans.specs.Order.{HoldsBefore}
use Rattle.patch_engine.specs.Meaning.{IsEngineOf}
use Rattle.patch_engine.specs.declared.engines.Engine.{Engine}

-- a set of the patches that is closed under dependencies, and holds a patch of a group, holds all patches of all groups before it
abbrev pub GroupsInOrder : (A : Type 0) → Type 0
GroupsInOrder A = (engine : Engine A) (run : Execution) (set : Entry → Bool) → IsEngineOf engine run → IsClosed (entries_of run) set → HoldsBefore run engine.groups set

-- the image of each write that is out is the pile, over the first bytes, of its block's patches that are durable or in flight
abbrev pub ImagesHold : (A : Type 0) → Type 0
ImagesHold A =
    (engine : Engine A) (run : Execution) (flight : Flight A) → IsEngineOf engine run → In engine.held.items flight
    → let h = history_of run flight.block in
    flight.image ≡ pile h.first (map (λ e. e.patch) (filter (λ e. not (is_memory e)) h.entries))

-- what a crash can leave holds each patch that one of it depends on, is made of whole classes, and is in the order of groups
abbrev pub CrashesInOrder : (A : Type 0) → Type 0
CrashesInOrder A =
    (engine : Engine A) (run : Execution) (landed : List ℕ) → IsEngineOf engine run
    → IsClosed (entries_of run) (crash_set landed) × AreWhole (entries_of run) (crash_set landed) × HoldsBefore run engine.groups (crash_set landed)
