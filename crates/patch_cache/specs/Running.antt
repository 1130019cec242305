-- A list of asks, answered one after another.
use Rattle.std.specs.Prelude.{ℕ, suc, ◌+◌, Bool, true, false, ◌≡◌, ◌≤◌, ◌⊎◌, List, [], ◌∷◌, length, map, slice_set, Vec, Result, Ok, Err}
use Rattle.patch_model.specs.declared.refusals.OutOfMemory.{OutOfMemory}
use Rattle.patch_model.specs.Execution.{Execution}
use Rattle.patch_model.specs.Crash.{HasTrail, MayLeave}
use Rattle.patch_model.specs.History.{history_of, image}
use Rattle.patch_device.specs.Device.{HasRisen, Elapses}
use Rattle.patch_device.specs.SameDevice.{LeavesOnly}
use Rattle.patch_device.specs.declared.devices.Device.{Ghosts}
use Rattle.patch_cache.specs.Contents.{Contents}
use Rattle.patch_cache.specs.Meaning.{IsCacheBy}
use Rattle.patch_cache.specs.Flights.{AreFlightsBeside}
use Rattle.patch_cache.specs.Asks.{Ask, Answer, Create, Merge, Send, Complete, View, IsFault, IsAnswer, IsGivenUp, IsGivenUpBy, AreAnswersBy, answer_of, is_refused, after, after_all}
use Rattle.patch_cache.specs.declared.asks.Answer.{Answer as CodeAnswer}
use Rattle.patch_cache.specs.declared.flights.Flight.{Flight}
use Rattle.patch_cache.specs.declared.flights.Flights.{Flights}

-- the answers of a run, whether it had room for all of them or not
abbrev pub answers_in : {A : Type 0} → Result (Vec (CodeAnswer A) A) (Vec (CodeAnswer A) A × OutOfMemory) → List Answer
answers_in (Ok answers) = map answer_of answers.items
answers_in (Err stopped) = map answer_of stopped.0.items

-- the flights that are held
abbrev pub held_by : {A : Type 0} → Flights A → List (Flight A)
held_by flights = flights.held.items

-- The cache represents the execution, and has all its blocks or some; and the held flights are of it; others may be held elsewhere, or
-- none are.
pub record RunsBesideBy {A : Type 0} (whole others : Bool) (cache : Contents) (flights : Flights A) (run : Execution) : Type 0 where
  pub cache_is : IsCacheBy whole cache run
  pub flights_are : AreFlightsBeside others run (held_by flights)

-- it has all of them
abbrev pub RunsBeside : {A : Type 0} → (others : Bool) → Contents → Flights A → Execution → Type 0
RunsBeside others cache flights run = RunsBesideBy true others cache flights run

-- the cache represents the execution, and its flights are the held ones
abbrev pub RunsBy : {A : Type 0} → (whole : Bool) → Contents → Flights A → Execution → Type 0
RunsBy whole cache flights run = RunsBesideBy whole false cache flights run

abbrev pub Runs : {A : Type 0} → Contents → Flights A → Execution → Type 0
Runs cache flights run = RunsBeside false cache flights run

-- it does so on a device that has the cache's blocks
pub record RunsOnBesideBy {A D : Type 0} (g : Ghosts D) (whole others : Bool) (cache : Contents) (flights : Flights A) (device : D) (run : Execution) : Type 0 where
  pub runs : RunsBesideBy whole others cache flights run
  pub blocks : g.block_count device ≡ length run.first

abbrev pub RunsOnBeside : {A D : Type 0} → Ghosts D → (others : Bool) → Contents → Flights A → D → Execution → Type 0
RunsOnBeside g others cache flights device run = RunsOnBesideBy g true others cache flights device run

-- and all flights are held
abbrev pub RunsOnBy : {A D : Type 0} → Ghosts D → (whole : Bool) → Contents → Flights A → D → Execution → Type 0
RunsOnBy g whole cache flights device run = RunsOnBesideBy g whole false cache flights device run

abbrev pub RunsOn : {A D : Type 0} → Ghosts D → Contents → Flights A → D → Execution → Type 0
RunsOn g cache flights device run = RunsOnBeside g false cache flights device run

-- the ask is answered right or given up, and the cache stands after its step
pub record IsDoneBy (whole : Bool) (run : Execution) (ask : Ask) (answer : Answer) (cache : Contents) : Type 0 where
  pub right : IsAnswer run ask answer ⊎ IsGivenUp run ask answer
  pub cache_is : IsCacheBy whole cache (after run ask answer)

abbrev pub IsDone : Execution → Ask → Answer → Contents → Type 0
IsDone run ask answer cache = IsDoneBy true run ask answer cache

-- and so do the flights that are held
pub record IsAnsweredBy {A : Type 0} (whole : Bool) (run : Execution) (ask : Ask) (answer : Answer) (cache : Contents) (flights : Flights A) : Type 0 where
  pub right : IsAnswer run ask answer ⊎ IsGivenUpBy whole run ask answer
  pub runs : RunsBy whole cache flights (after run ask answer)

abbrev pub IsAnswered : {A : Type 0} → Execution → Ask → Answer → Contents → Flights A → Type 0
IsAnswered run ask answer cache flights = IsAnsweredBy true run ask answer cache flights

-- What a cut of the power on the way may have left is a disk that a crash may leave, of the execution as it was then; and so is what
-- a cut leaves in the end.
pub record IsCrashSafe {D : Type 0} (g : Ghosts D) (old new : Execution) (before now : D) : Type 0 where
  pub time : Elapses (g.moment before) (g.moment now) (g.left_at before) (g.left_at now)
  pub counts : List ℕ
  pub moments : g.moment now ≡ g.moment before + length counts
  pub trail : HasTrail new (g.left_at now) (suc (g.moment before)) (length old.steps) counts
  pub left : LeavesOnly g now (MayLeave new)

-- An honest device of which a cut left what a crash may leave has gone on so.
abbrev pub LeavesSafe : {D : Type 0} → Ghosts D → (old new : Execution) → (before now : D) → Type 0
LeavesSafe g old new before now = g.is_honest before → LeavesOnly g before (MayLeave old) → IsCrashSafe g old new before now

-- Each ask that was answered is answered right or given up, and the cache stands after their steps.
pub record HasRunBy {A : Type 0} (whole : Bool) (run : Execution) (asks : List Ask) (answers : List Answer) (cache : Contents) (flights : Flights A) : Type 0 where
  pub right : AreAnswersBy whole run asks answers
  pub runs : RunsBy whole cache flights (after_all run asks answers)

abbrev pub HasRun : {A : Type 0} → Execution → List Ask → List Answer → Contents → Flights A → Type 0
HasRun run asks answers cache flights = HasRunBy true run asks answers cache flights

-- What an ask has made of the count of faults: none gets lost, and where it met one, one was counted.
pub record CountsFaults (answer : Answer) (old new : ℕ) : Type 0 where
  pub kept : old ≤ new
  pub met : IsFault answer → HasRisen old new

-- and what a list of them has made of it: each answer that tells of a fault rests on a rise of its own
abbrev pub CountFaults : List Answer → ℕ → ℕ → Type 0
CountFaults [] old new = old ≡ new
CountFaults (answer ∷ answers) old new = (between : ℕ) × CountsFaults answer old between × CountFaults answers between new

-- What an answered ask has made of an honest disk: a completion has put the image in its block, at a fault it may have, and
-- nothing else changes the disk.
abbrev pub HasWritten : Execution → Ask → Answer → List (List ℕ) → List (List ℕ) → Type 0
HasWritten run (Complete block) answer old new = elim (is_refused answer) [
  | true ↦ (new ≡ old) ⊎ (IsFault answer × (new ≡ slice_set old block (image (history_of run block))))
  | false ↦ new ≡ slice_set old block (image (history_of run block))
]
HasWritten run (Create block start bytes after undo) answer old new = new ≡ old
HasWritten run (Merge a b) answer old new = new ≡ old
HasWritten run (Send block) answer old new = new ≡ old
HasWritten run (View block moves start len) answer old new = new ≡ old

-- and what a list of them has made of it
abbrev pub HaveWritten : Execution → List Ask → List Answer → List (List ℕ) → List (List ℕ) → Type 0
HaveWritten run asks [] old new = new ≡ old
HaveWritten run [] (answer ∷ answers) old new = ⊥
HaveWritten run (ask ∷ asks) (answer ∷ answers) old new =
    (between : List (List ℕ)) × HasWritten run ask answer old between × HaveWritten (after run ask answer) asks answers between new

-- and where the device is honest, of it
abbrev pub HaveAllWritten : {D : Type 0} → Ghosts D → Execution → List Ask → List Answer → (before now : D) → Type 0
HaveAllWritten g run asks answers before now = g.is_honest before → HaveWritten run asks answers (g.contents before) (g.contents now)

-- What an ask has done that was served on a device: it is answered, a fault that it tells of was counted, an honest device
-- holds what it has written, and a cut never left what a crash may not leave.
pub record IsServedBy {A D : Type 0} (g : Ghosts D) (whole : Bool) (run : Execution) (ask : Ask) (answer : Answer) (cache : Contents) (flights : Flights A) (before now : D) : Type 0 where
  pub answered : IsAnsweredBy whole run ask answer cache flights
  pub fault : IsFault answer → HasRisen (g.fault_count before) (g.fault_count now)
  pub written : g.is_honest before → HasWritten run ask answer (g.contents before) (g.contents now)
  pub crash : LeavesSafe g run (after run ask answer) before now

abbrev pub IsServed : {A D : Type 0} → Ghosts D → Execution → Ask → Answer → Contents → Flights A → (before now : D) → Type 0
IsServed g run ask answer cache flights before now = IsServedBy g true run ask answer cache flights before now
