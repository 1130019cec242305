-- What is asked of a cache, and what it answers.
use Rattle.std.specs.Prelude.{ℕ, Bool, true, false, ◌≡◌, ◌<◌, ◌⊎◌, IsTrue, min, List, [], ◌∷◌, ◌++◌, length, Option, Some, None, Result, Ok, Err, if◌then◌else◌}
use Rattle.patch_model.specs.declared.refusals.Refusal.{Refusal}
use Rattle.patch_model.specs.declared.patches.Undo.{Undo}
use Rattle.patch_model.specs.declared.refusals.RefusalKind.TheVariants as kind
use Rattle.patch_model.specs.Step.{Step}
use Rattle.patch_model.specs.Step as step
use Rattle.patch_model.specs.Execution.{Execution, extended}
use Rattle.patch_model.specs.Ready.{ready}
use Rattle.patch_model.specs.State.{entries_of, state_of, class_of, has_flight, flying_of, numbers_of}
use Rattle.patch_model.specs.History.{history_of, without, cached, image}
use Rattle.patch_model.specs.Legal.{IsLegalMerge}
use Rattle.patch_model.specs.Renewed.{is_clean}
use Rattle.patch_model.specs.Refusing.{bare, why_not_made, why_not_sent, why_not_shown}
use Rattle.patch_cache.specs.Refusals.{IsWhyNotMerged}
use Rattle.patch_cache.specs.Viewing.{with_moves, bytes_at}
use Rattle.patch_cache.specs.declared.asks.Move.{Move}
use Rattle.patch_cache.specs.declared.asks.Ask.{Ask as CodeAsk}
use Rattle.patch_cache.specs.declared.asks.Ask.TheVariants as asked
use Rattle.patch_cache.specs.declared.asks.Answer.{Answer as CodeAnswer}
use Rattle.patch_cache.specs.declared.asks.Answer.TheVariants as answered

-- a step of the cache, or a look at a block without some of its classes
pub data Ask : Type 0 where
  Create : (block start : ℕ) (bytes after : List ℕ) (undo : Undo) → Ask
  Merge : (a b : ℕ) → Ask
  Send : (block : ℕ) → Ask
  Complete : (block : ℕ) → Ask
  View : (block : ℕ) (moves : List Move) (start len : ℕ) → Ask

pub data Answer : Type 0 where
  Made : (number : ℕ) → Answer
  Merged : (name : ℕ) → Answer
  Sent : (block : ℕ) (numbers image : List ℕ) → Answer
  Landed : (block : ℕ) (numbers : List ℕ) → Answer
  Seen : (without cached : List ℕ) → Answer
  Refused : Refusal → Answer

-- the code's
abbrev pub ask_of : {A : Type 0} → CodeAsk A → Ask
ask_of (asked.Create block start bytes after undo) = Create block start bytes after undo
ask_of (asked.Merge a b) = Merge a b
ask_of (asked.Send block) = Send block
ask_of (asked.Complete block) = Complete block
ask_of (asked.View block moves start len) = View block moves start len

abbrev pub answer_of : {A : Type 0} → CodeAnswer A → Answer
answer_of (answered.Made number) = Made number
answer_of (answered.Merged name) = Merged name
answer_of (answered.Sent block numbers image) = Sent block numbers image
answer_of (answered.Landed block numbers) = Landed block numbers
answer_of (answered.Seen without cached) = Seen without cached
answer_of (answered.Refused refusal) = Refused refusal

-- the answer, unless there is a cause to refuse it
abbrev pub unless : Option Refusal → Answer → Answer
unless None answer = answer
unless (Some cause) answer = Refused cause

-- what a view shows of a span, where the moves were taken so far as they go
abbrev pub seen : Execution → ℕ → (start len : ℕ) → Result (List ℕ) Refusal → Answer
seen run block start len (Ok names) = Seen (bytes_at (without (history_of run block) names) start len) (bytes_at (cached (history_of run block)) start len)
seen run block start len (Err cause) = Refused cause

abbrev pub IsMergeAnswer : Execution → (a b : ℕ) → Answer → Type 0
IsMergeAnswer run a b (Merged name) = IsLegalMerge (entries_of run) a b × (name ≡ min (class_of (entries_of run) a) (class_of (entries_of run) b))
IsMergeAnswer run a b (Refused cause) = IsWhyNotMerged (entries_of run) a b cause
IsMergeAnswer run a b (Made number) = ⊥
IsMergeAnswer run a b (Sent block numbers image) = ⊥
IsMergeAnswer run a b (Landed block numbers) = ⊥
IsMergeAnswer run a b (Seen without cached) = ⊥

-- What the definitions answer to an ask, after an execution.
abbrev pub IsAnswer : Execution → Ask → Answer → Type 0
IsAnswer run (Create block start bytes after undo) answer =
    answer ≡ unless (why_not_made (length run.first) (entries_of run) block start bytes after) (Made (length (entries_of run)))
IsAnswer run (Merge a b) answer = IsMergeAnswer run a b answer
IsAnswer run (Send block) answer =
    answer ≡ unless (why_not_sent run block) (Sent block (numbers_of (ready (entries_of run) block)) (image (history_of (extended run (step.Send block)) block)))
IsAnswer run (Complete block) answer =
    answer ≡ (if has_flight (state_of run) block then Landed block (numbers_of (flying_of (entries_of run) block)) else Refused (bare kind.Stranger))
IsAnswer run (View block moves start len) answer =
    answer ≡ unless (why_not_shown (length run.first) block start len) (seen run block start len (with_moves run block [] moves))

abbrev pub is_refused : Answer → Bool
is_refused (Refused cause) = true
is_refused (Made number) = false
is_refused (Merged name) = false
is_refused (Sent block numbers image) = false
is_refused (Landed block numbers) = false
is_refused (Seen without cached) = false

abbrev pub is_complete : Ask → Bool
is_complete (Complete block) = true
is_complete (Create block start bytes after undo) = false
is_complete (Merge a b) = false
is_complete (Send block) = false
is_complete (View block moves start len) = false

-- the device refused the write of a completion, or the sync behind it
abbrev pub IsFault : Answer → Type 0
IsFault answer = (answer ≡ Refused (bare kind.Fault)) ⊎ (answer ≡ Refused (bare kind.SyncFailed))

-- An ask that no cause stands against is given up where there is no memory; a completion takes none, and is given up where
-- the device refuses the write or the sync.
pub record IsGivenUp (run : Execution) (ask : Ask) (answer : Answer) : Type 0 where
  pub done : Answer
  pub right : IsAnswer run ask done
  pub not_refused : is_refused done ≡ false
  pub gives_up : ((answer ≡ Refused (bare kind.OutOfMemory)) × (is_complete ask ≡ false)) ⊎ (IsFault answer × (is_complete ask ≡ true))

-- the block that an ask names
abbrev pub block_named : Ask → Option ℕ
block_named (Create block start bytes after undo) = Some block
block_named (Merge a b) = None
block_named (Send block) = Some block
block_named (Complete block) = None
block_named (View block moves start len) = Some block

-- a cache may lack the block: there is such a block, and it has no live patch
pub record IsMissing (run : Execution) (block : ℕ) : Type 0 where
  pub known : block < length run.first
  pub clean : IsTrue (is_clean run block)

-- An ask that names such a block is given up before any cause is tested where there is no memory for the block, or the device refuses
-- its read.
pub record IsNotBrought (run : Execution) (ask : Ask) (answer : Answer) : Type 0 where
  pub block : ℕ
  pub named : block_named ask ≡ Some block
  pub missing : IsMissing run block
  pub gives_up : (answer ≡ Refused (bare kind.OutOfMemory)) ⊎ (answer ≡ Refused (bare kind.Fault))

-- so may a cache do that hasn't all its blocks
abbrev pub IsGivenUpBy : (whole : Bool) → Execution → Ask → Answer → Type 0
IsGivenUpBy true run ask answer = IsGivenUp run ask answer
IsGivenUpBy false run ask answer = IsGivenUp run ask answer ⊎ IsNotBrought run ask answer

-- the step that an ask is for
abbrev pub step_for : Ask → Option Step
step_for (Create block start bytes after undo) = Some (step.Create block start bytes after undo)
step_for (Merge a b) = Some (step.Merge a b)
step_for (Send block) = Some (step.Send block)
step_for (Complete block) = Some (step.Complete block)
step_for (View block moves start len) = None

abbrev pub extended_by : Execution → Option Step → Execution
extended_by run None = run
extended_by run (Some step) = extended run step

-- the execution with the ask's step, unless it was refused
abbrev pub after : Execution → Ask → Answer → Execution
after run ask answer = if is_refused answer then run else extended_by run (step_for ask)

-- the execution with the steps of the asks that were answered
abbrev pub after_all : Execution → List Ask → List Answer → Execution
after_all run [] answers = run
after_all run (ask ∷ asks) [] = run
after_all run (ask ∷ asks) (answer ∷ answers) = after_all (after run ask answer) asks answers

abbrev pub listed : Option Step → List Step
listed None = []
listed (Some step) = step ∷ []

-- the step that an answered ask has added, if any
abbrev pub step_added : Ask → Answer → List Step
step_added ask answer = if is_refused answer then [] else listed (step_for ask)

-- the steps that the answered asks have added
abbrev pub steps_added : List Ask → List Answer → List Step
steps_added asks [] = []
steps_added [] (answer ∷ answers) = []
steps_added (ask ∷ asks) (answer ∷ answers) = step_added ask answer ++ steps_added asks answers

-- each answer is the right one after the steps before it, or gives up; the asks behind the last answer stay open
abbrev pub AreAnswersBy : (whole : Bool) → Execution → List Ask → List Answer → Type 0
AreAnswersBy whole run asks [] = Unit {0}
AreAnswersBy whole run [] (answer ∷ answers) = ⊥
AreAnswersBy whole run (ask ∷ asks) (answer ∷ answers) =
    (IsAnswer run ask answer ⊎ IsGivenUpBy whole run ask answer) × AreAnswersBy whole (after run ask answer) asks answers

abbrev pub AreAnswers : Execution → List Ask → List Answer → Type 0
AreAnswers run asks answers = AreAnswersBy true run asks answers
