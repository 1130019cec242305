-- What is asked of a cache with groups, and what is answered.
use Rattle.std.specs.Prelude.{ℕ, Bool, true, false, ◌≡◌, ◌⊎◌, if◌then◌else◌, List, [], ◌∷◌, ◌++◌, length, map, Option, Some, None}
use Rattle.patch_model.specs.declared.patches.Undo.{Undo}
use Rattle.patch_model.specs.declared.refusals.RefusalKind.TheVariants as kind
use Rattle.patch_model.specs.Step.{Step}
use Rattle.patch_model.specs.Execution.{Execution}
use Rattle.patch_model.specs.State.{entries_of}
use Rattle.patch_model.specs.declared.refusals.Refusal.{Refusal as Cause}
use Rattle.patch_model.specs.Refusing.{bare}
use Rattle.patch_cache.specs.Asks.{Ask as CacheAsk, Answer as CacheAnswer, IsAnswer, IsGivenUpBy, IsNotBrought, after_all, steps_added}
use Rattle.patch_cache.specs.Asks as cache
use Rattle.patch_plans.specs.Groups.{Groups, named, why_not_begun, why_not_engaged, why_not_disengaged, why_not_ordered, why_not_closed, why_not_counted, begun, engaged, disengaged, ordered, closed, with_patch, pending}

-- an ask of the cache, whose patches are of no writer; a patch of a writer; and the calls of groups
pub data Ask : Type 0 where
  Plain : (ask : CacheAsk) → Ask
  Patch : (writer block start : ℕ) (bytes after : List ℕ) (undo : Undo) → Ask
  Group : Ask
  Engage : (writer group : ℕ) → Ask
  Disengage : (writer group : ℕ) → Ask
  Depend : (group on : ℕ) → Ask
  Close : (group : ℕ) → Ask
  Pending : (group : ℕ) → Ask

pub data Answer : Type 0 where
  Plain : (answer : CacheAnswer) → Answer
  GroupMade : (group : ℕ) → Answer
  Done : Answer
  Count : (count : ℕ) → Answer
  Refused : (cause : Cause) → Answer

-- the answer, unless there is a cause to refuse it
abbrev pub unless : Option Cause → Answer → Answer
unless None answer = answer
unless (Some cause) answer = Refused cause

-- what the groups answer to a call of theirs, after an execution; a patch and an ask of the cache are none
abbrev pub call_answer : Execution → Groups → Ask → Answer
call_answer run gs (Plain ask) = Done
call_answer run gs (Patch writer block start bytes after undo) = Done
call_answer run gs Group = unless (why_not_begun gs) (GroupMade (length gs.groups))
call_answer run gs (Engage writer group) = unless (why_not_engaged gs writer group) Done
call_answer run gs (Disengage writer group) = unless (why_not_disengaged gs writer group) Done
call_answer run gs (Depend group on) = unless (why_not_ordered gs group on) Done
call_answer run gs (Close group) = unless (why_not_closed gs group) Done
call_answer run gs (Pending group) = unless (why_not_counted gs group) (Count (pending (entries_of run) gs group))

-- the ask of the cache that this one is, if it is one: a patch of a writer names all patches before it
abbrev pub plain_of : Groups → Ask → Option CacheAsk
plain_of gs (Plain ask) = Some ask
plain_of gs (Patch writer block start bytes after undo) = Some (cache.Create block start bytes (named gs (Some writer) after) undo)
plain_of gs Group = None
plain_of gs (Engage writer group) = None
plain_of gs (Disengage writer group) = None
plain_of gs (Depend group on) = None
plain_of gs (Close group) = None
plain_of gs (Pending group) = None

-- the answer is the cache's
abbrev pub IsPlain : (CacheAnswer → Type 0) → Answer → Type 0
IsPlain P (Plain answer) = P answer
IsPlain P (GroupMade group) = ⊥
IsPlain P Done = ⊥
IsPlain P (Count count) = ⊥
IsPlain P (Refused cause) = ⊥

-- What the definitions answer to an ask, after an execution.
abbrev pub IsGroupAnswer : Execution → Groups → Ask → Answer → Type 0
IsGroupAnswer run gs ask answer = elim (plain_of gs ask) [
  | Some plain ↦ IsPlain (IsAnswer run plain) answer
  | None ↦ answer ≡ call_answer run gs ask
]

abbrev pub is_refused : Answer → Bool
is_refused (Plain answer) = cache.is_refused answer
is_refused (GroupMade group) = false
is_refused Done = false
is_refused (Count count) = false
is_refused (Refused cause) = true

-- the groups had no memory for a call that no cause stands against
abbrev pub LacksMemory : Option Cause → Answer → Type 0
LacksMemory cause answer = (answer ≡ Refused (bare kind.OutOfMemory)) × (cause ≡ None)

-- A patch is given up where there is no memory, and where the cache lacks its block, which it couldn't read.
abbrev pub IsPatchGivenUp : (whole : Bool) → Execution → CacheAsk → Answer → Type 0
IsPatchGivenUp true run ask answer = answer ≡ Plain (cache.Refused (bare kind.OutOfMemory))
IsPatchGivenUp false run ask answer = (answer ≡ Plain (cache.Refused (bare kind.OutOfMemory))) ⊎ IsPlain (IsNotBrought run ask) answer

-- A call of groups that no cause stands against is given up where there is no memory, and so is a patch, which takes its room
-- before any cause is tested. An ask of the cache is given up as the cache does, which has all its blocks, or some.
abbrev pub IsGroupGivenUpBy : (whole : Bool) → Execution → Groups → Ask → Answer → Type 0
IsGroupGivenUpBy whole run gs (Plain ask) answer = IsPlain (IsGivenUpBy whole run ask) answer
IsGroupGivenUpBy whole run gs (Patch writer block start bytes after undo) answer = IsPatchGivenUp whole run (cache.Create block start bytes (named gs (Some writer) after) undo) answer
IsGroupGivenUpBy whole run gs Group answer = LacksMemory (why_not_begun gs) answer
IsGroupGivenUpBy whole run gs (Engage writer group) answer = LacksMemory (why_not_engaged gs writer group) answer
IsGroupGivenUpBy whole run gs (Disengage writer group) answer = ⊥
IsGroupGivenUpBy whole run gs (Depend group on) answer = LacksMemory (why_not_ordered gs group on) answer
IsGroupGivenUpBy whole run gs (Close group) answer = ⊥
IsGroupGivenUpBy whole run gs (Pending group) answer = ⊥

abbrev pub IsGroupGivenUp : Execution → Groups → Ask → Answer → Type 0
IsGroupGivenUp run gs ask answer = IsGroupGivenUpBy true run gs ask answer

-- What the cache did of it.

-- an ask of the cache, and its answer
abbrev pub Part : Type 0
Part = CacheAsk × CacheAnswer

abbrev pub cache_asks : List Part → List CacheAsk
cache_asks parts = map (λ p. p.0) parts

abbrev pub cache_answers : List Part → List CacheAnswer
cache_answers parts = map (λ p. p.1) parts

-- the execution with the steps of the asks that the cache has answered
abbrev pub after_parts : Execution → List Part → Execution
after_parts run parts = after_all run (cache_asks parts) (cache_answers parts)

-- the steps that they have added
abbrev pub steps_of : List Part → List Step
steps_of parts = steps_added (cache_asks parts) (cache_answers parts)

-- the ask with the cache's answer, if it was the cache that answered
abbrev pub answered_by : CacheAsk → Answer → List Part
answered_by ask (Plain answer) = (ask, answer) ∷ []
answered_by ask (GroupMade group) = []
answered_by ask Done = []
answered_by ask (Count count) = []
answered_by ask (Refused cause) = []

-- what the cache did of an ask that was answered: one ask of its own, or none
abbrev pub part_of : Groups → Ask → Answer → List Part
part_of gs ask answer = elim (plain_of gs ask) [ Some plain ↦ answered_by plain answer | None ↦ [] ]

abbrev pub run_after : Execution → Groups → Ask → Answer → Execution
run_after run gs ask answer = after_parts run (part_of gs ask answer)

-- What becomes of the groups.

-- the groups with the patch that the cache made, if it made one
abbrev pub with_made : Groups → ℕ → CacheAnswer → Groups
with_made gs writer (cache.Made number) = with_patch gs (Some writer) number
with_made gs writer (cache.Merged name) = gs
with_made gs writer (cache.Sent block numbers image) = gs
with_made gs writer (cache.Landed block numbers) = gs
with_made gs writer (cache.Seen without cached) = gs
with_made gs writer (cache.Refused cause) = gs

abbrev pub with_answer : Groups → ℕ → Answer → Groups
with_answer gs writer (Plain answer) = with_made gs writer answer
with_answer gs writer (GroupMade group) = gs
with_answer gs writer Done = gs
with_answer gs writer (Count count) = gs
with_answer gs writer (Refused cause) = gs

-- the groups with the change of an ask that was answered so and not refused
abbrev pub changed : Groups → Ask → Answer → Groups
changed gs (Plain ask) answer = gs
changed gs (Patch writer block start bytes after undo) answer = with_answer gs writer answer
changed gs Group answer = begun gs
changed gs (Engage writer group) answer = engaged gs writer group
changed gs (Disengage writer group) answer = disengaged gs writer group
changed gs (Depend group on) answer = ordered gs group on
changed gs (Close group) answer = closed gs group
changed gs (Pending group) answer = gs

-- the groups with the ask's change, unless it was refused
abbrev pub groups_after : Groups → Ask → Answer → Groups
groups_after gs ask answer = if is_refused answer then gs else changed gs ask answer

-- Lists of asks, as far as they are answered.

-- the groups behind them
abbrev pub groups_after_all : Groups → List Ask → List Answer → Groups
groups_after_all gs [] answers = gs
groups_after_all gs (ask ∷ asks) [] = gs
groups_after_all gs (ask ∷ asks) (answer ∷ answers) = groups_after_all (groups_after gs ask answer) asks answers

-- what the cache did of them
abbrev pub parts : Groups → List Ask → List Answer → List Part
parts gs [] answers = []
parts gs (ask ∷ asks) [] = []
parts gs (ask ∷ asks) (answer ∷ answers) = part_of gs ask answer ++ parts (groups_after gs ask answer) asks answers

abbrev pub run_after_all : Execution → Groups → List Ask → List Answer → Execution
run_after_all run gs asks answers = after_parts run (parts gs asks answers)

-- each answer is the right one after the asks before it, or gives up; the asks behind the last answer stay open
abbrev pub AreGroupAnswersBy : (whole : Bool) → Execution → Groups → List Ask → List Answer → Type 0
AreGroupAnswersBy whole run gs asks [] = Unit {0}
AreGroupAnswersBy whole run gs [] (answer ∷ answers) = ⊥
AreGroupAnswersBy whole run gs (ask ∷ asks) (answer ∷ answers) =
    (IsGroupAnswer run gs ask answer ⊎ IsGroupGivenUpBy whole run gs ask answer)
    × AreGroupAnswersBy whole (run_after run gs ask answer) (groups_after gs ask answer) asks answers

abbrev pub AreGroupAnswers : Execution → Groups → List Ask → List Answer → Type 0
AreGroupAnswers run gs asks answers = AreGroupAnswersBy true run gs asks answers
