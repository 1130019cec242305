-- A list of asks of a cache with groups, answered one after another.
use Rattle.std.specs.Prelude.{Bool, true, false, ◌≡◌, ◌⊎◌, List, [], ◌++◌, map, Vec, Result, Ok, Err}
use Rattle.patch_model.specs.declared.refusals.OutOfMemory.{OutOfMemory}
use Rattle.patch_model.specs.Step.{Step}
use Rattle.patch_model.specs.Execution.{Execution}
use Rattle.patch_device.specs.declared.devices.Device.{Ghosts}
use Rattle.patch_cache.specs.Meaning.{IsCacheBy}
use Rattle.patch_cache.specs.Contents.{Contents}
use Rattle.patch_cache.specs.Asks.{ask_of, answer_of}
use Rattle.patch_cache.specs.Asks as cache
use Rattle.patch_cache.specs.Running.{RunsOnBy, LeavesSafe, CountFaults, HaveAllWritten}
use Rattle.patch_cache.specs.Waves.{HoldImages}
use Rattle.patch_cache.specs.declared.flights.Flights.{Flights}
use Rattle.patch_plans.specs.Groups.{Groups}
use Rattle.patch_group.specs.Asks.{Ask, Answer, Part, Plain, Patch, Group, Engage, Disengage, Depend, Close, Pending, GroupMade, Done, Count, Refused, IsGroupAnswer, IsGroupGivenUp, IsGroupGivenUpBy, cache_asks, cache_answers, after_parts, steps_of, part_of, parts, run_after, run_after_all, groups_after, AreGroupAnswersBy}
use Rattle.patch_plans.specs.Order.{AreGroupsOf}
use Rattle.patch_group.specs.Refusals.{group_cause}
use Rattle.patch_group.specs.declared.asks.GroupAsk.{GroupAsk as CodeAsk}
use Rattle.patch_group.specs.declared.asks.GroupAsk.TheVariants as code_ask
use Rattle.patch_group.specs.declared.asks.GroupAnswer.{GroupAnswer as CodeAnswer}
use Rattle.patch_group.specs.declared.asks.GroupAnswer.TheVariants as code_answer

-- the code's
abbrev pub group_ask_of : {A : Type 0} → CodeAsk A → Ask
group_ask_of (code_ask.Plain ask) = Plain (ask_of ask)
group_ask_of (code_ask.Patch writer block start bytes after undo) = Patch writer block start bytes after undo
group_ask_of code_ask.Group = Group
group_ask_of (code_ask.Engage writer group) = Engage writer group
group_ask_of (code_ask.Disengage writer group) = Disengage writer group
group_ask_of (code_ask.Depend group on) = Depend group on
group_ask_of (code_ask.Close group) = Close group
group_ask_of (code_ask.Pending group) = Pending group

abbrev pub group_answer_of : {A : Type 0} → CodeAnswer A → Answer
group_answer_of (code_answer.Plain answer) = Plain (answer_of answer)
group_answer_of (code_answer.GroupMade group) = GroupMade group
group_answer_of code_answer.Done = Done
group_answer_of (code_answer.Count count) = Count count
group_answer_of (code_answer.Refused refusal) = Refused (group_cause refusal)

-- the answers of a run, whether it had room for all of them or not
abbrev pub group_answers_in : {A : Type 0} → Result (Vec (CodeAnswer A) A) (Vec (CodeAnswer A) A × OutOfMemory) → List Answer
group_answers_in (Ok answers) = map group_answer_of answers.items
group_answers_in (Err stopped) = map group_answer_of stopped.0.items

abbrev pub asks_of : {A : Type 0} → List (CodeAsk A) → List Ask
asks_of asks = map group_ask_of asks

-- the cache runs on a device that has its blocks, and the groups are those of the execution's patches
pub record RunsWithBy {A D : Type 0} (g : Ghosts D) (whole : Bool) (cache : Contents) (flights : Flights A) (groups : Groups) (device : D) (run : Execution) : Type 0 where
  pub on : RunsOnBy g whole cache flights device run
  pub groups_are : AreGroupsOf run groups

-- and the cache has all its blocks
abbrev pub RunsWith : {A D : Type 0} → Ghosts D → Contents → Flights A → Groups → D → Execution → Type 0
RunsWith g cache flights groups device run = RunsWithBy g true cache flights groups device run

-- The cache has done its part: it stands behind the steps of it, with its flights and the groups; each fault that was told was
-- counted; and of an honest device the images were written of what was completed, and nothing else, as a crash may leave them.
pub record HasPassedBy {A D : Type 0} (g : Ghosts D) (whole : Bool) (run : Execution) (done : List Part) (cache : Contents) (flights : Flights A) (groups : Groups) (device device_now : D) : Type 0 where
  pub stands : RunsWithBy g whole cache flights groups device_now (after_parts run done)
  pub faults : CountFaults (cache_answers done) (g.fault_count device) (g.fault_count device_now)
  pub written : HaveAllWritten g run (cache_asks done) (cache_answers done) device device_now
  pub crash : LeavesSafe g run (after_parts run done) device device_now

abbrev pub HasPassed : {A D : Type 0} → Ghosts D → Execution → List Part → Contents → Flights A → Groups → D → D → Type 0
HasPassed g run done cache flights groups device device_now = HasPassedBy g true run done cache flights groups device device_now

-- the ask is answered right or given up, and the cache has done its part of it
pub record IsGroupAnsweredBy {A D : Type 0} (g : Ghosts D) (whole : Bool) (run : Execution) (gs : Groups) (ask : Ask) (answer : Answer) (cache : Contents) (flights : Flights A) (now : Groups) (device device_now : D) : Type 0 where
  pub right : IsGroupAnswer run gs ask answer ⊎ IsGroupGivenUpBy whole run gs ask answer
  pub passed : HasPassedBy g whole run (part_of gs ask answer) cache flights now device device_now

abbrev pub IsGroupAnswered : {A D : Type 0} → Ghosts D → Execution → Groups → Ask → Answer → Contents → Flights A → Groups → D → D → Type 0
IsGroupAnswered g run gs ask answer cache flights now device device_now = IsGroupAnsweredBy g true run gs ask answer cache flights now device device_now

-- so it is, whatever execution they stood behind
abbrev pub AnswersAsk : {A D : Type 0} → Ghosts D → Contents → Flights A → Groups → D → Ask → Answer → Contents → Flights A → Groups → D → Type 0
AnswersAsk g cache flights groups device ask answer cache_now flights_now groups_now device_now =
    (run : Execution) → RunsWith g cache flights groups device run → IsGroupAnswered g run groups ask answer cache_now flights_now groups_now device device_now

-- and so is each of a list, one after another
pub record HasGroupRunBy {A D : Type 0} (g : Ghosts D) (whole : Bool) (run : Execution) (gs : Groups) (asks : List Ask) (answers : List Answer) (cache : Contents) (flights : Flights A) (now : Groups) (device device_now : D) : Type 0 where
  pub right : AreGroupAnswersBy whole run gs asks answers
  pub passed : HasPassedBy g whole run (parts gs asks answers) cache flights now device device_now

abbrev pub HasGroupRun : {A D : Type 0} → Ghosts D → Execution → Groups → List Ask → List Answer → Contents → Flights A → Groups → D → D → Type 0
HasGroupRun g run gs asks answers cache flights now device device_now = HasGroupRunBy g true run gs asks answers cache flights now device device_now

abbrev pub AnswersAsks : {A D : Type 0} → Ghosts D → Contents → Flights A → Groups → D → List Ask → List Answer → Contents → Flights A → Groups → D → Type 0
AnswersAsks g cache flights groups device asks answers cache_now flights_now groups_now device_now =
    (run : Execution) → RunsWith g cache flights groups device run → HasGroupRun g run groups asks answers cache_now flights_now groups_now device device_now

-- A cache that has some of its blocks runs on an honest device, which has the image of each block with no write under way.
pub record RunsWithImages {A D : Type 0} (g : Ghosts D) (cache : Contents) (flights : Flights A) (groups : Groups) (device : D) (run : Execution) : Type 0 where
  pub runs : RunsWithBy g false cache flights groups device run
  pub honest : g.is_honest device
  pub images : HoldImages run (g.contents device)

-- so an ask of it is answered, and the images are there still
pub record IsAnsweredOnImages {A D : Type 0} (g : Ghosts D) (run : Execution) (gs : Groups) (ask : Ask) (answer : Answer) (cache : Contents) (flights : Flights A) (now : Groups) (device device_now : D) : Type 0 where
  pub answered : IsGroupAnsweredBy g false run gs ask answer cache flights now device device_now
  pub images : HoldImages (run_after run gs ask answer) (g.contents device_now)

abbrev pub AnswersOnImages : {A D : Type 0} → Ghosts D → Contents → Flights A → Groups → D → Ask → Answer → Contents → Flights A → Groups → D → Type 0
AnswersOnImages g cache flights groups device ask answer cache_now flights_now groups_now device_now =
    (run : Execution) → RunsWithImages g cache flights groups device run → IsAnsweredOnImages g run groups ask answer cache_now flights_now groups_now device device_now

-- and each of a list
pub record HasGroupRunOnImages {A D : Type 0} (g : Ghosts D) (run : Execution) (gs : Groups) (asks : List Ask) (answers : List Answer) (cache : Contents) (flights : Flights A) (now : Groups) (device device_now : D) : Type 0 where
  pub ran : HasGroupRunBy g false run gs asks answers cache flights now device device_now
  pub images : HoldImages (run_after_all run gs asks answers) (g.contents device_now)

abbrev pub AnswerAllOnImages : {A D : Type 0} → Ghosts D → Contents → Flights A → Groups → D → List Ask → List Answer → Contents → Flights A → Groups → D → Type 0
AnswerAllOnImages g cache flights groups device asks answers cache_now flights_now groups_now device_now =
    (run : Execution) → RunsWithImages g cache flights groups device run → HasGroupRunOnImages g run groups asks answers cache_now flights_now groups_now device device_now

-- a call of groups is answered right or given up, the groups are those after it, and the cache has no part in it
pub record IsCalled (gs : Groups) (ask : Ask) (answer : Answer) (now : Groups) : Type 0 where
  pub right : (run : Execution) → IsGroupAnswer run gs ask answer ⊎ IsGroupGivenUp run gs ask answer
  pub groups_are : now ≡ groups_after gs ask answer
  pub no_part : part_of gs ask answer ≡ []

-- a patch is made as the definitions say, or given up
pub record IsPatchedBy (whole : Bool) (run : Execution) (gs : Groups) (ask : Ask) (answer : Answer) (contents : Contents) : Type 0 where
  pub right : IsGroupAnswer run gs ask answer ⊎ IsGroupGivenUp run gs ask answer
  pub cache_is : IsCacheBy whole contents (run_after run gs ask answer)

abbrev pub IsPatched : Execution → Groups → Ask → Answer → Contents → Type 0
IsPatched run gs ask answer contents = IsPatchedBy true run gs ask answer contents

-- The patches of a writer change the groups and the trace, and meet no fault, whatever the cache represents.
pub record HasPatched (gs : Groups) (ask : Ask) (answer : Answer) (now : Groups) (trace trace_now : List Step) : Type 0 where
  pub groups_are : now ≡ groups_after gs ask answer
  pub trace_is : trace_now ≡ trace ++ steps_of (part_of gs ask answer)
  pub no_fault : (told : cache.Answer) → answer ≡ Plain told → cache.IsFault told → ⊥
