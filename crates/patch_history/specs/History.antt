-- A list of calls, with the steps of each, and the writes between them.
use Rattle.std.specs.Prelude.{ℕ, Bool, true, false, ◌≡◌, ◌≢◌, ◌⊎◌, ◌+◌, All, IsTrue, MatchBool, List, [], ◌∷◌}
use Rattle.std.specs.Prelude.{◌++◌, length, fold, flat_map, Ok}
use Rattle.patch_model.specs.declared.refusals.RefusalKind.TheVariants as kind
use Rattle.patch_model.specs.Step.{Step, Send, Complete}
use Rattle.patch_model.specs.Execution.{Execution, extended}
use Rattle.patch_model.specs.Legal.{IsLegal}
use Rattle.patch_model.specs.Refusing.{bare}
use Rattle.patch_frame.specs.Field.{AreBytes}
use Rattle.patch_recovery.specs.Change.{Made}
use Rattle.patch_recovery.specs.Ledger.{Ledger, after_all}
use Rattle.patch_recovery.specs.Reading.{reading}
use Rattle.patch_plans.specs.Writing.{written, steps_by}
use Rattle.patch_history.specs.Command.{Command, Reply, Refused, is_refused, takes_memory, may_be_cut}
use Rattle.patch_history.specs.StoreState.{Standing, at_opening, made_by, plan_of, after_call}
use Rattle.patch_history.specs.Refusing.{reply_of}

-- a writer's command, its reply and its steps; or a step of a write, between the calls
pub data Event : Type 0 where
  Call : (writer : ℕ) (command : Command) (reply : Reply) (steps : List Step) → Event
  Moved : (step : Step) → Event

-- the blocks that were opened, what they read as, and all that happened since, the oldest first
pub record History : Type 0 where
  pub opening : List (List ℕ)
  pub first : Ledger
  pub events : List Event

-- the steps of an event
abbrev pub steps_in : Event → List Step
steps_in (Call writer command reply steps) = steps
steps_in (Moved step) = step ∷ []

abbrev pub steps_of : History → List Step
steps_of h = flat_map steps_in h.events

abbrev pub execution_of : History → Execution
execution_of h = record { first = h.opening; steps = steps_of h }

-- how the store stands after one more event
abbrev pub after_event : Standing → Event → Standing
after_event st (Call writer command reply steps) = after_call st writer command reply steps
after_event st (Moved step) = record st { run = extended st.run step }

abbrev pub standing_of : History → Standing
standing_of h = fold after_event (at_opening h.opening h.first) h.events

-- what the blocks hold with all changes
abbrev pub ledger_of : History → Ledger
ledger_of h = after_all h.first (standing_of h).made

-- How each event is right where it stands.

-- the steps are those of a plan, with some of its merges
abbrev pub IsWhole : Standing → List Made → List Step → Type 0
IsWhole st plan steps =
    (choices : List Bool) × (steps ≡ steps_by choices (written st.shelf.extents (made_by st) plan))

-- they are some first ones of such steps, and not all of them
abbrev pub IsCut : Standing → List Made → List Step → Type 0
IsCut st plan steps = (rest : List Step) × (rest ≢ []) × IsWhole st plan (steps ++ rest)

-- A command is answered right. One that is refused has no steps, and every other one all of its own.
abbrev pub IsAnswered : Standing → (writer : ℕ) → Command → Reply → List Step → Type 0
IsAnswered st writer command reply steps =
    (reply ≡ reply_of st writer command)
    × MatchBool (is_refused reply) (steps ≡ []) (IsWhole st (plan_of st writer command) steps)

-- A command that takes memory, and that no cause stands against, is given up for want of it. A put or a reclaim may
-- have made some first patches by then.
pub record IsGivenUp (st : Standing) (writer : ℕ) (command : Command) (reply : Reply) (steps : List Step)
    : Type 0 where
  pub takes : takes_memory command ≡ true
  pub no_cause : is_refused (reply_of st writer command) ≡ false
  pub reply_is : reply ≡ Refused (bare kind.OutOfMemory)
  pub cut : MatchBool (may_be_cut command) (IsCut st (plan_of st writer command) steps) (steps ≡ [])

-- a write begins or ends
abbrev pub is_write : Step → Bool
is_write (Send block) = true
is_write (Complete block) = true
is_write _ = false

abbrev pub IsRight : Standing → Event → Type 0
IsRight st (Call writer command reply steps) =
    IsAnswered st writer command reply steps ⊎ IsGivenUp st writer command reply steps
IsRight st (Moved step) = IsTrue (is_write step)

abbrev pub AreRight : Standing → List Event → Type 0
AreRight st [] = Unit {0}
AreRight st (event ∷ events) = IsRight st event × AreRight (after_event st event) events

-- The blocks have bytes and were such as can be opened, each step is legal, and each event right where it stands: by the
-- blocks and the events before it, and nothing else.
pub record IsLegalHistory (h : History) : Type 0 where
  pub bytes : All AreBytes h.opening
  pub reads : reading h.opening ≡ Ok h.first
  pub legal : IsLegal (execution_of h)
  pub right : AreRight (at_opening h.opening h.first) h.events

-- the history with one more event
abbrev pub with_event : History → Event → History
with_event h event = record h { events = h.events ++ event ∷ [] }

-- How a book keeps a history: its calls, each with the counts of steps at its start and at its end, and all steps.

pub record BookCall : Type 0 where
  pub writer : ℕ
  pub command : Command
  pub reply : Reply
  pub before : ℕ
  pub after : ℕ

-- the calls of some events, before which there were so many steps
abbrev pub calls_from : ℕ → List Event → List BookCall
calls_from n [] = []
calls_from n (Call writer command reply steps ∷ events) =
    record { writer = writer; command = command; reply = reply; before = n; after = n + length steps }
    ∷ calls_from (n + length steps) events
calls_from n (Moved step ∷ events) = calls_from (n + 1) events

abbrev pub calls_of : History → List BookCall
calls_of h = calls_from 0 h.events
