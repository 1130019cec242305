-- A list of commands that a store goes through.
use Rattle.std.specs.Prelude.{ℕ, ◌≡◌, List, [], ◌∷◌, ◌++◌, length, map, flat_map, Vec, Result, Ok, Err}
use Rattle.patch_model.specs.declared.refusals.OutOfMemory.{OutOfMemory}
use Rattle.patch_model.specs.Step.{Step}
use Rattle.patch_history.specs.declared.commands.Command.{Command as CodeCommand}
use Rattle.patch_history.specs.declared.commands.Reply.{Reply as CodeReply}
use Rattle.patch_history.specs.Command.{Command, Reply}
use Rattle.patch_history.specs.Commands.{asked_by, reply_told}
use Rattle.patch_history.specs.History.{History, Event, Call, steps_in}
use Rattle.patch_store.specs.Meaning.{Store, IsStoreOf}

-- each command with its writer
abbrev pub commands_of : {A : Type 0} → List (ℕ × CodeCommand A) → List (ℕ × Command)
commands_of commands = map asked_by commands

-- the replies to a list, whether there was room for all of them or not
abbrev pub replies_in : {A : Type 0} → Result (Vec (CodeReply A) A) (Vec (CodeReply A) A × OutOfMemory) → List Reply
replies_in (Ok replies) = map reply_told replies.items
replies_in (Err stopped) = map reply_told stopped.0.items

-- the calls of the first commands, one for each reply, with the steps that each took
abbrev pub calls : List (ℕ × Command) → List Reply → List (List Step) → List Event
calls (c ∷ commands) (reply ∷ replies) (steps ∷ each) = Call c.0 c.1 reply steps ∷ calls commands replies each
calls _ _ _ = []

-- the history with these calls at its end
abbrev pub with_calls : History → List Event → History
with_calls h events = record h { events = h.events ++ events }

-- Each command that has a reply was called, in order: the store represents the history with these calls, of which each is
-- right where it stands, and the trace has their steps.
pub record HasRun (h : History) (commands : List (ℕ × Command)) (replies : List Reply) (old new : Store) : Type 0 where
  pub each : List (List Step)
  pub many : length each ≡ length replies
  pub represents : IsStoreOf new (with_calls h (calls commands replies each))
  pub trace_is : new.cache.trace ≡ old.cache.trace ++ flat_map steps_in (calls commands replies each)

-- so it is behind each history that the store represented
abbrev pub RunsAll : List (ℕ × Command) → List Reply → (old new : Store) → Type 0
RunsAll commands replies old new = (h : History) → IsStoreOf old h → HasRun h commands replies old new
