-- What the writers asked and were told, and what is left when all is done.
use Rattle.std.specs.Prelude.{ℕ, List, [], ◌≡◌, ◌<◌, length, map, filter, count_by, slice_index_or, slice_get, Some, Vec}
use Rattle.patch_model.specs.Execution.{Execution}
use Rattle.patch_model.specs.Entry.{is_live}
use Rattle.patch_model.specs.State.{entries_of}
use Rattle.patch_history.specs.declared.commands.Command.{Command as CodeCommand}
use Rattle.patch_history.specs.declared.commands.Reply.{Reply as CodeReply}
use Rattle.patch_history.specs.Command.{Command, Reply}
use Rattle.patch_history.specs.Commands.{command_of, reply_told}
use Rattle.patch_shared.specs.Books.{Entry, is_by}

abbrev pub entries_by : ℕ → List Entry → List Entry
entries_by n calls = filter (is_by n) calls

-- the writer's entries are these commands with these replies, all of them and in this order
pub record IsTold (n : ℕ) (calls : List Entry) (commands : List Command) (replies : List Reply) : Type 0 where
  pub commands_are : map (λ e. e.command) (entries_by n calls) ≡ commands
  pub replies_are : map (λ e. e.reply) (entries_by n calls) ≡ replies

-- the entry has the command and the reply of this place
pub record IsNext (e : Entry) (next : ℕ) (commands : List Command) (replies : List Reply) : Type 0 where
  pub command_is : slice_get commands next ≡ Some e.command
  pub reply_is : slice_get replies next ≡ Some e.reply

-- each writer's commands, and replies
abbrev pub commands_in : {A : Type 0} → List (Vec (CodeCommand A) A) → List (List Command)
commands_in jobs = map (λ v. map command_of v.items) jobs

abbrev pub replies_in : {A : Type 0} → List (Vec (CodeReply A) A) → List (List Reply)
replies_in replies = map (λ v. map reply_told v.items) replies

-- so it is of each writer
pub record AreTold (calls : List Entry) (jobs : List (List Command)) (replies : List (List Reply)) : Type 0 where
  pub many : length replies ≡ length jobs
  pub each : (n : ℕ) → n < length jobs → IsTold n calls (slice_index_or jobs n []) (slice_index_or replies n [])

-- no patch is in memory or in flight
abbrev pub IsSettled : Execution → Type 0
IsSettled run = count_by is_live (entries_of run) ≡ 0
