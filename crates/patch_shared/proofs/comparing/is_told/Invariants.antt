use Rattle.std.proofs.Common.{◌≡◌, ◌≤◌, length, take, map}
use Rattle.patch_history.specs.Commands.{command_of, reply_told}
use Rattle.patch_shared.specs.Books.{entry_of}
use Rattle.patch_shared.specs.Conversations.{entries_by}
use Rattle.patch_shared.proofs.comparing.is_told.Given as goal

-- the writer's entries so far are its first commands and replies
abbrev pub invariant-loop-entry : goal.invariant-loop-entry
invariant-loop-entry l = record {
  within : l.next ≤ length l.jobs;
  commands_are : map (λ e. e.command) (entries_by l.writer (map entry_of (take l.entry-index l.calls))) ≡ take l.next (map command_of l.jobs);
  replies_are : map (λ e. e.reply) (entries_by l.writer (map entry_of (take l.entry-index l.calls))) ≡ take l.next (map reply_told l.replies);
}
