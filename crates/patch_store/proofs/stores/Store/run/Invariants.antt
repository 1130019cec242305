use Rattle.std.proofs.Common.{◌≡◌, length, map}
use Rattle.patch_history.specs.Commands.{reply_told}
use Rattle.patch_store.specs.Running.{commands_of, RunsAll}
use Rattle.patch_store.proofs.stores.Store.run.Given as goal

-- each command so far was answered
abbrev pub invariant-loop-asked : goal.invariant-loop-asked
invariant-loop-asked g l = record {
  many : length l.replies.items ≡ l.asked-index;
  ran : RunsAll (commands_of l.commands) (map reply_told l.replies.items) l.fn.self l.self;
}
