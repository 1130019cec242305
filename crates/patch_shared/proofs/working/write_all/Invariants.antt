use Rattle.std.proofs.Common.{◌≡◌, vec_len}
use Rattle.patch_shared.proofs.working.write_all.Given as goal

-- each reply so far was counted
abbrev pub invariant-loop-command : goal.invariant-loop-command
invariant-loop-command g l = l.tally.count ≡ vec_len l.replies
