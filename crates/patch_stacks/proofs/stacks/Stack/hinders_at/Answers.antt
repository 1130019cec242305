use Rattle.std.proofs.Common.{rules}
use Rattle.patch_stacks.proofs.stacks.Stack.hinders_at.Goals as goal

pub returns-then-is_taken_at : goal.returns-then-is_taken_at
returns-then-is_taken_at g c = search rules

pub returns-else-is_taken_at : goal.returns-else-is_taken_at
returns-else-is_taken_at g c = search rules
