use Rattle.std.proofs.Common.{◌≡◌, ◌++◌, List, vec_len}
use Rattle.patch_commands.specs.declared.commands.CommandLine.{CommandLine}
use Rattle.patch_shared.specs.Conversations.{commands_in}
use Rattle.patch_files.specs.Serving.{jobs_by}
use Rattle.patch_files.proofs.jobs.jobs_of.Given as goal

-- the commands of the lines so far, and the others are left
abbrev pub invariant-loop-line : goal.invariant-loop-line
invariant-loop-line l =
    (goal.iterator-loop-line).can_next l.line-iterator
    × (goal.iterator-loop-line).is_finite l.line-iterator
    × (vec_len l.jobs ≡ l.fn.writers)
    × ((first : List CommandLine) × (first ++ l.line-iterator.rest.items ≡ l.fn.lines.items) × (commands_in l.jobs.items ≡ jobs_by l.fn.writers first))
