use Rattle.std.proofs.Common.{◌≡◌, [], vec_len}
use Rattle.patch_shared.specs.Conversations.{commands_in}
use Rattle.patch_files.specs.Serving.{jobs_by}
use Rattle.patch_files.proofs.jobs.no_jobs.Given as goal

-- none of the writers so far
abbrev pub invariant-loop : goal.invariant-loop
invariant-loop l = (commands_in l.jobs.items ≡ jobs_by l.counter []) × (vec_len l.jobs ≡ l.counter)
