use Rattle.std.proofs.Common.{◌∙◌, [], map, ap, arith}
use Rattle.patch_history.specs.Commands.{command_of}
use Rattle.patch_shared.specs.Conversations.{commands_in}
use Rattle.patch_files.proofs.Writers.{jobs_more}
use Rattle.patch_files.proofs.jobs.no_jobs.Goals as goal

pub loop-preserved : goal.loop-preserved
loop-preserved c = (
  ap commands_in c.in_ok-push.ensures.items
      ∙ jobs_more c.loop.jobs.items c.new.result c.loop.counter [] c.loop.invariant.0 (ap (map command_of) c.new.ensures.items),
  omega (arith, c.in_ok-push.ensures.len, c.loop.invariant.1),
)
