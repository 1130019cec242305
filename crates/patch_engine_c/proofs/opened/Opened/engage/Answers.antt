use Rattle.patch_plans.specs.Groups.{why_not_engaged, engaged}
use Rattle.patch_engine_c.proofs.Telling.{regrouped_so, writer_so}
use Rattle.patch_cache.specs.Refusals.{IsCause}
use Rattle.std.proofs.Common.{◌∙◌, sym}
use Rattle.patch_handles.specs.Answering.{engaging_writer}
use Rattle.patch_engine_c.proofs.opened.Opened.engage.Goals as goal

pub returns : goal.returns
returns c =
    writer_so (engaging_writer c.args.writer) c.in-Some.writer _ _ (sym c.engaging_writer.ensures ∙ c.in-Some.is)
    (regrouped_so (IsCause (why_not_engaged c.args.self.now.engine.groups c.in-Some.writer c.args.group)) (why_not_engaged c.args.self.now.engine.groups c.in-Some.writer c.args.group) (engaged c.args.self.now.engine.groups c.in-Some.writer c.args.group) c.args.self.now.engine c.engage.new.self c.engage.result c.told.result
    c.told.ensures c.engage.ensures.done c.engage.ensures.stands c.engage.ensures.cause c.engage.ensures.rest c.engage.ensures.refused)
