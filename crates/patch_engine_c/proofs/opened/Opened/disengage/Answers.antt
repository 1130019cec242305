use Rattle.patch_plans.specs.Groups.{why_not_disengaged, disengaged}
use Rattle.patch_engine_c.proofs.Telling.{regrouped_so, writer_so}
use Rattle.std.specs.Prelude.{◌≡◌, Some}
use Rattle.std.proofs.Common.{◌∙◌, sym}
use Rattle.patch_handles.specs.Answering.{engaging_writer}
use Rattle.patch_engine_c.proofs.opened.Opened.disengage.Goals as goal

pub returns : goal.returns
returns c =
    writer_so (engaging_writer c.args.writer) c.in-Some.writer _ _ (sym c.engaging_writer.ensures ∙ c.in-Some.is)
    (regrouped_so (λ cause. why_not_disengaged c.args.self.now.engine.groups c.in-Some.writer c.args.group ≡ Some cause) (why_not_disengaged c.args.self.now.engine.groups c.in-Some.writer c.args.group) (disengaged c.args.self.now.engine.groups c.in-Some.writer c.args.group) c.args.self.now.engine c.disengage.new.self c.disengage.result c.told.result
    c.told.ensures c.disengage.ensures.done c.disengage.ensures.stands c.disengage.ensures.cause c.disengage.ensures.rest c.disengage.ensures.refused)
