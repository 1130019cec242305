use Rattle.std.proofs.Common.{◌∙◌, refl, ap}
use Rattle.patch_model.specs.declared.refusals.Refusal.{Refusal}
use Rattle.patch_cache.specs.Refusals.{merge_cause}
use Rattle.patch_handles.specs.Answering.{number_told}
use Rattle.patch_engine_c.proofs.Telling.{refused_with}
use Rattle.patch_engine_c.proofs.opened.Opened.merge.Goals as goal

pub returns-in-Err : goal.returns-in-Err
returns-in-Err c run is =
    refused_with c.refused.result c.refusal.result (merge_cause c.in-Err.refusal) _ _ c.refused.ensures.answer c.refusal.ensures
    (c.in-Err.ensures.cause run is, c.in-Err.ensures.refused, refl, c.refused.ensures.number ∙ ap (λ (r : Refusal). number_told r c.args.which.now) c.refusal.ensures)
