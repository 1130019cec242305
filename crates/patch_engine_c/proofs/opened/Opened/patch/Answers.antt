use Rattle.std.proofs.Common.{◌∙◌, refl, sym, subst, inr}
use Rattle.patch_model.specs.declared.refusals.RefusalKind.TheVariants as kind
use Rattle.patch_model.specs.Refusing.{bare}
use Rattle.patch_cache.specs.Paging.{if_resident}
use Rattle.patch_cache.specs.Refusals.{create_cause}
use Rattle.patch_plans.specs.Groups.{why_not_patched}
use Rattle.patch_group.specs.Refusals.{IsCauseOf}
use Rattle.patch_handles.specs.Answering.{patching_writer}
use Rattle.patch_engine_c.proofs.Telling.{refused_so, writer_so}
use Rattle.patch_engine_c.proofs.opened.Opened.patch.Goals as goal

pub returns-in_default-patches_of : goal.returns-in_default-patches_of
returns-in_default-patches_of c =
    writer_so (patching_writer c.args.writer) c.in-Some.writer _ _ (sym c.patching_writer.ensures ∙ c.in-Some.is)
    (λ run is. refused_so kind.OutOfMemory (bare kind.OutOfMemory) _ _ refl (inr refl, refl, refl))

pub returns : goal.returns
returns c =
    let engine = c.args.self.now.engine in
    writer_so (patching_writer c.args.writer) c.in-Some.writer _ _ (sym c.patching_writer.ensures ∙ c.in-Some.is)
    (λ run is. refused_so c.kind.result (create_cause c.in-Err.refusal) _ _ c.kind.ensures (
      subst (λ after. IsCauseOf (if_resident engine.cache c.args.block (why_not_patched run engine.groups c.in-Some.writer c.args.block c.args.start c.args.bytes.now after)) (create_cause c.in-Err.refusal))
          (c.deref.ensures.value ∙ c.in-Ok.ensures) (c.in-Err.ensures.cause run is),
      c.in-Err.ensures.refused,
      refl,
    ))
