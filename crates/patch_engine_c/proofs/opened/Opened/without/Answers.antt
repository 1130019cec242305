use Rattle.std.proofs.Common.{◌≡◌, ◌∙◌, length, ap, subst}
use Rattle.std.specs.Prelude.{Some}
use Rattle.patch_engine.specs.Refusals.{without_cause}
use Rattle.patch_engine.specs.Showing.{why_not_without}
use Rattle.patch_handles.specs.Answering.{number_of}
use Rattle.patch_engine_c.specs.Reading.{is_refused}
use Rattle.patch_engine_c.proofs.opened.Opened.without.Goals as goal

pub returns : goal.returns
returns c run is =
    let engine = c.args.self.now.engine in (
      is_refused c.in-Err.refusal (ap number_of c.unshown.ensures.answer)
          (subst (λ patches. why_not_without engine.cache run c.args.block patches c.args.start (length c.args.into.now) ≡ Some (without_cause c.in-Err.refusal))
          (c.deref.ensures.value ∙ c.in-Ok.ensures) (c.in-Err.ensures.cause run is))
          c.in-Err.ensures.refused c.unshown.ensures.which,
      c.in-Err.ensures.same run is,
    )
