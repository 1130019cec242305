use Rattle.std.proofs.Common.{true, false, [], sym, subst, ◌∙◌, List, map, refl, ap, ◌+◌, ◌≤◌, length}
use Rattle.patch_cache.specs.Contents.{Contents, drained, state_in, write_in}
use Rattle.patch_cache.specs.Meaning.{IsCacheOf, IsPagedCacheOf}
use Rattle.patch_cache.proofs.SameExecution.{with_trace}
use Rattle.std.proofs.lemmas.Result.{IfOk-from_err}
use Rattle.patch_model.specs.Step.{Step}
use Rattle.patch_model.specs.StepOf.{step_of}
use Rattle.patch_cache.proofs.Stepping.{on_err, empty_fits}
use Rattle.std.specs.Prelude.{vec_capacity}
use Rattle.patch_cache.proofs.caches.Cache.drain_trace.Goals as goal

pub returns-clause-same : goal.returns-clause-same
returns-clause-same g c run r = with_trace true _ (λ _. []) run _ (subst (λ (x : Contents). IsCacheOf x run) (sym c.self.view_is) r)

pub returns-clause-same_paged : goal.returns-clause-same_paged
returns-clause-same_paged g c run r = with_trace false _ (λ _. []) run _ (subst (λ (x : Contents). IsPagedCacheOf x run) (sym c.self.view_is) r)

pub returns-in_err-kept-clause-steps : goal.returns-in_err-kept-clause-steps
returns-in_err-kept-clause-steps g c = IfOk-from_err c.from_residual.result _ c.from_residual.ensures.0

pub returns-in_err-kept-clause-drained : goal.returns-in_err-kept-clause-drained
returns-in_err-kept-clause-drained g c = IfOk-from_err c.from_residual.result _ c.from_residual.ensures.0

pub returns-in_err-kept-clause-same : goal.returns-in_err-kept-clause-same
returns-in_err-kept-clause-same g c = λ run at. at

pub returns-in_err-kept-clause-same_paged : goal.returns-in_err-kept-clause-same_paged
returns-in_err-kept-clause-same_paged g c = λ run at. at

pub returns-in_err-kept-clause-refused : goal.returns-in_err-kept-clause-refused
returns-in_err-kept-clause-refused g c = on_err _ refl

pub returns-clause-steps : goal.returns-clause-steps
returns-clause-steps g c = ap (λ v. map step_of v.items) c.replace.ensures.value ∙ ap (λ (v : Contents). v.trace) c.self.view_is

pub returns-clause-drained : goal.returns-clause-drained
returns-clause-drained g c =
    let with_trace_of = λ (steps : List Step). let v : Contents = record {
      blocks = map state_in c.self.inside.rows.items;
      writes = map write_in c.self.inside.rows.items;
      graph = c.self.inside.graph;
      sends = c.self.inside.sends;
      live = c.self.inside.live;
      trace = steps;
    } in v in
    ap with_trace_of (ap (map step_of) (ap (λ v. v.items) c.replace.ensures.after ∙ c.in_ok-kept.ensures.items)) ∙ ap drained c.self.view_is

pub returns-clause-refused : goal.returns-clause-refused
returns-clause-refused g c = tt

pub invariant_of-self : goal.invariant_of-self
invariant_of-self g c = (
  c.self.invariant.0,
  c.self.invariant.1,
  subst (λ v. length v.items + c.self.inside.under_way ≤ vec_capacity v) (sym c.replace.ensures.after)
      (empty_fits _ _ _ (ap length c.in_ok-kept.ensures.items) c.in_ok-kept.ensures.capacity),
)
