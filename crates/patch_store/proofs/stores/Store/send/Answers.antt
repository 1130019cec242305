use Rattle.std.proofs.Common.{◌∙◌, ◌++◌, ◌∷◌, [], sym, ap, subst}
use Rattle.patch_model.specs.Step.{Send}
use Rattle.patch_cache.specs.Contents.{Contents}
use Rattle.patch_cache.specs.Meaning.{IsCacheOf}
use Rattle.patch_history.specs.History.{execution_of}
use Rattle.patch_store.specs.Meaning.{IsStoreOf}
use Rattle.patch_store.proofs.Writing.{begun_view}
use Rattle.patch_store.proofs.stores.Store.send.Goals as goal

pub returns-in_default-clause-sent : goal.returns-in_default-clause-sent
returns-in_default-clause-sent g c h was =
    let w = subst (λ s. IsStoreOf s h) (sym c.self.view_is) was in
    c.in_default.ensures.answer (execution_of h) w.cache_is

pub returns-clause-sent : goal.returns-clause-sent
returns-clause-sent g c h =
    begun_view c.histories_extend.ensures c.self.view_is h c.in-Ok.flight c.in-Some.block c.send.new.self
    (λ run stands. c.in-Some.ensures.answer run stands)
    (λ run stands. (c.in-Ok.ensures.sent run (subst (λ k. IsCacheOf k run) (sym c.next_ready.ensures.same) stands)).1)
    (c.in-Ok.ensures.trace ∙ ap (λ (k : Contents). k.trace ++ Send c.in-Some.block ∷ []) c.next_ready.ensures.same)
