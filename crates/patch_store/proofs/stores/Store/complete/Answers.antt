use Rattle.std.proofs.Common.{sym, subst}
use Rattle.patch_history.specs.History.{execution_of}
use Rattle.patch_store.specs.Meaning.{IsStoreOf}
use Rattle.patch_store.proofs.Writing.{ended_at}
use Rattle.patch_store.proofs.stores.Store.complete.Goals as goal

pub returns-clause-done : goal.returns-clause-done
returns-clause-done g c h = ended_at c.histories_extend.ensures c.self.view_is h c.args.landed c.complete.new.self c.complete.result c.complete.ensures.done c.complete.ensures.trace

pub returns-clause-stranger : goal.returns-clause-stranger
returns-clause-stranger g c h was =
    let w = subst (λ s. IsStoreOf s h) (sym c.self.view_is) was in
    c.complete.ensures.stranger (execution_of h) w.cache_is
