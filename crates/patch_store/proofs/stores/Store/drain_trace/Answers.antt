use Rattle.std.proofs.Common.{sym, subst}
use Rattle.patch_store.specs.Meaning.{IsStoreOf}
use Rattle.patch_store.proofs.Gaining.{drained_so}
use Rattle.patch_store.proofs.stores.Store.drain_trace.Goals as goal

pub returns-clause-same : goal.returns-clause-same
returns-clause-same g c h was = drained_so h _ c.drain_trace.new.self (subst (λ s. IsStoreOf s h) (sym c.self.view_is) was) c.drain_trace.ensures.same
