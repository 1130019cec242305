use Rattle.std.proofs.Common.{◌∙◌, ap}
use Rattle.std.specs.Prelude.{Some}
use Rattle.patch_history.specs.History.{History}
use Rattle.patch_store.specs.Meaning.{IsStoreOf}
use Rattle.patch_c.specs.declared.opened.Opened.{Opened}
use Rattle.patch_c.specs.Handle.{KeepsRest}
use Rattle.patch_c.specs.Renewing.{IsRenewed}
use Rattle.patch_c.proofs.Between.{between_so}
use Rattle.patch_c.proofs.renewing.fstch_core_renew.Goals as goal

pub returns-clause-renewed : goal.returns-clause-renewed
returns-clause-renewed c =
    between_so c.args.handle.now c.put_back.new.self c.deref_mut.result.now c.renew.new.self
    (λ before after. (h : History) → IsStoreOf before.store h → IsRenewed h before.store after.store)
    (ap (λ (o : Opened). Some o) c.deref_mut.ensures.value ∙ c.in-Some.ensures.value) c.put_back.ensures.value c.renew.ensures.renewed

pub returns-clause-rest : goal.returns-clause-rest
returns-clause-rest c =
    between_so c.args.handle.now c.put_back.new.self c.deref_mut.result.now c.renew.new.self KeepsRest
    (ap (λ (o : Opened). Some o) c.deref_mut.ensures.value ∙ c.in-Some.ensures.value) c.put_back.ensures.value c.renew.ensures.rest
