use Rattle.patch_store.proofs.Gaining.{viewed}
use Rattle.patch_store.proofs.Engaging.{ordered_so}
use Rattle.patch_store.proofs.stores.Store.depend.Goals as goal

pub returns-clause-answer : goal.returns-clause-answer
returns-clause-answer g c writer h was = viewed c.self.view_is (λ w. ordered_so c.histories_extend.ensures h writer c.args.group c.args.on _ c.depend.new.self c.depend.result w c.depend.ensures.done c.depend.ensures.cause c.depend.ensures.refused) was
