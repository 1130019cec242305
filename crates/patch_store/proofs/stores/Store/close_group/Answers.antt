use Rattle.patch_store.proofs.Gaining.{viewed}
use Rattle.patch_store.proofs.Engaging.{closed_so}
use Rattle.patch_store.proofs.stores.Store.close_group.Goals as goal

pub returns-clause-answer : goal.returns-clause-answer
returns-clause-answer g c writer h was = viewed c.self.view_is (λ w. closed_so c.histories_extend.ensures h writer c.args.group _ c.close.new.self c.close.result w c.close.ensures.done c.close.ensures.cause c.close.ensures.refused) was
