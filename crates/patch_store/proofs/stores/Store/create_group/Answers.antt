use Rattle.patch_store.proofs.Gaining.{viewed}
use Rattle.patch_store.proofs.Engaging.{begun_so}
use Rattle.patch_store.proofs.stores.Store.create_group.Goals as goal

pub returns-clause-answer : goal.returns-clause-answer
returns-clause-answer g c writer h was = viewed c.self.view_is (λ w. begun_so c.histories_extend.ensures h writer _ c.create.new.self c.create.result w c.create.ensures.made c.create.ensures.cause c.create.ensures.refused) was
