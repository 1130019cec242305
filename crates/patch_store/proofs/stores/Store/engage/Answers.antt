use Rattle.patch_store.proofs.Gaining.{viewed}
use Rattle.patch_store.proofs.Engaging.{engaged_so}
use Rattle.patch_store.proofs.stores.Store.engage.Goals as goal

pub returns-clause-answer : goal.returns-clause-answer
returns-clause-answer g c h was = viewed c.self.view_is (λ w. engaged_so c.histories_extend.ensures h c.args.writer c.args.group _ c.engage.new.self c.engage.result w c.engage.ensures.done c.engage.ensures.cause c.engage.ensures.refused) was
