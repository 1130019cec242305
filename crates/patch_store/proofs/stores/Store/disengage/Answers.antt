use Rattle.patch_store.proofs.Gaining.{viewed}
use Rattle.patch_store.proofs.Engaging.{disengaged_so}
use Rattle.patch_store.proofs.stores.Store.disengage.Goals as goal

pub returns-clause-answer : goal.returns-clause-answer
returns-clause-answer g c h was = viewed c.self.view_is (λ w. disengaged_so c.histories_extend.ensures h c.args.writer c.args.group _ c.disengage.new.self c.disengage.result w c.disengage.ensures.done c.disengage.ensures.cause c.disengage.ensures.refused) was
