use Rattle.std.proofs.Common.{subst}
use Rattle.patch_shared.specs.Serving.{book_of}
use Rattle.patch_shared.specs.Conversations.{AreTold, commands_in, replies_in}
use Rattle.patch_shared.proofs.Served.{also}
use Rattle.patch_shared.proofs.serving.serve.Goals as goal

pub returns-clause-opening : goal.returns-clause-opening
returns-clause-opening g c = λ blocks fresh. also _ _ c.serve_lists.result (λ finished is. is.opening_is) (c.serve_lists.ensures.served blocks fresh)

pub returns-clause-told : goal.returns-clause-told
returns-clause-told g c = also _ _ c.serve_lists.result (λ finished is.
    subst (λ jobs. AreTold (book_of finished).calls (commands_in jobs) (replies_in finished.replies.items)) c.as_slice.ensures.value is.told)
    (c.serve_lists.ensures.served c.requires.new.0 c.requires.new.1)

pub returns-clause-fault : goal.returns-clause-fault
returns-clause-fault g c = c.serve_lists.ensures.fault

pub returns-clause-kept : goal.returns-clause-kept
returns-clause-kept g c = also _ _ c.serve_lists.result (λ finished is. is.kept) (c.serve_lists.ensures.served c.requires.new.0 c.requires.new.1)

pub returns-clause-all : goal.returns-clause-all
returns-clause-all g c = also _ _ c.serve_lists.result (λ finished is. is.all) (c.serve_lists.ensures.served c.requires.new.0 c.requires.new.1)

pub returns-clause-settled : goal.returns-clause-settled
returns-clause-settled g c = also _ _ c.serve_lists.result (λ finished is. is.settled) (c.serve_lists.ensures.served c.requires.new.0 c.requires.new.1)

pub returns-clause-holds : goal.returns-clause-holds
returns-clause-holds g c = also _ _ c.serve_lists.result (λ finished is. is.holds) (c.serve_lists.ensures.served c.requires.new.0 c.requires.new.1)

pub returns-clause-device : goal.returns-clause-device
returns-clause-device g c = also _ _ c.serve_lists.result (λ finished is. is.same) (c.serve_lists.ensures.served c.requires.new.0 c.requires.new.1)

pub returns-clause-lasts : goal.returns-clause-lasts
returns-clause-lasts g c = also _ _ c.serve_lists.result (λ finished is. is.lasts) (c.serve_lists.ensures.served c.requires.new.0 c.requires.new.1)
