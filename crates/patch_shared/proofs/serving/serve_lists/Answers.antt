use Rattle.std.proofs.Common.{ℕ, List, sym, subst}
use Rattle.std.specs.Prelude.{IfOk}
use Rattle.patch_cache.specs.Meaning.{IsCacheOf}
use Rattle.patch_shared.specs.Serving.{IsServed}
use Rattle.patch_shared.specs.Conversations.{commands_in}
use Rattle.patch_shared.proofs.Calls.{opened_on}
use Rattle.patch_shared.proofs.serving.serve_lists.Goals as goal

pub returns-clause-served : goal.returns-clause-served
returns-clause-served g c = λ blocks fresh.
    subst (λ (on : List (List ℕ)). IfOk c.serve_over.result (IsServed g.D.Device c.args.device on (commands_in c.args.jobs.now)))
    (opened_on c.args.store c.in-Ok.opening.items blocks fresh (λ run stands. c.in-Ok.ensures run (subst (λ k. IsCacheOf k run) (sym c.cache.ensures) stands)))
    c.serve_over.ensures.served

pub returns-clause-fault : goal.returns-clause-fault
returns-clause-fault g c = c.serve_over.ensures.fault
