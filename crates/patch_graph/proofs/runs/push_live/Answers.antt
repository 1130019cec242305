use Rattle.std.proofs.Common.{subst, sym}
use Rattle.patch_links.specs.State.{IsInReach}
use Rattle.patch_graph.specs.Naming.{HasListed}
use Rattle.patch_graph.proofs.Naming.{listed, left_out}
use Rattle.patch_graph.proofs.Places.{ok-if}
use Rattle.patch_graph.proofs.runs.push_live.Goals as goal

pub returns-in_ok-push-in-Some : goal.returns-in_ok-push-in-Some
returns-in_ok-push-in-Some g c =
    let seen = c.args.register.now in
    listed seen.slots seen.numbers c.args.no c.in-Some.key c.reach_at.result c.args.all.now.items c.push.new.self.items (sym c.in-Some.ensures) c.in_ok-push-in-Some.ensures.added
    (λ n i. subst (λ z. IsInReach z n) c.reach_at.ensures i)

pub returns-in-None : goal.returns-in-None
returns-in-None g c =
    let seen = c.args.register.now in
    subst (λ z. HasListed seen.slots seen.numbers c.args.no z c.args.all.now.items c.args.all.now.items) (sym c.none.ensures)
    (left_out seen.slots seen.numbers c.args.no c.args.all.now.items (sym c.in-None.ensures))

pub returns-in_err-push-in-Some : goal.returns-in_err-push-in-Some
returns-in_err-push-in-Some g c = ok-if _ _ c.from_residual.ensures.0
