use Rattle.std.proofs.Common.{sym, subst, ◌∙◌}
use Rattle.patch_links.specs.Lists.{IsListed}
use Rattle.patch_links.proofs.Passing.{rest-then}
use Rattle.patch_links.proofs.Withdrawals.{holds-listed, leaving-first, holds-first, rest-first, counted-left, listed-out, listed-back, room-back}
use Rattle.patch_links.proofs.leaving.withdraw.Goals as goal

pub leave-requires : goal.leave-requires
leave-requires g c = record { here = c.requires.here; holds = holds-listed _ _ _ c.requires.listed }

pub pull_each-requires : goal.pull_each-requires
pull_each-requires g c = rw c.leave.ensures.changed (holds-first _ _ _ _ _ (holds-listed _ _ _ c.requires.listed) c.requires.here c.leave.ensures.left)

pub push-requires : goal.push-requires
push-requires g c = room-back _ _ _ _ _ (c.pull_each.ensures.leaving c.args.key (rw c.leave.ensures.changed (leaving-first _ _ _ _ _ _ c.requires.listed c.requires.settled c.requires.linked c.requires.counted
    c.requires.here c.leave.ensures.left))) c.pull_each.ensures.none (sym c.is_due.ensures ∙ c.if-is_due.true)

pub returns-then-is_due-clause-listed : goal.returns-then-is_due-clause-listed
returns-then-is_due-clause-listed g c = subst (IsListed c.args.block c.pull_each.new.nodes.slots) (sym c.push.ensures)
    (listed-back _ _ _ _ _ (c.pull_each.ensures.leaving c.args.key (rw c.leave.ensures.changed (leaving-first _ _ _ _ _ _ c.requires.listed c.requires.settled c.requires.linked c.requires.counted
    c.requires.here c.leave.ensures.left))) c.pull_each.ensures.none (sym c.is_due.ensures ∙ c.if-is_due.true))

pub returns-then-is_due-clause-rest : goal.returns-then-is_due-clause-rest
returns-then-is_due-clause-rest g c = rest-then _ _ _ _ (rest-first _ _ _ c.requires.here) (rw c.leave.ensures.changed at c.pull_each.ensures.rest)

pub returns-then-is_due-clause-out : goal.returns-then-is_due-clause-out
returns-then-is_due-clause-out g c = (c.pull_each.ensures.leaving c.args.key (rw c.leave.ensures.changed (leaving-first _ _ _ _ _ _ c.requires.listed c.requires.settled c.requires.linked c.requires.counted
    c.requires.here c.leave.ensures.left))).off

pub returns-then-is_due-clause-counted : goal.returns-then-is_due-clause-counted
returns-then-is_due-clause-counted g c = counted-left _ _ _ _ _ (c.pull_each.ensures.leaving c.args.key (rw c.leave.ensures.changed (leaving-first _ _ _ _ _ _ c.requires.listed c.requires.settled c.requires.linked c.requires.counted
    c.requires.here c.leave.ensures.left))) c.pull_each.ensures.none

pub returns-else-is_due-clause-listed : goal.returns-else-is_due-clause-listed
returns-else-is_due-clause-listed g c = listed-out _ _ _ _ _ (c.pull_each.ensures.leaving c.args.key (rw c.leave.ensures.changed (leaving-first _ _ _ _ _ _ c.requires.listed c.requires.settled c.requires.linked c.requires.counted
    c.requires.here c.leave.ensures.left))) c.pull_each.ensures.none (sym c.is_due.ensures ∙ c.if-is_due.false)

pub returns-else-is_due-clause-rest : goal.returns-else-is_due-clause-rest
returns-else-is_due-clause-rest g c = rest-then _ _ _ _ (rest-first _ _ _ c.requires.here) (rw c.leave.ensures.changed at c.pull_each.ensures.rest)

pub returns-else-is_due-clause-out : goal.returns-else-is_due-clause-out
returns-else-is_due-clause-out g c = (c.pull_each.ensures.leaving c.args.key (rw c.leave.ensures.changed (leaving-first _ _ _ _ _ _ c.requires.listed c.requires.settled c.requires.linked c.requires.counted
    c.requires.here c.leave.ensures.left))).off

pub returns-else-is_due-clause-counted : goal.returns-else-is_due-clause-counted
returns-else-is_due-clause-counted g c = counted-left _ _ _ _ _ (c.pull_each.ensures.leaving c.args.key (rw c.leave.ensures.changed (leaving-first _ _ _ _ _ _ c.requires.listed c.requires.settled c.requires.linked c.requires.counted
    c.requires.here c.leave.ensures.left))) c.pull_each.ensures.none
