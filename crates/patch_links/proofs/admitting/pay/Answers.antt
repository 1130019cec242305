use Rattle.std.proofs.Common.{sym, ◌∙◌}
use Rattle.patch_links.proofs.Listings.{lowered-same, lowered-due-now, room-ready, was-not}
use Rattle.patch_links.proofs.admitting.pay.Goals as goal

pub push-requires : goal.push-requires
push-requires g c = room-ready _ _ _ _ c.requires.here (was-not _ _ (sym c.comes_due.ensures.due ∙ c.if-comes_due.true)) c.requires.listed

pub returns-then-comes_due-clause-listed : goal.returns-then-comes_due-clause-listed
returns-then-comes_due-clause-listed g c =
    let due = sym c.comes_due.ensures.due ∙ c.if-comes_due.true in
    rw (c.comes_due.ensures.changed, c.push.ensures) (lowered-due-now _ _ _ _ c.requires.here (rw c.comes_due.ensures.changed at due) c.requires.listed)

pub returns-else-comes_due-clause-listed : goal.returns-else-comes_due-clause-listed
returns-else-comes_due-clause-listed g c =
    let due = sym c.comes_due.ensures.due ∙ c.if-comes_due.false in
    rw c.comes_due.ensures.changed (lowered-same _ _ _ _ c.requires.here (rw c.comes_due.ensures.changed at due) c.requires.listed)
