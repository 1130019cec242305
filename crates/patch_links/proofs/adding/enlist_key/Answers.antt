use Rattle.std.proofs.Common.{sym, ◌∙◌, arith}
use Rattle.patch_links.proofs.Listings.{ready-most}
use Rattle.patch_links.proofs.Newcomers.{listed-waiting, listed-coming}
use Rattle.patch_links.proofs.adding.enlist_key.Goals as goal

pub push-requires : goal.push-requires
push-requires g c =
    let most = ready-most _ _ _ c.requires.listed in
    let room = c.requires.room.0 in
    rw c.add.ensures (omega arith)

pub returns-then-is_due : goal.returns-then-is_due
returns-then-is_due g c = rw (c.push.ensures, c.add.ensures) (listed-coming c.args.block c.args.key c.requires.before c.args.nodes.now.slots c.requires.newcomer c.args.list.now c.requires.listed
    c.requires.room.0 c.requires.room.1 (sym c.is_due.ensures ∙ c.if-is_due.true))

pub returns-else-is_due : goal.returns-else-is_due
returns-else-is_due g c = rw c.add.ensures (listed-waiting c.args.block c.args.key c.requires.before c.args.nodes.now.slots c.requires.newcomer c.args.list.now c.requires.listed
    c.requires.room.0 c.requires.room.1 (sym c.is_due.ensures ∙ c.if-is_due.false))
