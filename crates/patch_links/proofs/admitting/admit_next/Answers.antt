use Rattle.std.proofs.Common.{refl}
use Rattle.patch_links.proofs.Listings.{next-is, listed-next, due-of}
use Rattle.patch_links.proofs.Passing.{rest-then, changed-rest, admitted-owed}
use Rattle.patch_links.proofs.admitting.admit_next.Goals as goal

pub pay_all-requires : goal.pay_all-requires
pay_all-requires g c = rw (c.put_ready.ensures, c.next-key.ensures.counted) (listed-next _ _ _ _ c.requires.listed c.requires.some c.next-key.ensures.key)

pub returns-clause-rest : goal.returns-clause-rest
returns-clause-rest g c =
    let next = next-is _ _ _ _ c.requires.listed c.requires.some c.next-key.ensures.key in
    rest-then _ _ _ _ (changed-rest _ _ _ _ (λ x. refl) (due-of c.args.block c.args.nodes.now.slots c.next-key.result next.0)) (rw c.put_ready.ensures at c.pay_all.ensures.rest)

pub returns-clause-owed : goal.returns-clause-owed
returns-clause-owed g c =
    let next = next-is _ _ _ _ c.requires.listed c.requires.some c.next-key.ensures.key in
    admitted-owed c.args.block c.next-key.result c.args.keys.now.numbers c.args.nodes.now.slots c.pay_all.new.nodes.slots (due-of c.args.block c.args.nodes.now.slots c.next-key.result next.0) next.1 c.requires.linked
    (rw c.put_ready.ensures at c.pay_all.ensures.paid)
