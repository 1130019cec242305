use Rattle.std.proofs.Common.{sym, ap, subst, ◌∙◌}
use Rattle.patch_links.specs.State.{changed_at, slots_of}
use Rattle.patch_links.specs.Lists.{IsListed}
use Rattle.patch_links.specs.Joining.{KeepsOrder, AreClassesJoined}
use Rattle.patch_links.proofs.Orders.{order-same, order-joined, classes-joined, met-fits, nodes-joined, taken-level, taken-moved}
use Rattle.patch_links.proofs.joining.join_alike.Goals as goal

pub absorb_at-requires : goal.absorb_at-requires
absorb_at-requires g c x at = rw c.count_inner-inner.ensures (met-fits c.args.block c.args.keep c.args.gone c.args.nodes.now.slots c.requires.pair c.requires.level c.take_at.new.nodes.slots c.in-Some.other
    c.in-Some.ensures.taken c.in-Some.ensures.others c.args.keys.now.numbers c.requires.tied x at)

pub returns-in-Err-clause-refused : goal.returns-in-Err-clause-refused
returns-in-Err-clause-refused g c = c.put_at.ensures ∙ ap (λ ns. changed_at (λ y. c.in-Some.other) ns c.args.gone) c.in-Err.ensures.refused ∙ c.in-Some.ensures.back c.in-Some.other (sym c.in-Some.ensures.taken)

pub returns-in-Err-clause-listed : goal.returns-in-Err-clause-listed
returns-in-Err-clause-listed g c = subst (λ ns. IsListed c.args.block ns c.args.list.now) (sym (returns-in-Err-clause-refused g c)) c.requires.listed

pub returns-in-Err-clause-order : goal.returns-in-Err-clause-order
returns-in-Err-clause-order g c = subst (λ ns. KeepsOrder c.args.block c.args.nodes.now.slots ns c.args.keys.now.numbers c.args.keys.now.numbers) (sym (returns-in-Err-clause-refused g c))
    (order-same c.args.block c.args.nodes.now.slots c.args.keys.now.numbers)

pub relist-requires : goal.relist-requires
relist-requires g c =
    let joined = nodes-joined c.args.block c.args.keep c.args.gone c.args.nodes.now.slots c.requires.pair c.requires.level c.take_at.new.nodes.slots c.in-Some.other c.in-Some.ensures.taken c.in-Some.ensures.others
    c.absorb_at.new.nodes.slots c.remove.new.nodes.slots c.args.keys.now.numbers (rw c.count_inner-inner.ensures at c.in_default-absorb_at.ensures.absorbed) c.remove.ensures.gone c.remove.ensures.others in
    record {
      before = c.args.nodes.now.slots;
      numbers = c.args.keys.now.numbers;
      pair = c.requires.pair;
      level = c.requires.level;
      joined = joined;
      listed = c.requires.listed;
      settled = c.requires.settled;
      flag = taken-level c.args.block c.args.keep c.args.gone c.args.nodes.now.slots c.requires.pair c.requires.level c.take_at.new.nodes.slots c.in-Some.other
          c.in-Some.ensures.taken c.in-Some.ensures.others;
    }

pub returns-clause-order : goal.returns-clause-order
returns-clause-order g c =
    let joined = nodes-joined c.args.block c.args.keep c.args.gone c.args.nodes.now.slots c.requires.pair c.requires.level c.take_at.new.nodes.slots c.in-Some.other c.in-Some.ensures.taken c.in-Some.ensures.others
    c.absorb_at.new.nodes.slots c.remove.new.nodes.slots c.args.keys.now.numbers (rw c.count_inner-inner.ensures at c.in_default-absorb_at.ensures.absorbed) c.remove.ensures.gone c.remove.ensures.others in
    subst (λ nodes. KeepsOrder c.args.block c.args.nodes.now.slots nodes c.args.keys.now.numbers c.redirect.new.keys.numbers) (sym c.relist.ensures.same)
    (order-joined c.args.block c.args.keep c.args.gone c.args.nodes.now.slots c.requires.pair c.requires.level c.remove.new.nodes.slots c.args.keys.now.numbers c.redirect.new.keys.numbers c.requires.tied joined
    (taken-moved c.args.block c.args.keep c.args.gone c.args.nodes.now.slots c.requires.pair c.requires.level c.take_at.new.nodes.slots c.in-Some.other c.in-Some.ensures.taken c.in-Some.ensures.others
    c.members.result.now c.args.keys.now.numbers c.redirect.new.keys.numbers c.members.ensures c.redirect.ensures))

pub returns-clause-joined : goal.returns-clause-joined
returns-clause-joined g c =
    let joined = nodes-joined c.args.block c.args.keep c.args.gone c.args.nodes.now.slots c.requires.pair c.requires.level c.take_at.new.nodes.slots c.in-Some.other c.in-Some.ensures.taken c.in-Some.ensures.others
    c.absorb_at.new.nodes.slots c.remove.new.nodes.slots c.args.keys.now.numbers (rw c.count_inner-inner.ensures at c.in_default-absorb_at.ensures.absorbed) c.remove.ensures.gone c.remove.ensures.others in
    subst (λ nodes. AreClassesJoined c.args.keep c.args.gone (slots_of c.args.nodes.now.slots) (slots_of nodes) c.args.keys.now.numbers c.redirect.new.keys.numbers) (sym c.relist.ensures.same)
    (classes-joined c.args.keep c.args.gone c.args.nodes.now.slots c.remove.new.nodes.slots c.args.keys.now.numbers c.redirect.new.keys.numbers joined (taken-moved c.args.block c.args.keep c.args.gone c.args.nodes.now.slots c.requires.pair c.requires.level c.take_at.new.nodes.slots c.in-Some.other c.in-Some.ensures.taken c.in-Some.ensures.others
    c.members.result.now c.args.keys.now.numbers c.redirect.new.keys.numbers c.members.ensures c.redirect.ensures))
