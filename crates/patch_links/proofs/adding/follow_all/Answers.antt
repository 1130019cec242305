use Rattle.std.proofs.Common.{sym, ap, ◌≡◌, ◌∙◌, arith, refl}
use Rattle.patch_links.specs.Waiting.{is_unmet}
use Rattle.patch_links.specs.Lists.{once}
use Rattle.patch_links.proofs.Places.{same_default}
use Rattle.patch_links.proofs.Rooms.{followed-gone, unmet-gone, follow-room, followed-more, followed-all, at-In, unmet-so-far}
use Rattle.patch_links.proofs.adding.follow_all.Goals.{then-follow_to, else-follow_to}
use Rattle.patch_links.proofs.adding.follow_all.Goals as goal

pub loop-at-init : goal.loop-at-init
loop-at-init g c =
    let gone = c.count_gone-at.ensures in (
      followed-gone c.args.keys.now.numbers c.args.follower c.args.after.now c.args.nodes.now.slots c.count_gone-at.result gone,
      sym (unmet-gone c.args.keys.now.numbers c.args.nodes.now.slots c.args.key c.args.block c.args.after.now c.count_gone-at.result gone),
      refl,
      refl,
    )

pub follow_to-requires : goal.follow_to-requires
follow_to-requires g c =
    let is = sym (c.index-after-at.is ∙ same_default c.args.after.now c.loop-at.at c.index-after-at.result 0 (omega arith)) in
    follow-room c.args.keys.now.numbers c.args.follower c.args.after.now c.args.nodes.now.slots c.loop-at.nodes.slots c.loop-at.at c.index-after-at.result c.loop-at.invariant.0 c.requires
    (at-In c.args.after.now c.loop-at.at c.index-after-at.result (omega arith) is) (omega arith)

pub loop-at-preserved : goal.loop-at-preserved
loop-at-preserved g c =
    let is = sym (c.index-after-at.is ∙ same_default c.args.after.now c.loop-at.at c.index-after-at.result 0 (omega arith)) in
    let more = unmet-so-far c.args.keys.now.numbers c.args.follower c.args.after.now c.args.nodes.now.slots c.loop-at.nodes.slots c.args.key c.args.block c.loop-at.at c.index-after-at.result c.loop-at.unmet
    c.loop-at.invariant.0 (omega arith) is c.loop-at.invariant.1 in (
      rw c.follow_to.ensures.followed (followed-more c.args.keys.now.numbers c.args.follower c.args.after.now c.args.nodes.now.slots c.loop-at.nodes.slots c.loop-at.at c.index-after-at.result
          c.loop-at.invariant.0 (omega arith) is),
      elim c.if-follow_to.branch [
        | then-follow_to w ↦
            let one : once (is_unmet c.loop-at.nodes.slots c.args.keys.now.numbers c.args.key c.args.block c.index-after-at.result) ≡ 1 = ap once (sym c.follow_to.ensures.unmet ∙ w.if-follow_to.true) in
            let unmet = w.unmet-is in omega (arith, one, unmet, more)
        | else-follow_to w ↦
            let none : once (is_unmet c.loop-at.nodes.slots c.args.keys.now.numbers c.args.key c.args.block c.index-after-at.result) ≡ 0 = ap once (sym c.follow_to.ensures.unmet ∙ w.if-follow_to.false) in
            let unmet = w.unmet-is in omega (arith, none, unmet, more)
      ],
      c.follow_to.ensures.capacity ∙ c.loop-at.invariant.2,
      c.follow_to.ensures.next ∙ c.loop-at.invariant.3,
    )

pub returns-clause-followed : goal.returns-clause-followed
returns-clause-followed g c = followed-all _ _ _ _ _ _ c.loop-at.invariant.0 (omega arith)
