use Rattle.patch_links.proofs.Landed.{part-more, popped-flying, fewer-left, landed-all}
use Rattle.patch_links.proofs.landing.land.Goals as goal

pub loop-key-smaller : goal.loop-key-smaller
loop-key-smaller g c =
    let fly = popped-flying c.args.block c.in-Some.key c.loop-key.nodes.slots c.loop-key.keys.numbers c.loop-key.blocks.items _ c.loop-key.invariant.0 c.in-Some.ensures.some in
    fewer-left c.args.block c.in-Some.key c.args.nodes.now.slots c.loop-key.nodes.slots c.land_at.new.nodes.slots c.args.keys.now.numbers c.loop-key.keys.numbers c.land_at.new.keys.numbers
    c.loop-key.invariant.1 fly c.land_at.ensures.gone

pub loop-key-preserved : goal.loop-key-preserved
loop-key-preserved g c =
    let fly = popped-flying c.args.block c.in-Some.key c.loop-key.nodes.slots c.loop-key.keys.numbers c.loop-key.blocks.items _ c.loop-key.invariant.0 c.in-Some.ensures.some in (
      c.land_at.ensures.stands,
      part-more c.args.block c.in-Some.key c.args.nodes.now.slots c.loop-key.nodes.slots c.land_at.new.nodes.slots c.args.keys.now.numbers c.loop-key.keys.numbers c.land_at.new.keys.numbers
          c.loop-key.invariant.1 fly c.land_at.ensures.gone,
    )

pub returns-clause-landed : goal.returns-clause-landed
returns-clause-landed g c = landed-all c.args.block c.args.nodes.now.slots c.loop-key.nodes.slots c.args.keys.now.numbers c.loop-key.keys.numbers c.args.blocks.now.items c.loop-key.blocks.items
    (record { members = c.requires.members; linked = c.requires.linked; counted = c.requires.counted; listed = c.requires.listed; settled = c.requires.settled })
    c.loop-key.invariant.0 c.loop-key.invariant.1 c.in_default.ensures.none
