use Rattle.patch_graph.proofs.Gathering.{gathered-none, gathered-more, gathered-all}
use Rattle.patch_graph.proofs.Places.{ok-if}
use Rattle.patch_graph.proofs.ready.gather.Goals as goal

pub loop-key-init : goal.loop-key-init
loop-key-init g c = gathered-none c.args.register.now.slots c.args.marks.now c.args.keys.now _ c.new-all.ensures.items

pub loop-key-preserved : goal.loop-key-preserved
loop-key-preserved g c = gathered-more c.args.register.now.slots c.args.marks.now c.args.keys.now _ _ _ c.loop-key.key-index c.loop-key-test.true c.loop-key.invariant c.in_ok-add_members.ensures

pub returns : goal.returns
returns g c = gathered-all c.args.register.now.slots c.args.marks.now c.args.keys.now _ _ c.loop-key.key-index c.loop-key-test.false c.loop-key.invariant

pub returns-in_err-add_members : goal.returns-in_err-add_members
returns-in_err-add_members g c = ok-if _ _ c.from_residual.ensures.0
