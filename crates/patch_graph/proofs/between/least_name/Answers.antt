use Rattle.patch_graph.specs.Between.{lies}
use Rattle.patch_graph.proofs.LeastBetween.{least-none, least-more}
use Rattle.patch_graph.proofs.between.least_name.Goals as goal

pub loop-key-init : goal.loop-key-init
loop-key-init g c = least-none c.args.register.now.slots (lies c.args.marks.now c.args.dead_ends.now c.args.from c.args.to) c.args.keys.now

pub loop-key-preserved : goal.loop-key-preserved
loop-key-preserved g c = rw (c.lesser-least.ensures, c.name_if.ensures)
    (least-more c.args.register.now.slots (lies c.args.marks.now c.args.dead_ends.now c.args.from c.args.to) c.args.keys.now _ _ c.loop-key.invariant)
