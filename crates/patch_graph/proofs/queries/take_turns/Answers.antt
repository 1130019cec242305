use Rattle.std.proofs.Common.{◌∙◌}
use Rattle.patch_graph.proofs.Rooms.{long_as, stopless}
use Rattle.patch_graph.proofs.queries.take_turns.Goals as goal

pub go_on-above-requires-clause-queue_fits : goal.go_on-above-requires-clause-queue_fits
go_on-above-requires-clause-queue_fits g c = long_as _ _ _ _ c.loop-limit.auto.met c.loop-limit.auto.found c.requires.found_fit

pub returns-then-is_whole-clause-above : goal.returns-then-is_whole-clause-above
returns-then-is_whole-clause-above g c = stopless _ _ _ _ c.args.met.now c.loop-limit.met _ _ c.go_on-above.ensures.length c.loop-limit.auto.met c.go_on-above.ensures.under_way

pub returns-then-is_whole-clause-below : goal.returns-then-is_whole-clause-below
returns-then-is_whole-clause-below g c = c.loop-limit.invariant.below

pub returns-then-is_whole-clause-from_above : goal.returns-then-is_whole-clause-from_above
returns-then-is_whole-clause-from_above g c = c.go_on-above.ensures.from ∙ c.loop-limit.invariant.from_above

pub returns-then-is_whole-clause-from_below : goal.returns-then-is_whole-clause-from_below
returns-then-is_whole-clause-from_below g c = c.loop-limit.invariant.from_below

pub returns-then-is_whole-clause-length : goal.returns-then-is_whole-clause-length
returns-then-is_whole-clause-length g c = c.loop-limit.auto.marks

pub returns-then-is_whole-clause-length_queue : goal.returns-then-is_whole-clause-length_queue
returns-then-is_whole-clause-length_queue g c = c.loop-limit.auto.queue

pub returns-then-is_whole-clause-length_met : goal.returns-then-is_whole-clause-length_met
returns-then-is_whole-clause-length_met g c = c.go_on-above.ensures.length ∙ c.loop-limit.auto.met

pub returns-then-is_whole-clause-length_found : goal.returns-then-is_whole-clause-length_found
returns-then-is_whole-clause-length_found g c = c.go_on-above.ensures.length_queue ∙ c.loop-limit.auto.found

pub go_on-below-requires-clause-queue_fits : goal.go_on-below-requires-clause-queue_fits
go_on-below-requires-clause-queue_fits g c = long_as _ _ _ _ c.loop-limit.auto.marks c.loop-limit.auto.queue c.requires.queue_fits

pub go_on-below-requires-clause-under_way : goal.go_on-below-requires-clause-under_way
go_on-below-requires-clause-under_way g c = c.loop-limit.invariant.below

pub returns-then-is_whole-2-clause-above : goal.returns-then-is_whole-2-clause-above
returns-then-is_whole-2-clause-above g c = stopless _ _ _ _ c.args.met.now c.loop-limit.met _ _ c.go_on-above.ensures.length c.loop-limit.auto.met c.go_on-above.ensures.under_way

pub returns-then-is_whole-2-clause-below : goal.returns-then-is_whole-2-clause-below
returns-then-is_whole-2-clause-below g c = c.go_on-below.ensures.under_way

pub returns-then-is_whole-2-clause-from_above : goal.returns-then-is_whole-2-clause-from_above
returns-then-is_whole-2-clause-from_above g c = c.go_on-above.ensures.from ∙ c.loop-limit.invariant.from_above

pub returns-then-is_whole-2-clause-from_below : goal.returns-then-is_whole-2-clause-from_below
returns-then-is_whole-2-clause-from_below g c = c.go_on-below.ensures.from ∙ c.loop-limit.invariant.from_below

pub returns-then-is_whole-2-clause-length : goal.returns-then-is_whole-2-clause-length
returns-then-is_whole-2-clause-length g c = c.go_on-below.ensures.length ∙ c.loop-limit.auto.marks

pub returns-then-is_whole-2-clause-length_queue : goal.returns-then-is_whole-2-clause-length_queue
returns-then-is_whole-2-clause-length_queue g c = c.go_on-below.ensures.length_queue ∙ c.loop-limit.auto.queue

pub returns-then-is_whole-2-clause-length_met : goal.returns-then-is_whole-2-clause-length_met
returns-then-is_whole-2-clause-length_met g c = c.go_on-above.ensures.length ∙ c.loop-limit.auto.met

pub returns-then-is_whole-2-clause-length_found : goal.returns-then-is_whole-2-clause-length_found
returns-then-is_whole-2-clause-length_found g c = c.go_on-above.ensures.length_queue ∙ c.loop-limit.auto.found

pub loop-limit-preserved : goal.loop-limit-preserved
loop-limit-preserved g c = record {
  above = stopless _ _ _ _ c.args.met.now c.loop-limit.met _ _ c.go_on-above.ensures.length c.loop-limit.auto.met c.go_on-above.ensures.under_way;
  below = c.go_on-below.ensures.under_way;
  from_above = c.go_on-above.ensures.from ∙ c.loop-limit.invariant.from_above;
  from_below = c.go_on-below.ensures.from ∙ c.loop-limit.invariant.from_below;
}

pub returns-clause-above : goal.returns-clause-above
returns-clause-above g c = c.loop-limit.invariant.above

pub returns-clause-below : goal.returns-clause-below
returns-clause-below g c = c.loop-limit.invariant.below

pub returns-clause-from_above : goal.returns-clause-from_above
returns-clause-from_above g c = c.loop-limit.invariant.from_above

pub returns-clause-from_below : goal.returns-clause-from_below
returns-clause-from_below g c = c.loop-limit.invariant.from_below

pub returns-clause-length : goal.returns-clause-length
returns-clause-length g c = c.loop-limit.auto.marks

pub returns-clause-length_queue : goal.returns-clause-length_queue
returns-clause-length_queue g c = c.loop-limit.auto.queue

pub returns-clause-length_met : goal.returns-clause-length_met
returns-clause-length_met g c = c.loop-limit.auto.met

pub returns-clause-length_found : goal.returns-clause-length_found
returns-clause-length_found g c = c.loop-limit.auto.found
