use Rattle.std.proofs.Common.{◌-◌, ◌≡◌, length}
use Rattle.std.specs.Option.{option_map_or}
use Rattle.patch_graph.specs.Search.{IsUnderWay}
use Rattle.patch_graph.specs.declared.searching.Way.TheVariants.{Up, Down}
use Rattle.patch_graph.proofs.queries.take_turns.Given as goal

abbrev pub invariant-loop-limit : goal.invariant-loop-limit
invariant-loop-limit g l = record {
  above : IsUnderWay l.register Up (length l.met) l.met l.found l.above;
  below : IsUnderWay l.register Down l.to l.marks l.queue l.below;
  from_above : l.above.from ≡ l.fn.begun.above.from;
  from_below : l.below.from ≡ l.fn.begun.below.from;
}

abbrev pub decreases-loop-limit : goal.decreases-loop-limit
decreases-loop-limit g l = option_map_or (λ most. 18446744073709551616 - most) l.limit 0
