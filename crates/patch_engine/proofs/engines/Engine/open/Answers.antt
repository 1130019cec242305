use Rattle.std.proofs.Common.{sym, subst, refl, [], List}
use Rattle.patch_cache.specs.Flights.{AreFlightsOf}
use Rattle.patch_cache.specs.declared.flights.Flight.{Flight}
use Rattle.patch_plans.specs.Groups.{Groups}
use Rattle.patch_plans.specs.Order.{AreGroupsOf}
use Rattle.patch_engine.proofs.Held.{none_held}
use Rattle.patch_engine.proofs.engines.Engine.open.Goals as goal

pub returns-clause-answer : goal.returns-clause-answer
returns-clause-answer g c = λ first are. record {
  cache_is = c.of.ensures.answer first are;
  flights_are = subst (λ (held : List (Flight g.row.A.Denot)). AreFlightsOf (record { first = first; steps = [] }) held) (sym c.new-2.ensures.items) (none_held g.row.A.Denot (record { first = first; steps = [] }) refl);
  groups_are = subst (λ (gs : Groups). AreGroupsOf (record { first = first; steps = [] }) gs) (sym c.new.ensures) (c.order_is_kept.ensures.none (record { first = first; steps = [] }));
  trace_is = c.of.ensures.trace;
}
