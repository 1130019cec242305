use Rattle.std.proofs.Common.{◌≡◌, ◌∙◌, [], List, sym, subst, refl, arith}
use Rattle.std.specs.Prelude.{count_by}
use Rattle.patch_model.specs.Entry.{is_live}
use Rattle.patch_model.specs.Execution.{Execution}
use Rattle.patch_model.specs.Renewed.{renewed}
use Rattle.patch_model.specs.State.{entries_of}
use Rattle.patch_cache.specs.Flights.{AreFlightsOf}
use Rattle.patch_cache.specs.declared.flights.Flight.{Flight}
use Rattle.patch_plans.specs.Groups.{Groups}
use Rattle.patch_plans.specs.Order.{AreGroupsOf}
use Rattle.patch_group.specs.Renewing.{why_not_renewed}
use Rattle.patch_engine.specs.Refusals.{why_not_begun_anew}
use Rattle.patch_engine.proofs.Held.{none_held, none_is_held}
use Rattle.patch_engine.proofs.engines.Engine.renew.Goals as goal

-- with no live patch the groups alone stand against it
groups_alone : (run : Execution) (groups : Groups) → count_by is_live (entries_of run) ≡ 0 → why_not_begun_anew run groups ≡ why_not_renewed groups
groups_alone run groups none = rw none refl

pub returns-clause-done : goal.returns-clause-done
returns-clause-done g c = λ run at.
    let held = c.args.self.now.held.items in
    let live = c.live.ensures.paged run at.cache_is in
    let low = c.if-live-gt0.false in
    let none : count_by is_live (entries_of run) ≡ 0 = omega (arith, live, low) in
    let empty : held ≡ [] = none_is_held c.flights_are_single.ensures.holds run held at.cache_is.legal at.flights_are none in
    let groups = c.in_ok-renew.ensures.done in (
      groups_alone run c.args.self.now.groups none ∙ groups.0,
      record {
        cache_is = c.in_ok-renew-2.ensures.paged run at.cache_is;
        flights_are = subst (λ (xs : List (Flight g.row.A.Denot)). AreFlightsOf (renewed run) xs) (sym empty) (none_held g.row.A.Denot (renewed run) refl);
        groups_are = subst (λ (gs : Groups). AreGroupsOf (renewed run) gs) (sym groups.1) (c.order_is_kept.ensures.none (renewed run));
        trace_is = c.in_ok-renew-2.ensures.trace;
      },
    )
