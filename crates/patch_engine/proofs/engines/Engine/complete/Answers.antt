use Rattle.std.proofs.Common.{◌∙◌, ℕ, List, sym, subst}
use Rattle.patch_model.specs.Execution.{extended}
use Rattle.patch_model.specs.Step.{Complete}
use Rattle.patch_cache.specs.Flights.{AreFlightsOf}
use Rattle.patch_cache.specs.Meaning.{IsPagedCacheOf}
use Rattle.patch_cache.specs.declared.flights.Flight.{Flight}
use Rattle.patch_engine.proofs.Held.{stands_at, is_out, is_not_out, left_of}
use Rattle.patch_engine.proofs.Standing.{stands_drained}
use Rattle.patch_engine.proofs.engines.Engine.complete.Goals as goal

pub returns-in_default-clause-stranger : goal.returns-in_default-clause-stranger
returns-in_default-clause-stranger g c = λ run at.
    is_not_out c.flights_are_single.ensures.single run c.args.self.now.held.items c.args.block c.args.number at.cache_is.legal at.flights_are (sym c.place_of.ensures ∙ c.in_default.is)

pub returns-in-Ok-clause-done : goal.returns-in-Ok-clause-done
returns-in-Ok-clause-done g c = λ run at.
    let held = c.args.self.now.held.items in
    let block = c.args.block in
    let flight = c.swap_remove.result in
    let s = stands_at held block c.args.number c.in-Some.at flight (sym c.in-Some.ensures) (sym c.swap_remove.ensures.value) in
    let out = is_out run held block c.args.number c.in-Some.at flight at.flights_are (sym c.in-Some.ensures) (sym c.swap_remove.ensures.value) in
    let cache : IsPagedCacheOf c.complete.new.self (extended run (Complete block)) =
    subst (λ (b : ℕ). IsPagedCacheOf c.complete.new.self (extended run (Complete b))) (c.landed-landed.ensures.block ∙ s.1) (c.in-Ok.ensures.done_paged run at.cache_is).3 in
    let flights : AreFlightsOf (extended run (Complete block)) c.swap_remove.new.self.items =
    subst (λ (xs : List (Flight g.row.A.Denot)). AreFlightsOf (extended run (Complete block)) xs) (sym c.swap_remove.ensures.items)
    (c.flights_begin_and_end.ensures.ended run block c.in-Some.at held flight flight s.0 s.1 at.flights_are) in
    (out.0, stands_drained _ c.complete.new.self (extended run (Complete block)) c.clear_trace.ensures cache flights (c.order_is_kept.ensures.steps run c.args.self.now.groups (Complete block) at.groups_are))

pub returns-in-Err-clause-stranger : goal.returns-in-Err-clause-stranger
returns-in-Err-clause-stranger g c = λ run at out.
    c.in-Err.ensures.stranger_paged run at.cache_is
    (left_of run c.args.self.now.held.items c.args.block c.args.number c.in-Some.at c.swap_remove.result c.landed-landed.result at.flights_are (sym c.in-Some.ensures) (sym c.swap_remove.ensures.value)
    c.landed-landed.ensures.block c.landed-landed.ensures.sequence)

pub returns-in-Err-clause-refused : goal.returns-in-Err-clause-refused
returns-in-Err-clause-refused g c = λ run at.
    absurd (c.in-Err.ensures.stranger_paged run at.cache_is
    (left_of run c.args.self.now.held.items c.args.block c.args.number c.in-Some.at c.swap_remove.result c.landed-landed.result at.flights_are (sym c.in-Some.ensures) (sym c.swap_remove.ensures.value)
    c.landed-landed.ensures.block c.landed-landed.ensures.sequence))
