use Rattle.std.proofs.Common.{◌≡◌, ◌∙◌, ◌++◌, ◌∷◌, [], List, sym, ap, subst, false, refl}
use Rattle.patch_model.specs.Execution.{extended}
use Rattle.patch_model.specs.Step.{Send}
use Rattle.patch_cache.specs.Contents.{Contents}
use Rattle.patch_cache.specs.Flights.{AreFlightsOf}
use Rattle.patch_cache.specs.Meaning.{IsPagedCacheOf}
use Rattle.patch_cache.specs.Refusals.{IsCause, send_cause}
use Rattle.patch_cache.specs.declared.flights.Flight.{Flight}
use Rattle.patch_engine.proofs.Standing.{stands_drained}
use Rattle.patch_engine.proofs.engines.Engine.send.Goals as goal

pub returns-in-Some-clause-cause : goal.returns-in-Some-clause-cause
returns-in-Some-clause-cause g c = λ run at. subst (λ why. IsCause why (send_cause c.in-Some.refusal)) (c.in-Some.ensures.cause false run at.cache_is) refl

pub returns-clause-sent : goal.returns-clause-sent
returns-clause-sent g c = λ run at.
    let block = c.args.block in
    let flight = c.in_ok-flight.flight in
    let held = c.args.self.now.held.items in
    let before : IsPagedCacheOf c.why_not_sent.new.self run = subst (λ (v : Contents). IsPagedCacheOf v run) (sym c.why_not_sent.ensures.same) at.cache_is in
    let sent = c.in_ok-flight.ensures.sent_paged run before in
    let may = (c.pairs_merge.ensures.sent run block).0 sent.0 in
    let items : c.push_reserved.new.self.items ≡ held ++ flight ∷ [] = c.push_reserved.ensures.items ∙ ap (λ xs. xs ++ flight ∷ []) c.reserve.ensures.items in
    record {
      allowed = sent.0;
      number_is = c.number-number.ensures ∙ sent.1.0.sequence_is;
      image_is = c.copy_from_slice.ensures.after ∙ c.image.ensures.bytes ∙ sent.1.0.image_is;
      stands = stands_drained _ c.send.new.self (extended run (Send block)) c.clear_trace.ensures sent.1.1
          (subst (λ (xs : List (Flight g.row.A.Denot)). AreFlightsOf (extended run (Send block)) xs) (sym items)
          (c.flights_begin_and_end.ensures.begun run block held flight at.cache_is.legal may.1.0 sent.1.0 at.flights_are))
          (c.order_is_kept.ensures.steps run c.args.self.now.groups (Send block) at.groups_are);
    }
