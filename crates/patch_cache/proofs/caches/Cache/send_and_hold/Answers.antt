use Rattle.std.proofs.Common.{◌≡◌, ◌++◌, ◌∷◌, [], true, refl, ℕ, List, inl, inr}
use Rattle.patch_model.specs.Execution.{extended}
use Rattle.patch_model.specs.State.{entries_of}
use Rattle.std.proofs.lemmas.Result.{IfOk-from_err}
use Rattle.patch_cache.proofs.Stepping.{on_err, one_left}
use Rattle.patch_cache.specs.Asks.{Sent, IsFault}
use Rattle.patch_cache.proofs.caches.Cache.send_and_hold.Goals as goal
use Rattle.std.specs.Prelude.{is_ok}
use Rattle.std.proofs.Common.{sym, ap, subst, ◌∙◌}
use Rattle.patch_model.specs.Step as the
use Rattle.patch_cache.specs.Contents.{Contents}
use Rattle.patch_cache.specs.Meaning.{IsCacheBy}
use Rattle.patch_cache.specs.Flights.{AreFlightsOf}
use Rattle.patch_cache.proofs.Answering.{sent_answered}
use Rattle.patch_graph.specs.Between.{HasNoRing}
use Rattle.patch_cache.proofs.HeldFlights.{held_send}

-- src/running.rt:124:5
pub returns-clause-answer : goal.returns-clause-answer
returns-clause-answer g c = λ whole run runs why.
    let block = c.args.block in
    let flight = c.in_ok-flight.flight in
    let before : IsCacheBy whole _ run = subst (λ (x : Contents). IsCacheBy whole x run) (sym c.self.view_is) runs.cache_is in
    let ring : HasNoRing (entries_of run) = λ x y apart to back. c.paths_form_no_ring.ensures.back run x y runs.cache_is.legal to back in
    let numbers = c.in_ok-numbers.ensures (entries_of run) before.graph ring in
    let sent = c.in_ok-flight.ensures.begun whole run runs.cache_is (why, numbers) in
    let held : c.push_reserved.new.self.items ≡ c.args.flights.now.held.items ++ flight ∷ [] = c.push_reserved.ensures.items ∙ ap (λ xs. xs ++ flight ∷ []) c.reserve.ensures.items in
    let told : c.from_vec.result ≡ c.in_ok-numbers.numbers.items = c.from_vec.ensures ∙ c.in_ok-answered_numbers.ensures.items ∙ c.as_slice.ensures.value in
    let done : is_ok c.extend_from_slice.result ≡ true = ap is_ok c.unwrap.ensures in
    let shown : c.from_vec-2.result ≡ flight.image =
    c.from_vec-2.ensures ∙ (rw done at c.extend_from_slice.ensures.items) ∙ ap (λ xs. xs ++ c.image.result.now) c.in_ok-answered_image.ensures.items ∙ c.image.ensures.bytes in
    let startable = (c.pairs_merge.ensures.sent run block).0 why in
    sent_answered whole run block c.from_vec.result c.from_vec-2.result c.begin.new.self (record { held = c.push_reserved.new.self }) why (told ∙ numbers) (shown ∙ sent.0.image_is)
    (record {
      cache_is = sent.1;
      flights_are = subst (AreFlightsOf (extended run (the.Send block))) (sym held)
          (held_send c.steps_extend.ensures.state c.images_stay.ensures c.flights_are_ready.ensures.sent c.flights_are_ready.ensures.sent_elsewhere run block c.args.flights.now.held.items flight
          runs.cache_is.legal startable.1.0 sent.0 runs.flights_are);
    })

sent_no_fault : (block : ℕ) (numbers image : List ℕ) → IsFault (Sent block numbers image) → ⊥
sent_no_fault block numbers image (inl e) = absurd (cc)
sent_no_fault block numbers image (inr e) = absurd (cc)

pub returns-in_err-numbers-clause-answer : goal.returns-in_err-numbers-clause-answer
returns-in_err-numbers-clause-answer g c = λ whole run runs why. IfOk-from_err c.from_residual.result _ c.from_residual.ensures.0

pub returns-in_err-numbers-clause-trace : goal.returns-in_err-numbers-clause-trace
returns-in_err-numbers-clause-trace g c = IfOk-from_err c.from_residual.result _ c.from_residual.ensures.0

pub returns-in_err-numbers-clause-no_fault : goal.returns-in_err-numbers-clause-no_fault
returns-in_err-numbers-clause-no_fault g c = IfOk-from_err c.from_residual.result _ c.from_residual.ensures.0

pub returns-in_err-numbers-clause-refused : goal.returns-in_err-numbers-clause-refused
returns-in_err-numbers-clause-refused g c = on_err _ refl

pub returns-in_err-numbers-clause-held : goal.returns-in_err-numbers-clause-held
returns-in_err-numbers-clause-held g c = on_err _ refl

pub returns-in_err-answered_numbers-clause-answer : goal.returns-in_err-answered_numbers-clause-answer
returns-in_err-answered_numbers-clause-answer g c = λ whole run runs why. IfOk-from_err c.from_residual-in_err-answered_numbers.result _ c.from_residual-in_err-answered_numbers.ensures.0

pub returns-in_err-answered_numbers-clause-trace : goal.returns-in_err-answered_numbers-clause-trace
returns-in_err-answered_numbers-clause-trace g c = IfOk-from_err c.from_residual-in_err-answered_numbers.result _ c.from_residual-in_err-answered_numbers.ensures.0

pub returns-in_err-answered_numbers-clause-no_fault : goal.returns-in_err-answered_numbers-clause-no_fault
returns-in_err-answered_numbers-clause-no_fault g c = IfOk-from_err c.from_residual-in_err-answered_numbers.result _ c.from_residual-in_err-answered_numbers.ensures.0

pub returns-in_err-answered_numbers-clause-refused : goal.returns-in_err-answered_numbers-clause-refused
returns-in_err-answered_numbers-clause-refused g c = on_err _ refl

pub returns-in_err-answered_numbers-clause-held : goal.returns-in_err-answered_numbers-clause-held
returns-in_err-answered_numbers-clause-held g c = on_err _ refl

pub returns-in_err-answered_image-clause-answer : goal.returns-in_err-answered_image-clause-answer
returns-in_err-answered_image-clause-answer g c = λ whole run runs why. IfOk-from_err c.from_residual-in_err-answered_image.result _ c.from_residual-in_err-answered_image.ensures.0

pub returns-in_err-answered_image-clause-trace : goal.returns-in_err-answered_image-clause-trace
returns-in_err-answered_image-clause-trace g c = IfOk-from_err c.from_residual-in_err-answered_image.result _ c.from_residual-in_err-answered_image.ensures.0

pub returns-in_err-answered_image-clause-no_fault : goal.returns-in_err-answered_image-clause-no_fault
returns-in_err-answered_image-clause-no_fault g c = IfOk-from_err c.from_residual-in_err-answered_image.result _ c.from_residual-in_err-answered_image.ensures.0

pub returns-in_err-answered_image-clause-refused : goal.returns-in_err-answered_image-clause-refused
returns-in_err-answered_image-clause-refused g c = on_err _ refl

pub returns-in_err-answered_image-clause-held : goal.returns-in_err-answered_image-clause-held
returns-in_err-answered_image-clause-held g c = on_err _ refl

pub returns-in_err-reserve-clause-answer : goal.returns-in_err-reserve-clause-answer
returns-in_err-reserve-clause-answer g c = λ whole run runs why. IfOk-from_err c.from_residual-in_err-reserve.result _ c.from_residual-in_err-reserve.ensures.0

pub returns-in_err-reserve-clause-trace : goal.returns-in_err-reserve-clause-trace
returns-in_err-reserve-clause-trace g c = IfOk-from_err c.from_residual-in_err-reserve.result _ c.from_residual-in_err-reserve.ensures.0

pub returns-in_err-reserve-clause-no_fault : goal.returns-in_err-reserve-clause-no_fault
returns-in_err-reserve-clause-no_fault g c = IfOk-from_err c.from_residual-in_err-reserve.result _ c.from_residual-in_err-reserve.ensures.0

pub returns-in_err-reserve-clause-refused : goal.returns-in_err-reserve-clause-refused
returns-in_err-reserve-clause-refused g c = on_err _ refl

pub returns-in_err-reserve-clause-held : goal.returns-in_err-reserve-clause-held
returns-in_err-reserve-clause-held g c = on_err _ c.reserve.ensures.items

pub returns-in_err-flight-clause-answer : goal.returns-in_err-flight-clause-answer
returns-in_err-flight-clause-answer g c = λ whole run runs why. IfOk-from_err c.from_residual-in_err-flight.result _ c.from_residual-in_err-flight.ensures.0

pub returns-in_err-flight-clause-trace : goal.returns-in_err-flight-clause-trace
returns-in_err-flight-clause-trace g c = IfOk-from_err c.from_residual-in_err-flight.result _ c.from_residual-in_err-flight.ensures.0

pub returns-in_err-flight-clause-no_fault : goal.returns-in_err-flight-clause-no_fault
returns-in_err-flight-clause-no_fault g c = IfOk-from_err c.from_residual-in_err-flight.result _ c.from_residual-in_err-flight.ensures.0

pub returns-in_err-flight-clause-refused : goal.returns-in_err-flight-clause-refused
returns-in_err-flight-clause-refused g c = on_err _ c.in_err-flight.ensures.refused

pub returns-in_err-flight-clause-held : goal.returns-in_err-flight-clause-held
returns-in_err-flight-clause-held g c = on_err _ c.reserve.ensures.items

pub returns-clause-trace : goal.returns-clause-trace
returns-clause-trace g c = c.in_ok-flight.ensures.trace

pub returns-clause-refused : goal.returns-clause-refused
returns-clause-refused g c = tt

pub returns-clause-held : goal.returns-clause-held
returns-clause-held g c = tt

pub begin-requires-clause-resident : goal.begin-requires-clause-resident
begin-requires-clause-resident g c = c.requires.resident

pub begin-requires-clause-not_under_way : goal.begin-requires-clause-not_under_way
begin-requires-clause-not_under_way g c = c.requires.not_under_way

pub push_reserved-requires : goal.push_reserved-requires
push_reserved-requires g c = one_left _ _ c.in_ok-reserve.ensures.ok

pub returns-clause-no_fault : goal.returns-clause-no_fault
returns-clause-no_fault g c = sent_no_fault c.args.block c.from_vec.result c.from_vec-2.result
