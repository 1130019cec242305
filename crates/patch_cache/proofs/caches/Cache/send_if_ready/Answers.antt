use Rattle.std.proofs.Common.{◌≡◌, ℕ, true, false, Option, Some, None, ◌++◌, ◌∷◌, [], length, length-append, refl, sym, ap, subst, ◌∙◌}
use Rattle.patch_model.specs.Execution.{Execution, extended}
use Rattle.patch_model.specs.Refusing.{why_not_sent}
use Rattle.patch_model.specs.Step as the
use Rattle.patch_cache.specs.Contents.{Contents, is_resident, write_at}
use Rattle.patch_cache.specs.Meaning.{IsCacheOf}
use Rattle.patch_cache.specs.Flights.{AreFlightsBeside}
use Rattle.patch_cache.specs.Paging.{if_resident}
use Rattle.patch_cache.specs.Refusals.{send_cause}
use Rattle.patch_cache.specs.declared.refusals.SendRefusal.{SendRefusal}
use Rattle.patch_cache.proofs.HeldFlights.{held_send}
use Rattle.patch_cache.proofs.Refusing.{not_told}
use Rattle.patch_cache.proofs.Waving.{none_added}
use Rattle.std.proofs.lemmas.Result.{IfOk-from_err}
use Rattle.patch_cache.proofs.Stepping.{on_err}
use Rattle.std.specs.Prelude.{option_map, is_some, IsNone}
use Rattle.patch_cache.proofs.Absent.{whole_alone}
use Rattle.patch_cache.proofs.Clean.{none_of_row}
use Rattle.patch_cache.proofs.caches.Cache.send_if_ready.Goals as goal

-- there is no cause against it
none_is : {X : Type 0} (o : Option X) → is_some o ≡ false → IsNone o
none_is None not = refl
none_is (Some x) not = absurd (cc)

sent_why : (o : Option SendRefusal) (c : Contents) (run : Execution) (block : ℕ) → is_some o ≡ false → option_map send_cause o ≡ if_resident c block (why_not_sent run block) → IsCacheOf c run → why_not_sent run block ≡ None
sent_why o c run block none cause at = sym (whole_alone c run block _ at) ∙ sym cause ∙ ap (option_map send_cause) (none_of_row o none)

pub returns-clause-sent : goal.returns-clause-sent
returns-clause-sent g c = λ others run runs.
    let block = c.args.block in
    let flight = c.in_ok-flight.flight in
    let before : IsCacheOf c.why_not_sent.new.self run = subst (λ (x : Contents). IsCacheOf x run) (sym c.why_not_sent.ensures.same) runs.cache_is in
    let why = sent_why c.why_not_sent.result c.args.self.now run block (sym c.is_some.ensures ∙ c.if-is_some.false) (c.why_not_sent.ensures.cause true run runs.cache_is) runs.cache_is in
    let done = c.in_ok-flight.ensures.begun true run before why in
    let held : c.push_reserved.new.self.items ≡ c.args.flights.now.held.items ++ flight ∷ [] = c.push_reserved.ensures.items ∙ ap (λ xs. xs ++ flight ∷ []) c.reserve.ensures.items in
    let startable = (c.pairs_merge.ensures.sent run block).0 why in (
      why,
      record {
        cache_is = done.1;
        flights_are = subst (AreFlightsBeside others (extended run (the.Send block))) (sym held)
            (held_send c.steps_extend.ensures.state c.images_stay.ensures c.flights_are_ready.ensures.sent c.flights_are_ready.ensures.sent_elsewhere run block c.args.flights.now.held.items flight
            runs.cache_is.legal startable.1.0 done.0 runs.flights_are);
      },
    )

pub returns-clause-more : goal.returns-clause-more
returns-clause-more g c = λ others run runs.
    let flight = c.in_ok-flight.flight in
    let before : IsCacheOf c.why_not_sent.new.self run = subst (λ (x : Contents). IsCacheOf x run) (sym c.why_not_sent.ensures.same) runs.cache_is in
    let why = sent_why c.why_not_sent.result c.args.self.now run c.args.block (sym c.is_some.ensures ∙ c.if-is_some.false) (c.why_not_sent.ensures.cause true run runs.cache_is) runs.cache_is in
    let begun = (c.in_ok-flight.ensures.begun true run before why).0 in
    let held : c.push_reserved.new.self.items ≡ c.args.flights.now.held.items ++ flight ∷ [] = c.push_reserved.ensures.items ∙ ap (λ xs. xs ++ flight ∷ []) c.reserve.ensures.items in
    (flight, begun.block_is, held)

pub returns-clause-count : goal.returns-clause-count
returns-clause-count g c =
    let flight = c.in_ok-flight.flight in
    let held : c.push_reserved.new.self.items ≡ c.args.flights.now.held.items ++ flight ∷ [] = c.push_reserved.ensures.items ∙ ap (λ xs. xs ++ flight ∷ []) c.reserve.ensures.items in
    ap length held ∙ length-append c.args.flights.now.held.items (flight ∷ [])

pub send_ready-requires-clause-resident : goal.send_ready-requires-clause-resident
send_ready-requires-clause-resident g c =
    subst (λ (v : Contents). is_resident v c.args.block ≡ true) (sym c.why_not_sent.ensures.same) (c.why_not_sent.ensures.resident (none_is c.why_not_sent.result (sym c.is_some.ensures ∙ c.if-is_some.false)))

pub send_ready-requires-clause-not_under_way : goal.send_ready-requires-clause-not_under_way
send_ready-requires-clause-not_under_way g c =
    subst (λ (v : Contents). write_at v c.args.block ≡ None) (sym c.why_not_sent.ensures.same) (c.why_not_sent.ensures.not_under_way (none_is c.why_not_sent.result (sym c.is_some.ensures ∙ c.if-is_some.false)))

-- no write can begin
pub returns-then-is_some-clause-sent : goal.returns-then-is_some-clause-sent
returns-then-is_some-clause-sent g c = λ others run runs. (
  λ none. not_told send_cause c.why_not_sent.result (sym c.is_some.ensures ∙ c.if-is_some.true) (c.why_not_sent.ensures.cause true run runs.cache_is ∙ whole_alone c.args.self.now run c.args.block _ runs.cache_is ∙ none),
  record { cache_is = subst (λ (x : Contents). IsCacheOf x run) (sym c.why_not_sent.ensures.same) runs.cache_is; flights_are = runs.flights_are },
)

pub returns-then-is_some-clause-trace : goal.returns-then-is_some-clause-trace
returns-then-is_some-clause-trace g c = none_added c.args.self.now c.why_not_sent.new.self c.why_not_sent.ensures.same

pub returns-then-is_some-clause-more : goal.returns-then-is_some-clause-more
returns-then-is_some-clause-more g c = λ others run runs. refl

pub returns-in_err-reserve-clause-sent : goal.returns-in_err-reserve-clause-sent
returns-in_err-reserve-clause-sent g c = λ others run runs. IfOk-from_err c.from_residual.result _ c.from_residual.ensures.0

pub returns-in_err-reserve-clause-more : goal.returns-in_err-reserve-clause-more
returns-in_err-reserve-clause-more g c = λ others run runs. IfOk-from_err c.from_residual.result _ c.from_residual.ensures.0

pub returns-in_err-reserve-clause-trace : goal.returns-in_err-reserve-clause-trace
returns-in_err-reserve-clause-trace g c = IfOk-from_err c.from_residual.result _ c.from_residual.ensures.0

pub returns-in_err-reserve-clause-count : goal.returns-in_err-reserve-clause-count
returns-in_err-reserve-clause-count g c = IfOk-from_err c.from_residual.result _ c.from_residual.ensures.0

pub returns-in_err-reserve-clause-kept : goal.returns-in_err-reserve-clause-kept
returns-in_err-reserve-clause-kept g c = IfOk-from_err c.from_residual.result _ c.from_residual.ensures.0

pub returns-in_err-reserve-clause-refused : goal.returns-in_err-reserve-clause-refused
returns-in_err-reserve-clause-refused g c = on_err _ c.why_not_sent.ensures.same

pub returns-in_err-reserve-clause-held : goal.returns-in_err-reserve-clause-held
returns-in_err-reserve-clause-held g c = on_err _ c.reserve.ensures.items

pub returns-then-is_some-clause-cause : goal.returns-then-is_some-clause-cause
returns-then-is_some-clause-cause g c = λ run runs. tt

pub returns-then-is_some-clause-refused : goal.returns-then-is_some-clause-refused
returns-then-is_some-clause-refused g c = tt

pub returns-then-is_some-clause-held : goal.returns-then-is_some-clause-held
returns-then-is_some-clause-held g c = tt

pub returns-then-is_some-clause-kept : goal.returns-then-is_some-clause-kept
returns-then-is_some-clause-kept g c = λ none. refl

pub returns-clause-cause : goal.returns-clause-cause
returns-clause-cause g c = λ run runs. tt

pub returns-clause-refused : goal.returns-clause-refused
returns-clause-refused g c = tt

pub returns-clause-held : goal.returns-clause-held
returns-clause-held g c = tt

pub returns-clause-trace : goal.returns-clause-trace
returns-clause-trace g c = c.in_ok-flight.ensures.trace ∙ ap (λ (v : Contents). v.trace ++ the.Send c.args.block ∷ []) c.why_not_sent.ensures.same

pub returns-in_err-reserve-clause-cause : goal.returns-in_err-reserve-clause-cause
returns-in_err-reserve-clause-cause g c = λ run runs. on_err _
    (sym (whole_alone c.args.self.now run c.args.block _ runs.cache_is) ∙ sym (c.why_not_sent.ensures.cause true run runs.cache_is)
    ∙ ap (option_map send_cause) (none_of_row c.why_not_sent.result (sym c.is_some.ensures ∙ c.if-is_some.false)))

pub returns-in_err-flight-clause-sent : goal.returns-in_err-flight-clause-sent
returns-in_err-flight-clause-sent g c = λ others run runs. IfOk-from_err c.from_residual-in_err-flight.result _ c.from_residual-in_err-flight.ensures.0

pub returns-in_err-flight-clause-more : goal.returns-in_err-flight-clause-more
returns-in_err-flight-clause-more g c = λ others run runs. IfOk-from_err c.from_residual-in_err-flight.result _ c.from_residual-in_err-flight.ensures.0

pub returns-in_err-flight-clause-trace : goal.returns-in_err-flight-clause-trace
returns-in_err-flight-clause-trace g c = IfOk-from_err c.from_residual-in_err-flight.result _ c.from_residual-in_err-flight.ensures.0

pub returns-in_err-flight-clause-count : goal.returns-in_err-flight-clause-count
returns-in_err-flight-clause-count g c = IfOk-from_err c.from_residual-in_err-flight.result _ c.from_residual-in_err-flight.ensures.0

pub returns-in_err-flight-clause-kept : goal.returns-in_err-flight-clause-kept
returns-in_err-flight-clause-kept g c = IfOk-from_err c.from_residual-in_err-flight.result _ c.from_residual-in_err-flight.ensures.0

pub returns-in_err-flight-clause-refused : goal.returns-in_err-flight-clause-refused
returns-in_err-flight-clause-refused g c = on_err _ (c.in_err-flight.ensures.refused ∙ c.why_not_sent.ensures.same)

pub returns-in_err-flight-clause-held : goal.returns-in_err-flight-clause-held
returns-in_err-flight-clause-held g c = on_err _ c.reserve.ensures.items

pub returns-in_err-flight-clause-cause : goal.returns-in_err-flight-clause-cause
returns-in_err-flight-clause-cause g c = λ run runs. on_err _
    (sent_why c.why_not_sent.result c.args.self.now run c.args.block (sym c.is_some.ensures ∙ c.if-is_some.false) (c.why_not_sent.ensures.cause true run runs.cache_is) runs.cache_is)
