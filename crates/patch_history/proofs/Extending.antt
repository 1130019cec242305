-- Histories, an event longer.
use Rattle.std.proofs.Common.{◌≡◌, List, [], ◌∷◌, ◌++◌, refl, sym, ap, ◌∙◌}
use Rattle.std.proofs.lemmas.List.{append_assoc, append-nil}
use Rattle.std.specs.Prelude.{fold, flat_map}
use Rattle.patch_model.specs.Execution.{followed_by}
use Rattle.patch_model.specs.Legal.{IsLegal}
use Rattle.patch_history.specs.StoreState.{Standing, at_opening}
use Rattle.patch_history.specs.History.{History, Event, Call, Moved, steps_in, IsLegalHistory, IsRight, AreRight}
use Rattle.patch_history.specs.History.{after_event, execution_of, standing_of, with_event}

AreRight-push : (st : Standing) (events : List Event) (event : Event) → AreRight st events
    → IsRight (fold after_event st events) event → AreRight st (events ++ event ∷ [])
AreRight-push st [] event are is = (is, tt)
AreRight-push st (first ∷ events) event are is = (are.0, AreRight-push (after_event st first) events event are.1 is)

pub IsLegalHistory-push : (h : History) (event : Event) → IsLegalHistory h → IsRight (standing_of h) event
    → IsLegal (execution_of (with_event h event)) → IsLegalHistory (with_event h event)
IsLegalHistory-push h event l right legal =
    record { bytes = l.bytes; reads = l.reads; legal = legal; right = AreRight-push (at_opening h.opening h.first) h.events event l.right right }

run-after_event : (st : Standing) (event : Event) → (after_event st event).run ≡ followed_by st.run (steps_in event)
run-after_event st (Call writer command reply steps) = refl
run-after_event st (Moved step) = refl

run-fold : (st : Standing) (events : List Event)
    → (fold after_event st events).run ≡ followed_by st.run (flat_map steps_in events)
run-fold st [] = ap (λ steps. record st.run { steps = steps }) (sym (append-nil st.run.steps))
run-fold st (event ∷ events) =
    run-fold (after_event st event) events
    ∙ ap (λ run. followed_by run (flat_map steps_in events)) (run-after_event st event)
    ∙ ap (λ steps. record st.run { steps = steps })
    (append_assoc st.run.steps (steps_in event) (flat_map steps_in events))

pub standings_run : (h : History) → (standing_of h).run ≡ execution_of h
standings_run h = run-fold (at_opening h.opening h.first) h.events
