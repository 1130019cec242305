-- A store behind one event more.
use Rattle.std.proofs.Common.{◌≡◌, ℕ, true, false, ◌∙◌, List, [], ◌∷◌, ◌++◌, inl, inr, refl, sym, ap, subst}
use Rattle.std.proofs.lemmas.List.{append_assoc, append-nil}
use Rattle.std.specs.Prelude.{fold, flat_map, Option, Some, None, MatchBool}
use Rattle.patch_model.specs.declared.refusals.Refusal.{Refusal}
use Rattle.patch_model.specs.Step.{Step}
use Rattle.patch_model.specs.Execution.{Execution, followed_by}
use Rattle.patch_cache.specs.Contents.{Contents}
use Rattle.patch_cache.specs.Meaning.{IsCacheOf}
use Rattle.patch_cache.specs.Refusals.{IsCause}
use Rattle.patch_history.specs.Command.{Command, Reply, Refused, unless, is_refused, takes_memory, may_be_cut}
use Rattle.patch_history.specs.StoreState.{Standing, at_opening, made_by, plan_of}
use Rattle.patch_history.specs.Refusing.{reply_of}
use Rattle.patch_history.specs.Laws.{HistoriesExtend}
use Rattle.patch_history.specs.History.{History, Event, Call, steps_in, steps_of, after_event, execution_of, standing_of, with_event, IsRight, IsCut}
use Rattle.patch_plans.specs.Writing.{written}
use Rattle.patch_store.specs.Meaning.{Store, IsStoreOf, HasGained, HasAnswered}
use Rattle.patch_store.specs.Merging.{Counts, AreCounted}
use Rattle.patch_store.proofs.Outcomes.{merged_none}

pub steps_push : (events : List Event) (event : Event) → flat_map steps_in (events ++ event ∷ []) ≡ flat_map steps_in events ++ steps_in event
steps_push [] event = append-nil (steps_in event)
steps_push (first ∷ events) event = ap (λ steps. steps_in first ++ steps) (steps_push events event) ∙ sym (append_assoc (steps_in first) (flat_map steps_in events) (steps_in event))

pub fold_push : (st : Standing) (events : List Event) (event : Event) → fold after_event st (events ++ event ∷ []) ≡ after_event (fold after_event st events) event
fold_push st [] event = refl
fold_push st (first ∷ events) event = fold_push (after_event st first) events event

pub run_push : (h : History) (event : Event) → execution_of (with_event h event) ≡ followed_by (execution_of h) (steps_in event)
run_push h event = ap (λ steps. record (execution_of h) { steps = steps }) (steps_push h.events event)

-- one event more is counted behind the others
counted_push : (st : Standing) (events : List Event) (event : Event) (before between after : ℕ) → AreCounted st events before between
    → Counts (fold after_event st events) event between after → AreCounted st (events ++ event ∷ []) before after
counted_push st [] event before between after are counts = (after, subst (λ count. Counts st event count after) are counts, refl)
counted_push st (first ∷ events) event before between after are counts =
    (are.0, are.1, counted_push (after_event st first) events event are.0 between after are.2 counts)

pub gained : HistoriesExtend → (h : History) (event : Event) (old new : Store) → IsStoreOf old h → IsRight (standing_of h) event
    → IsCacheOf new.cache (followed_by (execution_of h) (steps_in event)) → new.groups ≡ (after_event (standing_of h) event).groups
    → new.shelf ≡ (after_event (standing_of h) event).shelf → new.cache.trace ≡ old.cache.trace ++ steps_in event
    → Counts (standing_of h) event old.left_out new.left_out → HasGained h event old new
gained extends h event old new was right cache groups shelf trace counts =
    let stands = subst (IsCacheOf new.cache) (sym (run_push h event)) cache in
    let st : standing_of (with_event h event) ≡ after_event (standing_of h) event = fold_push _ h.events event in
    record {
      right = right;
      represents = record {
        legal = extends h event was.legal right stands.legal;
        cache_is = stands;
        groups_are = groups ∙ ap (λ s. s.groups) (sym st);
        shelf_is = shelf ∙ ap (λ s. s.shelf) (sym st);
        left_out_is = counted_push (at_opening h.opening h.first) h.events event 0 old.left_out new.left_out was.left_out_is counts;
      };
      trace_is = trace;
      counts = counts;
    }

-- a call without steps
pub answered : HistoriesExtend → (h : History) (writer : ℕ) (command : Command) (reply : Reply) (old new : Store) → IsStoreOf old h
    → IsRight (standing_of h) (Call writer command reply []) → new.cache ≡ old.cache
    → new.groups ≡ (after_event (standing_of h) (Call writer command reply [])).groups → new.shelf ≡ old.shelf → new.left_out ≡ old.left_out
    → HasAnswered h writer command reply old new
answered extends h writer command reply old new was right cache groups shelf left_out = record {
  steps = [];
  gained = gained extends h (Call writer command reply []) old new was right
      (subst (λ c. IsCacheOf c (followed_by (execution_of h) [])) (sym cache)
      (subst (λ steps. IsCacheOf old.cache (record (execution_of h) { steps = steps })) (sym (append-nil (steps_of h))) was.cache_is))
      groups (shelf ∙ was.shelf_is) (ap (λ c. c.trace) cache ∙ sym (append-nil old.cache.trace))
      (merged_none (standing_of h).run (written (standing_of h).shelf.extents (made_by (standing_of h)) (plan_of (standing_of h) writer command))
      old.left_out new.left_out left_out);
}

abbrev Nothing : Type 0
Nothing = ◌≡◌ {A = List Step} [] []

-- it is right where it is refused for its cause, or without one for want of memory
pub right_refused : (st : Standing) (writer : ℕ) (command : Command) (cause : Option Refusal) (refusal : Refusal) (ok : Reply)
    → reply_of st writer command ≡ unless cause ok → is_refused ok ≡ false → takes_memory command ≡ true
    → MatchBool (may_be_cut command) (IsCut st (plan_of st writer command) []) Nothing → IsCause cause refusal
    → IsRight st (Call writer command (Refused refusal) [])
right_refused st writer command None refusal ok is fine takes cut why =
    inr (record { takes = takes; no_cause = ap is_refused is ∙ fine; reply_is = ap Refused why; cut = cut })
right_refused st writer command (Some cause) refusal ok is fine takes cut why = inl (ap Refused why ∙ sym is, refl)

-- for its cause alone
pub right_caused : (st : Standing) (writer : ℕ) (command : Command) (cause : Option Refusal) (refusal : Refusal) (ok : Reply)
    → reply_of st writer command ≡ unless cause ok → cause ≡ Some refusal → IsRight st (Call writer command (Refused refusal) [])
right_caused st writer command cause refusal ok is why = inl (sym (is ∙ ap (λ c. unless c ok) why), refl)

-- and it leaves all as it was
pub refused : HistoriesExtend → (h : History) (writer : ℕ) (command : Command) (refusal : Refusal) (old new : Store) → IsStoreOf old h
    → IsRight (standing_of h) (Call writer command (Refused refusal) []) → new ≡ old → HasAnswered h writer command (Refused refusal) old new
refused extends h writer command refusal old new was right same =
    answered extends h writer command (Refused refusal) old new was right (ap (λ s. s.cache) same) (ap (λ s. s.groups) same ∙ was.groups_are) (ap (λ s. s.shelf) same)
    (ap (λ s. s.left_out) same)

-- what is said of the view of a store is said of the store
pub viewed : {h : History} {writer : ℕ} {command : Command} {reply : Reply} {old now new : Store} → old ≡ now
    → (IsStoreOf old h → HasAnswered h writer command reply old new) → IsStoreOf now h → HasAnswered h writer command reply now new
viewed {h = h} {writer = writer} {command = command} {reply = reply} {new = new} is said =
    subst (λ s. IsStoreOf s h → HasAnswered h writer command reply s new) is said

-- and of a store that stays as it is
pub viewed_same : {h : History} {writer : ℕ} {command : Command} {reply : Reply} {old now : Store} → old ≡ now
    → (IsStoreOf old h → HasAnswered h writer command reply old old) → IsStoreOf now h → HasAnswered h writer command reply now now
viewed_same {h = h} {writer = writer} {command = command} {reply = reply} is said =
    subst (λ s. IsStoreOf s h → HasAnswered h writer command reply s s) is said

-- a trace has no part in what a store represents
pub drained_so : (h : History) (old : Store) (cache : Contents) → IsStoreOf old h → ((run : Execution) → IsCacheOf old.cache run → IsCacheOf cache run)
    → IsStoreOf (record old { cache = cache }) h
drained_so h old cache was same = record {
  legal = was.legal;
  cache_is = same (execution_of h) was.cache_is;
  groups_are = was.groups_are;
  shelf_is = was.shelf_is;
  left_out_is = was.left_out_is;
}
