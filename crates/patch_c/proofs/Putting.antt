-- A put that wins room back makes calls alone, so no write is under way behind it where none was before.
use mathlib.Core.Logic.{∥∥₁_map}
use Rattle.std.proofs.Common.{◌≡◌, ◌≢◌, ◌∙◌, inl, inr, ℕ, ℤ, Bool, true, false, Result, Ok, Err, List, [], ◌∷◌, ◌++◌, refl, sym, ap, subst, append_assoc}
use Rattle.std.proofs.lemmas.Bool.{cases_Bool}
use Rattle.std.proofs.lemmas.List.{append-nil}
use Rattle.std.specs.Ordering.{int_eq}
use Rattle.patch_model.specs.declared.refusals.RefusalKind.TheVariants as kind
use Rattle.patch_frame.specs.Frame.{Content}
use Rattle.patch_history.specs.declared.refusals.PutRefusal.{PutRefusal}
use Rattle.patch_history.specs.declared.refusals.PutRefusal.TheVariants as put
use Rattle.patch_history.specs.Refusals.{put_cause}
use Rattle.patch_history.specs.Command.{Reply, Done, is_refused}
use Rattle.patch_history.specs.History.{History, Event, Call, Moved, IsLegalHistory, execution_of, with_event}
use Rattle.patch_history.specs.Laws.{HistoriesBegin}
use Rattle.patch_history.specs.StoreState.{at_opening}
use Rattle.patch_room.specs.Ahead.{StepsAhead, GoesAhead}
use Rattle.patch_room.specs.Putting.{Won, IsPut, HasPut, reclaims, calls_in}
use Rattle.patch_store.specs.Meaning.{Store}
use Rattle.patch_store.specs.Running.{with_calls}
use Rattle.patch_disks.proofs.Resting.{StatesExtend, ImagesStay, Rests, rests_behind}
use Rattle.patch_store.specs.Replies.{reply_to}
use Rattle.patch_handles.specs.declared.answers.Answer.TheVariants.{Refused}
use Rattle.patch_handles.specs.Answering.{number_of}
use Rattle.patch_c.specs.Answering.{answer_of}
use Rattle.patch_c.specs.LegalStores.{Stands, StandsSomewhere}
use Rattle.patch_c.specs.Putting.{PutsStay}

-- All events are calls.
abbrev AreCalls : List Event → Type 0
AreCalls [] = Unit {0}
AreCalls (Call writer command reply steps ∷ events) = AreCalls events
AreCalls (Moved step ∷ events) = ⊥

calls_append : (events later : List Event) → AreCalls events → AreCalls later → AreCalls (events ++ later)
calls_append [] later are and = and
calls_append (Call writer command reply steps ∷ events) later are and = calls_append events later are and
calls_append (Moved step ∷ events) later are and = absurd are

reclaims_are : (writer : ℕ) (won : List Won) → AreCalls (reclaims writer won)
reclaims_are writer [] = tt
reclaims_are writer (w ∷ won) = reclaims_are writer won

steps_are : (h : History) (writer : ℕ) (ahead : List Event) → StepsAhead h writer ahead → AreCalls ahead
steps_are h writer ahead (inl none) = subst AreCalls (sym none.1) tt
steps_are h writer ahead (inr step) = subst AreCalls (sym step.ahead_is) tt

ahead_are : (h : History) (writer : ℕ) (reply : Reply) (ahead : List Event) → GoesAhead h writer reply ahead → AreCalls ahead
ahead_are h writer reply ahead goes = elim (cases_Bool (is_refused reply)) [
  | inl t ↦ (let none : ahead ≡ [] = rw t at goes in subst AreCalls (sym none) tt)
  | inr t ↦ (let steps : StepsAhead h writer ahead = rw t at goes in steps_are h writer ahead steps)
]

-- so it is with those of a put
put_are : (h : History) (most writer : ℕ) (c : Content) (reply : Reply) (calls : List Event) → IsPut h most writer c reply calls → AreCalls calls
put_are h most writer c reply calls put =
    let need = put.need in
    let last = Call writer need.last reply need.steps ∷ [] in
    subst AreCalls (sym put.calls_are)
    (calls_append (calls_in writer need.won need.last reply need.steps) put.ahead
    (calls_append (reclaims writer need.won) last (reclaims_are writer need.won) tt)
    (ahead_are (with_calls h (calls_in writer need.won need.last reply need.steps)) writer reply put.ahead put.ahead_is))

module _ (extend : StatesExtend) (stay : ImagesStay) (begin : HistoriesBegin) where
  -- behind some calls
  rests_calls : (blocks : List (List ℕ)) (calls : List Event) (h : History) → AreCalls calls → IsLegalHistory (with_calls h calls)
      → Rests (execution_of h) blocks → Rests (execution_of (with_calls h calls)) blocks
  rests_calls blocks [] h are legal rests =
      subst (λ events. Rests (execution_of (record h { events = events })) blocks) (sym (append-nil h.events)) rests
  rests_calls blocks (Call writer command reply steps ∷ later) h are legal rests =
      let event = Call writer command reply steps in
      let first = with_event h event in
      let same : with_calls first later ≡ with_calls h (event ∷ later) = ap (λ events. record h { events = events }) (append_assoc h.events (event ∷ []) later) in
      let legal_first = subst IsLegalHistory (sym same) legal in
      let begun = begin first later legal_first in
      let now = rests_behind extend stay h writer command reply steps blocks (at_opening h.opening h.first) begun.right rests in
      subst (λ all. Rests (execution_of all) blocks) same (rests_calls blocks later first are legal_first now)
  rests_calls blocks (Moved step ∷ later) h are legal rests = absurd are

  stands_put : (spent : Bool) (blocks : List (List ℕ)) (most writer : ℕ) (c : Content) (reply : Reply) (old new : Store) (h : History)
      → Stands spent old blocks h → HasPut h most writer c reply old new → StandsSomewhere spent new blocks
  stands_put spent blocks most writer c reply old new h stands put = (
    with_calls h put.calls,
    record {
      represents = put.represents;
      on = λ unspent.
          let before = stands.on unspent in
          let rests = rests_calls blocks put.calls h (put_are h most writer c reply put.calls put.put) put.represents.legal
          (record { no_flight = before.still.no_flight; images = before.images }) in
          record { still = record { represents = put.represents; no_flight = rests.no_flight }; images = rests.images };
    },
  )

  pub puts_stay : PutsStay
  puts_stay spent blocks most writer c reply old new stands puts =
      ∥∥₁_map stands (λ w. stands_put spent blocks most writer c reply old new w.0 w.1 (puts w.0 w.1.represents))

-- The answer of a put, by the number that is told.

abbrev is_full : ℤ → Bool
is_full number = int_eq number (number_of (Refused kind.NoSpace))

other : {X : Type 0} {number : ℤ} → number ≡ number_of (Refused kind.NoSpace) → is_full number ≡ false → X
other same not = let e : true ≡ false = sym (ap is_full same) ∙ not in absurd (cc)

full_in : (result : Result (Unit {0}) PutRefusal) → number_of (answer_of (reply_to put_cause (λ _. Done) result)) ≡ number_of (Refused kind.NoSpace) → result ≡ Err put.NoSpace
full_in (Ok done) same = other same refl
full_in (Err put.KeyLength) same = other same refl
full_in (Err put.ValueLength) same = other same refl
full_in (Err put.IndexFull) same = other same refl
full_in (Err put.NoSpace) same = refl
full_in (Err put.NumbersSpent) same = other same refl
full_in (Err put.TooManyLive) same = other same refl
full_in (Err put.OutOfMemory) same = other same refl

pub full_so : (result : Result (Unit {0}) PutRefusal) (number : ℤ) → number ≡ number_of (answer_of (reply_to put_cause (λ _. Done) result))
    → number ≡ number_of (Refused kind.NoSpace) → result ≡ Err put.NoSpace
full_so result number told is = full_in result (sym told ∙ is)

pub reserve_so : (result : Result (Unit {0}) PutRefusal) (number : ℤ) → number ≡ number_of (answer_of (reply_to put_cause (λ _. Done) result))
    → number ≢ number_of (Refused kind.OutOfMemory) → result ≢ Err put.OutOfMemory
reserve_so result number told not same = not (told ∙ ap (λ r. number_of (answer_of (reply_to put_cause (λ _. Done) r))) same)
