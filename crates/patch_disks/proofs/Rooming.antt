-- A put that wins room back makes calls alone, so behind it no write is under way, and a crash may leave what it could.
use Rattle.std.proofs.Common.{◌≡◌, ℕ, inl, inr, Bool, true, false, List, [], ◌∷◌, ◌++◌, refl, sym, ap, subst, append_assoc}
use Rattle.std.specs.Prelude.{MatchBool}
use Rattle.std.proofs.lemmas.List.{append-nil}
use Rattle.patch_model.specs.Crash.{MayLeave}
use Rattle.patch_model.specs.Step.{Step}
use Rattle.patch_frame.specs.Frame.{Content}
use Rattle.patch_history.specs.declared.commands.Command.{Command as CodeCommand}
use Rattle.patch_history.specs.declared.commands.Command.TheVariants as asked
use Rattle.patch_history.specs.Command.{Command, Reply, Put, is_refused}
use Rattle.patch_history.specs.Commands.{command_of}
use Rattle.patch_history.specs.History.{History, Event, Call, Moved, IsLegalHistory, execution_of, with_event}
use Rattle.patch_history.specs.Laws.{HistoriesBegin}
use Rattle.patch_history.specs.StoreState.{at_opening}
use Rattle.patch_room.specs.Ahead.{StepsAhead}
use Rattle.patch_room.specs.Putting.{Won, IsPut, PutsInRoom, reclaims, calls_in, calls_at_need}
use Rattle.patch_store.specs.Meaning.{Store}
use Rattle.patch_store.specs.Running.{with_calls}
use Rattle.patch_disks.specs.declared.answering.Reclaims.TheVariants.{ByHand, ByItself}
use Rattle.patch_disks.specs.Answering.{AreCallsOf}
use Rattle.patch_disks.specs.Running.{StandsOn, IsCalled, IsCommanded}
use Rattle.patch_disks.proofs.Resting.{StatesExtend, ImagesStay, DisksStay, Rests, rests_behind, disks_behind}

-- One call.

pub by_hand : (h : History) (call : ℕ × Command) (reply : Reply) (store : Store) (contents : List (List ℕ)) → IsCalled h call reply store contents
    → IsCommanded ByHand h call reply store contents
by_hand h call reply store contents called = record {
  calls = Call call.0 call.1 reply called.steps ∷ [];
  are = (called.steps, refl);
  stands = called.stands;
  stays = called.stays;
}

-- no put
abbrev pub IsOther : {A : Type 0} → CodeCommand A → Type 0
IsOther {A = A} command = (key value : List ℕ) → command ≡ asked.Put key value → ⊥

one_so : (h : History) (call : ℕ × Command) (reply : Reply) (store : Store) (contents : List (List ℕ)) (called : IsCalled h call reply store contents)
    → AreCallsOf ByItself h call reply (Call call.0 call.1 reply called.steps ∷ []) → IsCommanded ByItself h call reply store contents
one_so h call reply store contents called are =
    record { calls = Call call.0 call.1 reply called.steps ∷ []; are = are; stands = called.stands; stays = called.stays }

pub by_itself : {A : Type 0} (h : History) (writer : ℕ) (command : CodeCommand A) (reply : Reply) (store : Store) (contents : List (List ℕ)) → IsOther command
    → IsCalled h (writer, command_of command) reply store contents → IsCommanded ByItself h (writer, command_of command) reply store contents
by_itself h writer (asked.Put key value) reply store contents other called = absurd (other key value refl)
by_itself h writer (asked.Get key) reply store contents other called = one_so h _ reply store contents called (called.steps, refl)
by_itself h writer (asked.Delete key) reply store contents other called = one_so h _ reply store contents called (called.steps, refl)
by_itself h writer (asked.Reclaim extent) reply store contents other called = one_so h _ reply store contents called (called.steps, refl)
by_itself h writer asked.Upgrade reply store contents other called = one_so h _ reply store contents called (called.steps, refl)
by_itself h writer asked.Group reply store contents other called = one_so h _ reply store contents called (called.steps, refl)
by_itself h writer (asked.Engage group) reply store contents other called = one_so h _ reply store contents called (called.steps, refl)
by_itself h writer (asked.Disengage group) reply store contents other called = one_so h _ reply store contents called (called.steps, refl)
by_itself h writer (asked.Depend group on) reply store contents other called = one_so h _ reply store contents called (called.steps, refl)
by_itself h writer (asked.CloseGroup group) reply store contents other called = one_so h _ reply store contents called (called.steps, refl)
by_itself h writer (asked.Pending group) reply store contents other called = one_so h _ reply store contents called (called.steps, refl)

-- Several calls.

abbrev pub AreCalls : List Event → Type 0
AreCalls [] = Unit {0}
AreCalls (Call writer command reply steps ∷ events) = AreCalls events
AreCalls (Moved step ∷ events) = ⊥

calls_both : (calls others : List Event) → AreCalls calls → AreCalls others → AreCalls (calls ++ others)
calls_both [] others are more = more
calls_both (Call writer command reply steps ∷ calls) others are more = calls_both calls others are more
calls_both (Moved step ∷ calls) others are more = absurd are

of_reclaims : (writer : ℕ) (won : List Won) → AreCalls (reclaims writer won)
of_reclaims writer [] = tt
of_reclaims writer (w ∷ won) = of_reclaims writer won

of_need : (writer : ℕ) (won : List Won) (last : Command) (reply : Reply) (steps : List Step) → AreCalls (calls_in writer won last reply steps)
of_need writer won last reply steps = calls_both (reclaims writer won) (Call writer last reply steps ∷ []) (of_reclaims writer won) tt

of_none : (calls : List Event) → calls ≡ [] → AreCalls calls
of_none calls none = subst AreCalls (sym none) tt

of_ahead : (refused : Bool) (h : History) (writer : ℕ) (ahead : List Event) → MatchBool refused (ahead ≡ []) (StepsAhead h writer ahead) → AreCalls ahead
of_ahead true h writer ahead none = of_none ahead none
of_ahead false h writer ahead (inl none) = of_none ahead none.1
of_ahead false h writer ahead (inr one) = subst AreCalls (sym one.ahead_is) tt

-- those of a put
pub of_put : (h : History) (most writer : ℕ) (c : Content) (reply : Reply) (calls : List Event) → IsPut h most writer c reply calls → AreCalls calls
of_put h most writer c reply calls put =
    let need = put.need in
    subst AreCalls (sym put.calls_are) (calls_both (calls_at_need need) put.ahead (of_need writer need.won need.last reply need.steps)
    (of_ahead (is_refused reply) (with_calls h (calls_at_need need)) writer put.ahead put.ahead_is))

module _ (extend : StatesExtend) (stay : ImagesStay) (disks : DisksStay) (begin : HistoriesBegin) where
  pub over_calls : (contents : List (List ℕ)) (calls : List Event) (h : History) → AreCalls calls → IsLegalHistory (with_calls h calls)
      → Rests (execution_of h) contents → Rests (execution_of (with_calls h calls)) contents
  over_calls contents [] h are legal rests =
      subst (λ events. Rests (execution_of (record h { events = events })) contents) (sym (append-nil h.events)) rests
  over_calls contents (Call writer command reply steps ∷ calls) h are legal rests =
      let event = Call writer command reply steps in
      let first = with_event h event in
      let same : with_calls first calls ≡ with_calls h (event ∷ calls) = ap (λ events. record h { events = events }) (append_assoc h.events (event ∷ []) calls) in
      let legal_first = subst IsLegalHistory (sym same) legal in
      let begun = begin first calls legal_first in
      let now = rests_behind extend stay h writer command reply steps contents (at_opening h.opening h.first) begun.right rests in
      subst (λ all. Rests (execution_of all) contents) same (over_calls contents calls first are legal_first now)
  over_calls contents (Moved step ∷ calls) h are legal rests = absurd are

  pub disks_over_calls : (disk : List (List ℕ)) (calls : List Event) (h : History) → AreCalls calls → IsLegalHistory (with_calls h calls)
      → MayLeave (execution_of h) disk → MayLeave (execution_of (with_calls h calls)) disk
  disks_over_calls disk [] h are legal may =
      subst (λ events. MayLeave (execution_of (record h { events = events })) disk) (sym (append-nil h.events)) may
  disks_over_calls disk (Call writer command reply steps ∷ calls) h are legal may =
      let event = Call writer command reply steps in
      let first = with_event h event in
      let same : with_calls first calls ≡ with_calls h (event ∷ calls) = ap (λ events. record h { events = events }) (append_assoc h.events (event ∷ []) calls) in
      let legal_first = subst IsLegalHistory (sym same) legal in
      let begun = begin first calls legal_first in
      let now = disks_behind disks h writer command reply steps disk (at_opening h.opening h.first) begun.right begun.legal may in
      subst (λ all. MayLeave (execution_of all) disk) same (disks_over_calls disk calls first are legal_first now)
  disks_over_calls disk (Moved step ∷ calls) h are legal may = absurd are

  -- A put in room.
  pub put_so : (h : History) (writer : ℕ) (key value : List ℕ) (reply : Reply) (old new : Store) (contents : List (List ℕ))
      → PutsInRoom 2 writer (record { key = key; value = value }) reply old new → StandsOn old h contents
      → IsCommanded ByItself h (writer, Put key value) reply new contents
  put_so h writer key value reply old new contents puts stands =
      let has = puts h stands.still.represents in
      let are = of_put h 2 writer (record { key = key; value = value }) reply has.calls has.put in
      let legal = has.represents.legal in
      let rests = over_calls contents has.calls h are legal (record { no_flight = stands.still.no_flight; images = stands.images }) in
      record {
        calls = has.calls;
        are = has.put;
        stands = record { still = record { represents = has.represents; no_flight = rests.no_flight }; images = rests.images };
        stays = λ disk may. disks_over_calls disk has.calls h are legal may;
      }
