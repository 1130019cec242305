-- A step ahead of need, and a put with one behind it.
use Rattle.std.proofs.Common.{◌≡◌, ◌≢◌, ℕ, ◌+◌, ◌≤◌, ◌⊎◌, ◌∙◌, inl, inr, List, [], ◌∷◌, ◌++◌, length, take, drop, Some, None, refl}
use Rattle.std.proofs.Common.{sym, ap, arith, subst, append_assoc}
use Rattle.std.specs.Prelude.{Option, Result, Ok, Err, OnOk, flat_map}
use Rattle.std.proofs.lemmas.Bool.{cases_Bool}
use Rattle.std.proofs.lemmas.Grind.{flat_map-append}
use Rattle.std.proofs.lemmas.List.{append-nil, take-append-drop}
use Rattle.patch_frame.specs.Frame.{Content}
use Rattle.patch_frame.specs.Slot.{SlotFields}
use Rattle.patch_history.specs.declared.refusals.ReclaimRefusal.{ReclaimRefusal}
use Rattle.patch_history.specs.Choosing.{in_order, live_from, live_frames, empty_extents}
use Rattle.patch_history.specs.Command.{Reply, Reclaim, Done, Refused, is_refused}
use Rattle.patch_history.specs.History.{History, Event, Call, IsLegalHistory, standing_of, steps_in, with_event}
use Rattle.patch_history.specs.Map.{Map, after_reply}
use Rattle.patch_history.specs.Planning.{moves}
use Rattle.patch_history.specs.Refusing.{is_current}
use Rattle.patch_recovery.specs.Change.{Made}
use Rattle.patch_history.specs.Shelf.{Shelf, after_plan}
use Rattle.patch_history.specs.StoreState.{Standing, made_by}
use Rattle.patch_model.specs.declared.refusals.Refusal.{Refusal}
use Rattle.patch_store.specs.declared.stepping.Reclaimed.{Reclaimed}
use Rattle.patch_store.specs.declared.stepping.Reclaimed.TheVariants as reclaimed
use Rattle.patch_store.specs.Meaning.{Store, IsStoreOf, Answers}
use Rattle.patch_store.specs.Moving.{HasMovedWithin}
use Rattle.patch_store.specs.Running.{with_calls}
use Rattle.patch_store.specs.Stepping.{reply_of_some}
use Rattle.patch_store.proofs.Leaving.{IsApart, moves_leave}
use Rattle.patch_room.specs.Ahead.{room_left, least_spare, IsShare, IsTimely, NoneTimely, FewLeave, StepsAhead, IsNotTimely, HasGoneAhead, MovesAhead}
use Rattle.patch_room.specs.Laws.{shelf_in}
use Rattle.patch_room.specs.LawsBelow.{Given}
use Rattle.patch_room.specs.Putting.{HasPutAtNeed, HasPut, calls_at_need}
use Rattle.patch_room.specs.Room.{extent_bytes, live_in, HasEmpty, IsCheapest, MayBeWon}
use Rattle.patch_room.proofs.Appending.{plan_append}
use Rattle.patch_room.proofs.Calling.{empty_behind_reclaim}
use Rattle.patch_room.proofs.Cutting.{cut_moves, first_of_first, plan_leaves}
use Rattle.patch_room.proofs.Doing.{standing_event}
use Rattle.patch_room.proofs.Staying.{none_moved, no_live, stays_empty}
use Rattle.patch_room.proofs.Taking.{one_is_left}
use Rattle.patch_room.proofs.Winning.{is_current_is}

-- An extent stays empty.

-- The current extent has room for what is live in this one; or another one has, and two are empty.
abbrev pub LeavesEmpty : Shelf → (e : ℕ) → Type 0
LeavesEmpty s e = (live_in s e ≤ room_left s) ⊎ ((2 ≤ length (empty_extents s)) × (live_in s e ≤ extent_bytes s))

pub timely_leaves : (s : Shelf) (e count : ℕ) → IsTimely s e count → LeavesEmpty s e
timely_leaves s e count timely = elim (timely.share) [
  | inl paced ↦ inl paced.fits
  | inr (inl urgent) ↦ inl urgent.fits
  | inr (inr restored) ↦ (let worth = timely.worth in inr (restored.two, omega (arith, worth)))
]

-- what is live in one of two that are the cheapest is live in the other
same_live : (s : Shelf) (e other : ℕ) → IsCheapest s e → IsCheapest s other → live_in s other ≡ live_in s e
same_live s e other a b = elim (a.least other b.may) [
  | inl less ↦ elim (b.least e a.may) [
    | inl more ↦ absurd (omega (arith, less, more))
    | inr same ↦ same.0
  ]
  | inr same ↦ sym same.0
]

pub share_of_cheapest : (s : Shelf) (least left empty live e other count : ℕ) → least ≡ least_spare s → left ≡ room_left s
    → empty ≡ length (empty_extents s) → IsCheapest s e → live ≡ live_in s e → IsTimely s other count → IsShare least left empty live count
share_of_cheapest s least left empty live e other count least_is left_is empty_is cheapest live_is timely =
    let same : live_in s other ≡ live = same_live s e other cheapest timely.cheapest ∙ sym live_is in
    subst (λ live. IsShare least left empty live count) same
    (subst (λ empty. IsShare least left empty (live_in s other) count) (sym empty_is)
    (subst (λ left. IsShare least left (length (empty_extents s)) (live_in s other) count) (sym left_is)
    (subst (λ least. IsShare least (room_left s) (length (empty_extents s)) (live_in s other) count) (sym least_is) timely.share)))

first_leave : (given : Given) (h : History) (e k j n : ℕ) (moved : List Made) → IsLegalHistory h
    → moves (standing_of h).map.entries (shelf_in h) n (take k (live_frames (shelf_in h) e)) ≡ Some moved
    → LeavesEmpty (shelf_in h) e → HasEmpty (shelf_in h) → HasEmpty (after_plan (shelf_in h) n (take j moved))
first_leave given h e k j n moved legal is (inl fits) has = stays_empty given h legal e fits k j n moved is has
first_leave given h e k j n moved legal is (inr two) has = one_is_left given h legal e k j n moved is two.0 two.1

within_empty : (given : Given) (h : History) (e most : ℕ) (old new : Store) → IsStoreOf old h → LeavesEmpty old.shelf e
    → HasEmpty old.shelf → HasMovedWithin h e most new → HasEmpty new.shelf
within_empty given h e most old new was leaves has within =
    subst HasEmpty (sym within.shelf_is)
    (first_leave given h e within.frames within.count (made_by (standing_of h)) within.moved was.legal within.moved_is
    (subst (λ s. LeavesEmpty s e) was.shelf_is leaves) (subst HasEmpty was.shelf_is has))

pub keeps_empty : (given : Given) (h : History) (e most : ℕ) (result : Result Reclaimed ReclaimRefusal) (old new : Store) → IsStoreOf old h
    → LeavesEmpty old.shelf e → HasEmpty old.shelf
    → ((writer : ℕ) → Answers writer (Reclaim e) (reply_of_some result) old new)
    → (result ≢ Ok reclaimed.Emptied → HasMovedWithin h e most new) → HasEmpty new.shelf
keeps_empty given h e most (Ok reclaimed.Emptied) old new was leaves has answers within =
    let answered = answers 0 h was in empty_behind_reclaim given h 0 e answered.steps old new was answered.gained
keeps_empty given h e most (Ok reclaimed.Begun) old new was leaves has answers within =
    within_empty given h e most old new was leaves has (within (λ same. let no : Ok reclaimed.Begun ≡ Ok reclaimed.Emptied = same in cc))
keeps_empty given h e most (Err refusal) old new was leaves has answers within =
    within_empty given h e most old new was leaves has (within (λ same. let no : Err refusal ≡ Ok reclaimed.Emptied = same in cc))

-- So many frames leave, at most.

module _ (given : Given) (h : History) (e most : ℕ) (old new : Store) (was : IsStoreOf old h) (within : HasMovedWithin h e most new) where
  abbrev live : List (ℕ × SlotFields)
  live = live_frames (shelf_in h) e

  leave_of_none : live_in (shelf_in h) e ≡ 0 → FewLeave e most (shelf_in h) new.shelf
  leave_of_none none =
      let same = none_moved (standing_of h).map.entries (shelf_in h) live within.frames within.count (made_by (standing_of h)) within.moved
      (no_live given h was.legal e none) within.moved_is in
      record { frames = 0; few = omega arith; others = ap (λ s. live_frames s e) (within.shelf_is ∙ same) }

  leave_apart : IsApart (shelf_in h) e → FewLeave e most (shelf_in h) new.shelf
  leave_apart apart =
      let s = shelf_in h in
      let n = made_by (standing_of h) in
      let entries = (standing_of h).map.entries in
      let cut = cut_moves entries (take within.frames live) s n within.count within.moved within.moved_is in
      let j = cut.frames in
      let first = first_of_first j within.frames live cut.few in
      let whole_is = sym (ap (moves entries s n) first.1) ∙ cut.whole_is in
      let left = moves_leave entries e (take j live) (drop j live) s n cut.whole apart (sym (take-append-drop j live)) whole_is in
      let behind = plan_leaves (after_plan s n cut.whole) (n + length cut.whole) cut.others cut.leave in
      record {
        frames = j;
        few = (let low = first.0 in let few = within.few in omega (arith, low, few));
        others =
            ap (λ s. live_frames s e) (within.shelf_is ∙ ap (after_plan s n) cut.are ∙ plan_append s n cut.whole cut.others)
            ∙ ap (λ slots. in_order (live_from e 0 slots)) behind ∙ left;
      }

  pub within_leave : MayBeWon (shelf_in h) e → FewLeave e most (shelf_in h) new.shelf
  within_leave may = elim (cases_Bool (is_current (shelf_in h) e)) [
    | inl t ↦ leave_of_none (may.idle (is_current_is (shelf_in h) e (shelf_in h).current refl t))
    | inr t ↦ leave_apart (record { begun = (λ none. let begun = may.begun in omega (arith, none, begun)); not_current = t })
  ]

few_leave : (given : Given) (h : History) (e most : ℕ) (result : Result Reclaimed ReclaimRefusal) (old new : Store) → IsStoreOf old h
    → MayBeWon old.shelf e → OnOk result (live_frames new.shelf e ≡ drop most (live_frames old.shelf e))
    → (result ≢ Ok reclaimed.Emptied → HasMovedWithin h e most new) → FewLeave e most old.shelf new.shelf
few_leave given h e most (Ok r) old new was may left within = record { frames = most; few = omega arith; others = left }
few_leave given h e most (Err refusal) old new was may left within =
    subst (λ s. FewLeave e most s new.shelf) (sym was.shelf_is)
    (within_leave given h e most old new was (within (λ same. let no : Err refusal ≡ Ok reclaimed.Emptied = same in cc))
    (subst (λ s. MayBeWon s e) was.shelf_is may))

pub goes_ahead : (given : Given) (e count : ℕ) (result : Result Reclaimed ReclaimRefusal) (old new : Store) → IsTimely old.shelf e count
    → ((writer : ℕ) → Answers writer (Reclaim e) (reply_of_some result) old new)
    → ((h : History) → IsStoreOf old h → OnOk result (live_frames new.shelf e ≡ drop count (live_frames old.shelf e)))
    → ((h : History) → IsStoreOf old h → result ≢ Ok reclaimed.Emptied → HasMovedWithin h e count new) → HasGoneAhead result old new
goes_ahead given e count result old new timely answer moved within = record {
  extent = e;
  count = count;
  timely = timely;
  answer = answer;
  moved = moved;
  few = λ h was. few_leave given h e count result old new was timely.cheapest.may (moved h was) (within h was);
}

-- Behind a put.

-- the calls that were made ahead, and how the store stands behind them
pub record StandsAhead (h : History) (writer : ℕ) (old new : Store) : Type 0 where
  pub ahead : List Event
  pub goes : StepsAhead h writer ahead
  pub represents : IsStoreOf new (with_calls h ahead)
  pub trace_is : new.cache.trace ≡ old.cache.trace ++ flat_map steps_in ahead
  pub map_is : (standing_of (with_calls h ahead)).map ≡ (standing_of h).map

map_stays : (m : Map) (e : ℕ) (reply : Reply) → after_reply m (Reclaim e) reply ≡ m
map_stays m e reply = elim (cases_Bool (is_refused reply)) [ inl t ↦ rw t refl | inr t ↦ rw t refl ]

not_timely : (h : History) (writer : ℕ) (old new : Store) → IsStoreOf old h → IsNotTimely old new → StandsAhead h writer old new
not_timely h writer old new was idle =
    let same : h ≡ with_calls h [] = ap (λ events. record h { events = events }) (sym (append-nil h.events)) in record {
      ahead = [];
      goes = inl (subst NoneTimely was.shelf_is idle.none, refl);
      represents = subst (IsStoreOf new) same (subst (λ s. IsStoreOf s h) (sym idle.same) was);
      trace_is = ap (λ (s : Store). s.cache.trace) idle.same ∙ sym (append-nil old.cache.trace);
      map_is = ap (λ h. (standing_of h).map) (sym same);
    }

gone_ahead : (h : History) (writer : ℕ) (result : Result Reclaimed ReclaimRefusal) (old new : Store) → IsStoreOf old h
    → HasGoneAhead result old new → StandsAhead h writer old new
gone_ahead h writer result old new was gone =
    let e = gone.extent in
    let reply = reply_of_some result in
    let answered = gone.answer writer h was in
    let steps = answered.steps in
    let event = Call writer (Reclaim e) reply steps in record {
      ahead = event ∷ [];
      goes = inr (record {
        extent = e;
        count = gone.count;
        timely = subst (λ s. IsTimely s e gone.count) was.shelf_is gone.timely;
        reply = reply;
        steps = steps;
        few = subst (λ s. FewLeave e gone.count s (shelf_in (with_event h event))) was.shelf_is
            (subst (λ s. FewLeave e gone.count old.shelf s) answered.gained.represents.shelf_is (gone.few h was));
        ahead_is = refl;
      });
      represents = answered.gained.represents;
      trace_is = answered.gained.trace_is ∙ ap (λ steps. old.cache.trace ++ steps) (sym (append-nil steps));
      map_is = ap (λ (st : Standing). st.map) (standing_event h event) ∙ map_stays (standing_of h).map e reply;
    }

pub stands_ahead : (h : History) (writer : ℕ) (result : Result (Option Reclaimed) ReclaimRefusal) (old new : Store) → IsStoreOf old h
    → MovesAhead result old new → StandsAhead h writer old new
stands_ahead h writer (Ok None) old new was idle = not_timely h writer old new was idle
stands_ahead h writer (Ok (Some r)) old new was gone = gone_ahead h writer (Ok r) old new was gone
stands_ahead h writer (Err refusal) old new was gone = gone_ahead h writer (Err refusal) old new was gone

pub put_ahead : (h : History) (most writer : ℕ) (c : Content) (old mid new : Store) (done : HasPutAtNeed h most writer c Done old mid)
    → StandsAhead (with_calls h (calls_at_need done.need)) writer mid new → HasPut h most writer c Done old new
put_ahead h most writer c old mid new done stands =
    let calls = calls_at_need done.need in
    let ahead = stands.ahead in
    let same : with_calls (with_calls h calls) ahead ≡ with_calls h (calls ++ ahead) =
    ap (λ events. record h { events = events }) (append_assoc h.events calls ahead) in record {
      calls = calls ++ ahead;
      put = record {
        need = done.need;
        ahead = ahead;
        ahead_is = stands.goes;
        calls_are = refl;
        map_is = ap (λ h. (standing_of h).map) (sym same) ∙ stands.map_is ∙ done.map_is;
      };
      represents = subst (IsStoreOf new) same stands.represents;
      trace_is =
          stands.trace_is ∙ ap (λ trace. trace ++ flat_map steps_in ahead) done.trace_is
          ∙ append_assoc old.cache.trace (flat_map steps_in calls) (flat_map steps_in ahead)
          ∙ ap (λ steps. old.cache.trace ++ steps) (sym (flat_map-append steps_in calls ahead));
    }

-- a put that was refused
pub put_refused : (h : History) (most writer : ℕ) (c : Content) (cause : Refusal) (old new : Store)
    → HasPutAtNeed h most writer c (Refused cause) old new → HasPut h most writer c (Refused cause) old new
put_refused h most writer c cause old new done =
    let calls = calls_at_need done.need in
    let none = append-nil calls in record {
      calls = calls;
      put = record { need = done.need; ahead = []; ahead_is = refl; calls_are = sym none; map_is = done.map_is };
      represents = done.represents;
      trace_is = done.trace_is;
    }
