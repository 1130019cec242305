-- The moves of a reclaim, its reset, and its answers.
use Rattle.std.proofs.Common.{◌≡◌, ◌≢◌, ℕ, zero, suc, ◌+◌, ◌<◌, ◌≤◌, ◌∙◌, inl, inr, List, [], ◌∷◌, ◌++◌, length, map, take, get_or, append_assoc, append-nil, refl, sym, ap, subst, arith}
use Rattle.std.specs.Prelude.{Some, None, Ok, option_map, unwrap_or}
use Rattle.std.proofs.lemmas.List.{length-map, length-take-le, take_all}
use Rattle.patch_model.specs.declared.refusals.RefusalKind.TheVariants as kind
use Rattle.patch_model.specs.declared.refusals.Refusal.{Refusal}
use Rattle.patch_model.specs.Refusing.{bare}
use Rattle.patch_model.specs.Execution.{followed_by}
use Rattle.patch_model.specs.State.{entries_of}
use Rattle.patch_model.specs.Step.{Step}
use Rattle.patch_cache.specs.Meaning.{IsCacheOf}
use Rattle.patch_frame.specs.declared.geometries.Geometry.{Geometry}
use Rattle.patch_frame.specs.Frame.{Content, frame_at, length_of}
use Rattle.patch_frame.specs.Geometry.{value_limit}
use Rattle.patch_frame.specs.Slot.{SlotFields}
use Rattle.patch_recovery.specs.Change.{Made, Point}
use Rattle.patch_model.specs.Renewed.{cached_blocks}
use Rattle.patch_recovery.specs.Ledger.{bytes_at}
use Rattle.patch_recovery.specs.Reading.{ledger_in}
use Rattle.patch_extent.specs.Answers.{cached_bytes}
use Rattle.patch_plans.specs.Extents.{generation_at}
use Rattle.patch_plans.specs.Meaning.{AreExtentsOf}
use Rattle.patch_plans.specs.Planning.{reset_plan}
use Rattle.patch_plans.specs.Writing.{named_plan, written}
use Rattle.patch_history.specs.Choosing.{extent_for_move, live_frames}
use Rattle.patch_history.specs.Command.{Reclaim, Done, Refused, unless, is_refused}
use Rattle.patch_history.specs.Fitting.{NextMoves, shelf_behind, next_behind}
use Rattle.patch_history.specs.Map.{Map}
use Rattle.patch_history.specs.Laws.{HistoriesExtend, StandingsRun}
use Rattle.patch_history.specs.Planning.{frame_plan, content_of, moves, emptied}
use Rattle.patch_history.specs.Refusing.{why_not_reclaimed}
use Rattle.patch_history.specs.Shelf.{Shelf, slot_at, left_of, after_plan}
use Rattle.patch_history.specs.StoreState.{Standing, made_by, creates}
use Rattle.patch_history.specs.Steps.{framed, ShelvesGoOn}
use Rattle.patch_history.specs.Steps as plans
use Rattle.patch_history.specs.History.{History, Event, Call, IsWhole, IsCut, after_event, execution_of, standing_of, ledger_of, with_event}
use Rattle.patch_store.specs.HistoryLaws.{Given}
use Rattle.patch_store.specs.Meaning.{Store, IsStoreOf, HasGained, HasAnswered}
use Rattle.patch_store.specs.Framing.{framing, StandsBehind, IsFramed, IsFramedInPart}
use Rattle.patch_store.specs.Moving.{IsStanding, IsCached, frame_cached, IsMovable, reset_of, IsEmptied, IsReclaiming, HaveMoved, plan_at, IsReclaimedInPart, HasMovedWithin}
use Rattle.patch_store.proofs.Counted.{creates_all, onto_length}
use Rattle.patch_store.proofs.Gaining.{fold_push, run_push, gained, refused, right_caused}
use Rattle.patch_store.proofs.Moves.{named_none, patches_none, IsMove, move_cases, move_made, moves_joined, moves_keep, IsLater, join_stands, widen_stands, whole_few, cut_few, cut_longer}
use Rattle.patch_store.proofs.Outcomes.{merged_none}
use Rattle.patch_store.proofs.Values.{read_stands, bytes_alike}

-- a store that represents a history stands as that does
stands_so : Given → (h : History) (s : Store) → IsStoreOf s h → IsStanding (standing_of h) s
stands_so given h s was = record {
  setting_is = record {
    cache_is = subst (IsCacheOf s.cache) (sym (given.runs h)) was.cache_is;
    represents = subst (AreExtentsOf s.shelf.extents) (sym (given.runs h))
        (subst (λ (x : Shelf). AreExtentsOf x.extents (execution_of h)) (sym was.shelf_is) (given.extents h was.legal));
  };
  groups_are = was.groups_are;
  shelf_is = was.shelf_is;
  counted = ap (λ run. length (entries_of run)) (given.runs h) ∙ sym (given.agree h was.legal).made;
}

-- A frame that a slot names can move.

-- the bytes of a used slot's frame are cached
frame_there : Given → (h : History) (s : Store) → IsStoreOf s h → (slot : ℕ) (f : SlotFields) → slot_at (standing_of h).shelf slot ≡ Some f
    → IsCached s.shelf.extents.geometry (standing_of h).run f (content_of (standing_of h).map.entries f)
frame_there given h s was slot f used =
    let l = ledger_of h in
    let run = execution_of h in
    let g : Geometry = s.shelf.extents.geometry in
    let there = given.frames h slot f was.legal used in
    let named = there.named in
    let opens = given.read h was.legal in
    let high = opens.sound.pointers f.extent named.extent in
    let below = named.before_pointer in
    let divided : l.geometry ≡ g = sym (ap (λ (x : Shelf). x.extents.geometry) was.shelf_is ∙ (given.kept h).geometry) in
    let bytes : cached_bytes l.geometry run f.extent f.offset f.length ≡ bytes_at l f.extent f.offset f.length =
    sym (ap (λ k. bytes_at k f.extent f.offset f.length)
    (read_stands (cached_blocks run) opens.l opens.read ∙ ap (λ d. ledger_in d (cached_blocks run)) opens.same.geometry))
    ∙ bytes_alike opens.l l opens.same f.extent f.offset f.length named.extent (omega (arith, high, below)) in
    record {
      frame = ap (λ r. frame_cached g r f) (given.runs h) ∙ ap (λ d. frame_cached d run f) (sym divided)
          ∙ ap (frame_at (value_limit l.geometry.format)) bytes ∙ named.frame ∙ ap (λ c. Ok c) there.content;
      key = refl;
      length = ap length_of (sym there.content) ∙ named.length;
    }

-- The plan of a reclaim.

plan_is : (h : History) (extent : ℕ) (all : List Made)
    → moves (standing_of h).map.entries (standing_of h).shelf (made_by (standing_of h)) (live_frames (standing_of h).shelf extent) ≡ Some all
    → plan_at h extent ≡ all ++ reset_plan (standing_of h).shelf.extents extent (left_of (after_plan (standing_of h).shelf (made_by (standing_of h)) all) extent)
plan_is h extent all is =
    let st = standing_of h in
    let n = made_by st in
    ap (λ p. named_plan st.groups None n (unwrap_or (option_map (emptied st.shelf n extent) p) [])) is
    ∙ named_none st.groups n (emptied st.shelf n extent all)

-- what stays to be made behind some moves
record StillMakes (h : History) (extent : ℕ) (moved : List Made) : Type 0 where
  pub rest : List Made
  pub some : rest ≢ []
  pub plan : plan_at h extent ≡ moved ++ rest

never_none : (p : List Made) (m : Made) → p ++ m ∷ [] ≢ []
never_none [] m is = let g : m ∷ [] ≡ [] = is in cc
never_none (x ∷ p) m is = let g : x ∷ (p ++ m ∷ []) ≡ [] = is in cc

behind_so : ShelvesGoOn → (st later : Standing) (p : List Made) (steps : List Step) → IsLater st p steps later → plans.StandsBehind st p later
behind_so go st later p steps is = record { extents = ap (λ (s : Shelf). s.extents) is.shelf_is ∙ go st.shelf (made_by st) p; made = is.made_is }

-- a reclaim that is given up
given_up_so : HistoriesExtend → StandingsRun → (h : History) (writer extent : ℕ) (old new : Store) → IsStoreOf old h → why_not_reclaimed (standing_of h) extent ≡ None
    → (part : IsReclaimedInPart h extent old new) → HasGained h (Call writer (Reclaim extent) (Refused (bare kind.OutOfMemory)) part.steps) old new
given_up_so extends runs h writer extent old new was none part =
    gained extends h (Call writer (Reclaim extent) (Refused (bare kind.OutOfMemory)) part.steps) old new was
    (inr (record { takes = refl; no_cause = ap (λ cause. is_refused (unless cause Done)) none; reply_is = refl; cut = part.cut }))
    (subst (λ run. IsCacheOf new.cache (followed_by run part.steps)) (runs h) part.stands.cache_is) part.stands.groups_are part.stands.shelf_is part.stands.trace_is
    part.stands.merged

-- the frames before a place, the one there, and those behind it
record IsSplit (xs : List (ℕ × SlotFields)) (k d : ℕ) : Type 0 where
  pub item : ℕ × SlotFields
  pub rest : List (ℕ × SlotFields)
  pub parts : xs ≡ take k xs ++ item ∷ rest
  pub more : take (k + 1) xs ≡ take k xs ++ item ∷ []
  pub slot : get_or (map (λ (f : ℕ × SlotFields). f.0) xs) k d ≡ item.0

split_at : (xs : List (ℕ × SlotFields)) (k d : ℕ) → k < length xs → IsSplit xs k d
split_at [] k d less = absurd (omega (arith, less))
split_at (x ∷ xs) zero d less = record { item = x; rest = xs; parts = refl; more = refl; slot = refl }
split_at (x ∷ xs) (suc k) d less =
    let s = split_at xs k d (omega (arith, less)) in
    record {
      item = s.item;
      rest = s.rest;
      parts = ap (λ ys. x ∷ ys) s.parts;
      more = ap (λ i. take i (x ∷ xs)) (let e : suc k + 1 ≡ suc (k + 1) = omega arith in e) ∙ ap (λ ys. x ∷ ys) s.more;
      slot = s.slot;
    }

-- a reset to the generation behind this one
abbrev reset_at : (extent generation : ℕ) (after : List ℕ) → List Made
reset_at extent generation after = record { change = Point extent (generation + 1) 0; after = after } ∷ []

-- it leaves the slots
reset_slots : (s : Shelf) (n extent generation k : ℕ) (after : List ℕ) → (after_plan s n (take k (reset_at extent generation after))).slots ≡ s.slots
reset_slots s n extent generation zero after = refl
reset_slots s n extent generation (suc zero) after = refl
reset_slots s n extent generation (suc (suc k)) after = refl

-- Where some frames of an extent have moved, the store represents a history, in which the reclaim is given up there.

module _ (given : Given) (h : History) (extent : ℕ) (slots : List ℕ) (old : Store) (is : IsReclaiming h extent slots old) where
  abbrev st : Standing
  st = standing_of h

  -- the answer of one that is given up
  pub stopped_so : (writer : ℕ) (new : Store) → IsReclaimedInPart h extent old new → HasAnswered h writer (Reclaim extent) (Refused (bare kind.OutOfMemory)) old new
  stopped_so writer new some = record {
    steps = some.steps;
    gained = given_up_so given.extends given.runs h writer extent old new is.represents is.no_cause some;
  }

  module _ (before : List (ℕ × SlotFields)) (mid : Store) (m : HaveMoved h before old mid) (more : StillMakes h extent m.moved) where
    abbrev part : IsReclaimedInPart h extent old mid
    part = record {
      steps = m.steps;
      cut = subst (λ p. IsCut st p m.steps) (sym more.plan) (given.stopped st m.moved more.rest m.steps more.some m.whole);
      stands = subst (λ p. StandsBehind st None p m.steps old mid) (sym more.plan)
          (widen_stands st m.moved more.rest m.steps old mid (whole_few st m.moved m.steps m.whole) m.stands);
    }

    abbrev so_far : History
    so_far = with_event h (Call 0 (Reclaim extent) (Refused (bare kind.OutOfMemory)) m.steps)

    stands : IsStoreOf mid so_far
    stands = (given_up_so given.extends given.runs h 0 extent old mid is.represents is.no_cause part).represents

    later : IsLater st m.moved m.steps (standing_of so_far)
    later =
        let event : Event = Call 0 (Reclaim extent) (Refused (bare kind.OutOfMemory)) m.steps in
        let count = creates_all st m.moved m.steps m.whole in
        let few = cut_few st (plan_at h extent) m.steps part.cut in
        let taken = length-take-le (creates m.steps) (plan_at h extent) few in
        let after : standing_of so_far ≡ after_event st event = fold_push _ h.events event in
        let long = onto_length (take (creates m.steps) (plan_at h extent)) st.made in
        record {
          run_is = given.runs so_far ∙ run_push h event ∙ ap (λ run. followed_by run m.steps) (sym (given.runs h));
          groups_are = sym stands.groups_are ∙ m.stands.groups_are ∙ patches_none st.groups (made_by st) (creates m.steps);
          shelf_is = sym stands.shelf_is ∙ m.stands.shelf_is
              ∙ ap (after_plan st.shelf (made_by st)) (take_all (creates m.steps) m.moved (omega (arith, count)));
          made_is = ap (λ (s : Standing). made_by s) after ∙ long
              ∙ (let e : length st.made + length (take (creates m.steps) (plan_at h extent)) ≡ made_by st + length m.moved = omega (arith, taken, count) in e);
          map_is = ap (λ (s : Standing). s.map) after;
        }

  -- The next frame.

  abbrev next_of : (before : List (ℕ × SlotFields)) (f : ℕ × SlotFields) (rest : List (ℕ × SlotFields)) (mid : Store) (m : HaveMoved h before old mid)
      → live_frames st.shelf extent ≡ before ++ f ∷ rest → NextMoves h m.moved f rest
  next_of before f rest mid m live =
      given.goes h 0 extent before f rest m.moved is.represents.legal (ap (λ cause. is_refused (unless cause Done)) is.no_cause) live m.moved_is

  module _ (before : List (ℕ × SlotFields)) (f : ℕ × SlotFields) (rest : List (ℕ × SlotFields)) (mid : Store) (m : HaveMoved h before old mid)
      (live : live_frames st.shelf extent ≡ before ++ f ∷ rest) where
    abbrev next : NextMoves h m.moved f rest
    next = next_of before f rest mid m live

    abbrev c : Content
    c = content_of st.map.entries f.1

    move : IsMove st.map.entries (shelf_behind h m.moved) (next_behind h m.moved) f rest next.plan
    move = move_cases st.map.entries (shelf_behind h m.moved) (next_behind h m.moved) f rest next.plan
        (extent_for_move (shelf_behind h m.moved) f.1.length) refl next.plan_is

    abbrev one : List Made
    one = frame_plan (shelf_behind h m.moved) (next_behind h m.moved) move.extent f.0 c

    abbrev reset : List Made
    reset = reset_plan st.shelf.extents extent (left_of (after_plan st.shelf (made_by st) (m.moved ++ next.plan)) extent)

    whole_plan : plan_at h extent ≡ m.moved ++ (next.plan ++ reset)
    whole_plan =
        plan_is h extent (m.moved ++ next.plan) (ap (moves st.map.entries st.shelf (made_by st)) live
        ∙ moves_joined st.map.entries before (f ∷ rest) st.shelf (made_by st) m.moved next.plan m.moved_is next.plan_is)
        ∙ append_assoc m.moved next.plan reset

    abbrev more : StillMakes h extent m.moved
    more = record { rest = next.plan ++ reset; some = never_none next.plan _; plan = whole_plan }

    -- nothing more was made
    pub stopped_before : IsReclaimedInPart h extent old mid
    stopped_before = part before mid m more

    abbrev now : Standing
    now = standing_of (so_far before mid m more)

    used_now : slot_at now.shelf f.0 ≡ Some f.1
    used_now = ap (λ s. slot_at s f.0) (later before mid m more).shelf_is ∙ next.used

    movable : IsMovable now f.0 move.extent c mid
    movable = record {
      standing = stands_so given (so_far before mid m more) mid (stands before mid m more);
      fields = f.1;
      used = used_now;
      extent_is = ap (λ s. extent_for_move s f.1.length) (later before mid m more).shelf_is ∙ move.chosen;
      cached = subst (λ (x : Map). IsCached mid.shelf.extents.geometry now.run f.1 (content_of x.entries f.1)) (later before mid m more).map_is
          (frame_there given (so_far before mid m more) mid (stands before mid m more) f.0 f.1 used_now);
    }

    same_plan : framed (framing now None f.0 move.extent c) ≡ one
    same_plan =
        named_none now.groups (made_by now) (frame_plan now.shelf (made_by now) move.extent f.0 c)
        ∙ ap (λ s. frame_plan s (made_by now) move.extent f.0 c) (later before mid m more).shelf_is
        ∙ ap (λ k. frame_plan (shelf_behind h m.moved) k move.extent f.0 c) (later before mid m more).made_is

    joined : (steps : List Step) (new : Store) → StandsBehind now None (framed (framing now None f.0 move.extent c)) steps mid new
        → StandsBehind st None (m.moved ++ one) (m.steps ++ steps) old new
    joined steps new a =
        join_stands given.shelves st now m.moved one m.steps steps old mid new (later before mid m more) (creates_all st m.moved m.steps m.whole) m.stands
        (subst (λ p. StandsBehind now None p steps mid new) same_plan a)

    -- these are the moves up to it
    moves_with_it : moves st.map.entries st.shelf (made_by st) (before ++ f ∷ []) ≡ Some (m.moved ++ one)
    moves_with_it =
        moves_joined st.map.entries before (f ∷ []) st.shelf (made_by st) m.moved one m.moved_is
        (move_made st.map.entries (shelf_behind h m.moved) (next_behind h m.moved) move.extent f [] [] move.chosen refl ∙ ap (λ p. Some p) (append-nil one))

    -- it has moved too
    pub one_moved : (new : Store)
        → ((at : Standing) (e : ℕ) (d : Content) → IsMovable at f.0 e d mid → IsFramed (framing at None f.0 e d) mid new)
        → HaveMoved h (before ++ f ∷ []) old new
    one_moved new moves_so =
        let framed_is = moves_so now move.extent c movable in
        let behind = behind_so given.shelves st now m.moved m.steps (later before mid m more) in
        record {
          moved = m.moved ++ one;
          moved_is = moves_with_it;
          steps = m.steps ++ framed_is.steps;
          whole = given.joins st now m.moved one m.steps framed_is.steps behind m.whole (subst (λ p. IsWhole now p framed_is.steps) same_plan framed_is.whole);
          stands = joined framed_is.steps new framed_is.stands;
        }

    -- or memory ran out
    pub one_stopped : (new : Store)
        → ((at : Standing) (e : ℕ) (d : Content) → IsMovable at f.0 e d mid → IsFramedInPart (framing at None f.0 e d) mid new)
        → IsReclaimedInPart h extent old new
    one_stopped new moves_so =
        let begun = moves_so now move.extent c movable in
        let behind = behind_so given.shelves st now m.moved m.steps (later before mid m more) in
        let others : List Made = move.others ++ reset in
        let plan : plan_at h extent ≡ (m.moved ++ one) ++ others =
        whole_plan ∙ ap (λ p. m.moved ++ (p ++ reset)) move.are ∙ ap (λ p. m.moved ++ p) (append_assoc one move.others reset)
        ∙ sym (append_assoc m.moved one others) in
        let cut = given.cuts st now m.moved one m.steps begun.steps behind m.whole (subst (λ p. IsCut now p begun.steps) same_plan begun.cut) in
        record {
          steps = m.steps ++ begun.steps;
          cut = subst (λ p. IsCut st p (m.steps ++ begun.steps)) (sym plan) (cut_longer given.joins st (m.moved ++ one) others (m.steps ++ begun.steps) cut);
          stands = subst (λ p. StandsBehind st None p (m.steps ++ begun.steps) old new) (sym plan)
              (widen_stands st (m.moved ++ one) others (m.steps ++ begun.steps) old new (cut_few st (m.moved ++ one) (m.steps ++ begun.steps) cut)
              (joined begun.steps new begun.stands));
        }

    -- and stopped within the moves up to it
    pub one_within : (most frames : ℕ) → frames ≤ most → take frames (live_frames st.shelf extent) ≡ before ++ f ∷ [] → (new : Store)
        → ((at : Standing) (e : ℕ) (d : Content) → IsMovable at f.0 e d mid → IsFramedInPart (framing at None f.0 e d) mid new)
        → HasMovedWithin h extent most new
    one_within most frames few taken new moves_so =
        let begun = moves_so now move.extent c movable in
        record {
          frames = frames;
          few = few;
          moved = m.moved ++ one;
          moved_is = ap (moves st.map.entries st.shelf (made_by st)) taken ∙ moves_with_it;
          count = creates (m.steps ++ begun.steps);
          shelf_is = (joined begun.steps new begun.stands).shelf_is;
        }

  -- The frame of the slot at a place.

  module _ (k slot : ℕ) (within : k < length slots) (at_place : get_or slots k slot ≡ slot) (mid : Store)
      (m : HaveMoved h (take k (live_frames st.shelf extent)) old mid) where
    abbrev live_all : List (ℕ × SlotFields)
    live_all = live_frames st.shelf extent

    split : IsSplit live_all k slot
    split =
        let long = ap length is.slots_are ∙ length-map live_all (λ (f : ℕ × SlotFields). f.0) in
        split_at live_all k slot (omega (arith, within, long))

    same_slot : slot ≡ split.item.0
    same_slot = sym at_place ∙ ap (λ xs. get_or xs k slot) is.slots_are ∙ split.slot

    pub slot_moved : (new : Store)
        → ((at : Standing) (e : ℕ) (d : Content) → IsMovable at slot e d mid → IsFramed (framing at None slot e d) mid new)
        → HaveMoved h (take (k + 1) live_all) old new
    slot_moved new moves_so =
        subst (λ fs. HaveMoved h fs old new) (sym split.more)
        (one_moved (take k live_all) split.item split.rest mid m split.parts new
        (subst (λ x. (at : Standing) (e : ℕ) (d : Content) → IsMovable at x e d mid → IsFramed (framing at None x e d) mid new) same_slot moves_so))

    pub slot_stopped : (most : ℕ) → k < most → (new : Store)
        → ((at : Standing) (e : ℕ) (d : Content) → IsMovable at slot e d mid → IsFramedInPart (framing at None slot e d) mid new)
        → IsReclaimedInPart h extent old new × HasMovedWithin h extent most new
    slot_stopped most fewer new moves_so =
        let so = subst (λ x. (at : Standing) (e : ℕ) (d : Content) → IsMovable at x e d mid → IsFramedInPart (framing at None x e d) mid new) same_slot moves_so in (
          one_stopped (take k live_all) split.item split.rest mid m split.parts new so,
          one_within (take k live_all) split.item split.rest mid m split.parts most (k + 1) (omega (arith, fewer)) split.more new so,
        )

  -- Some first ones.

  -- and no others
  pub moved_within : (k most : ℕ) (mid : Store) → k ≤ most → HaveMoved h (take k (live_frames st.shelf extent)) old mid → HasMovedWithin h extent most mid
  moved_within k most mid few m =
      record { frames = k; few = few; moved = m.moved; moved_is = m.moved_is; count = creates m.steps; shelf_is = m.stands.shelf_is }

  -- where others are left the reclaim is given up there
  pub some_moved : (k : ℕ) (mid : Store) → k < length slots → HaveMoved h (take k (live_frames st.shelf extent)) old mid → IsReclaimedInPart h extent old mid
  some_moved k mid less m =
      let live : List (ℕ × SlotFields) = live_frames st.shelf extent in
      let long = ap length is.slots_are ∙ length-map live (λ (f : ℕ × SlotFields). f.0) in
      let split = split_at live k 0 (omega (arith, less, long)) in
      stopped_before (take k live) split.item split.rest mid m split.parts

  -- All of them.

  -- they are as many as the slots
  pub all_moved : (k : ℕ) (mid : Store) → length slots ≤ k → HaveMoved h (take k (live_frames st.shelf extent)) old mid
      → HaveMoved h (live_frames st.shelf extent) old mid
  all_moved k mid end m =
      let long = ap length is.slots_are ∙ length-map (live_frames st.shelf extent) (λ (f : ℕ × SlotFields). f.0) in
      subst (λ fs. HaveMoved h fs old mid) (take_all k (live_frames st.shelf extent) (omega (arith, long, end))) m

  -- none yet
  pub none_moved : HaveMoved h [] old old
  none_moved = record {
    moved = [];
    moved_is = refl;
    steps = [];
    whole = ([], refl);
    stands = record {
      cache_is = subst (IsCacheOf old.cache) (sym (given.runs h) ∙ ap (λ xs. record st.run { steps = xs }) (sym (append-nil st.run.steps)))
          is.represents.cache_is;
      trace_is = sym (append-nil old.cache.trace);
      groups_are = is.represents.groups_are;
      shelf_is = is.represents.shelf_is;
      merged = merged_none st.run (written st.shelf.extents (made_by st) []) old.left_out old.left_out refl;
    };
  }

  module _ (mid : Store) (m : HaveMoved h (live_frames st.shelf extent) old mid) where
    abbrev last_reset : List Made
    last_reset = reset_plan st.shelf.extents extent (left_of (after_plan st.shelf (made_by st) m.moved) extent)

    abbrev at_last : StillMakes h extent m.moved
    at_last = record { rest = last_reset; some = never_none [] _; plan = plan_is h extent m.moved m.moved_is }

    -- before the reset
    stopped_last : IsReclaimedInPart h extent old mid
    stopped_last = part (live_frames st.shelf extent) mid m at_last

    abbrev moved_now : Standing
    moved_now = standing_of (so_far (live_frames st.shelf extent) mid m at_last)

    same_reset : reset_of moved_now.shelf extent ≡ last_reset
    same_reset =
        ap (λ s. reset_of s extent) (later (live_frames st.shelf extent) mid m at_last).shelf_is
        ∙ ap (λ g. reset_at extent g (left_of (after_plan st.shelf (made_by st) m.moved) extent))
        (moves_keep st.map.entries (live_frames st.shelf extent) st.shelf (made_by st) m.moved m.moved_is extent)

    -- and behind it
    pub reclaimed_so : (writer : ℕ) (new : Store) → ((at : Standing) → IsStanding at mid → IsEmptied at extent mid new)
        → HasAnswered h writer (Reclaim extent) Done old new
    reclaimed_so writer new empties =
        let later_is = later (live_frames st.shelf extent) mid m at_last in
        let e = empties moved_now (stands_so given (so_far (live_frames st.shelf extent) mid m at_last) mid (stands (live_frames st.shelf extent) mid m at_last)) in
        let whole = given.joins st moved_now m.moved last_reset m.steps e.steps (behind_so given.shelves st moved_now m.moved m.steps later_is) m.whole
        (subst (λ p. IsWhole moved_now p e.steps) same_reset e.whole) in
        let all = join_stands given.shelves st moved_now m.moved last_reset m.steps e.steps old mid new later_is (creates_all st m.moved m.steps m.whole) m.stands
        (subst (λ p. StandsBehind moved_now None p e.steps mid new) same_reset e.stands) in
        let stands_all = subst (λ p. StandsBehind st None p (m.steps ++ e.steps) old new) (sym at_last.plan) all in
        record {
          steps = m.steps ++ e.steps;
          gained = gained given.extends h (Call writer (Reclaim extent) Done (m.steps ++ e.steps)) old new is.represents
              (inl (sym (ap (λ cause. unless cause Done) is.no_cause), subst (λ p. IsWhole st p (m.steps ++ e.steps)) (sym at_last.plan) whole))
              (subst (λ run. IsCacheOf new.cache (followed_by run (m.steps ++ e.steps))) (given.runs h) stands_all.cache_is)
              stands_all.groups_are stands_all.shelf_is stands_all.trace_is stands_all.merged;
        }

    -- the slots stay as they are
    pub slots_kept : (new : Store) → ((at : Standing) → IsStanding at mid → IsEmptied at extent mid new) → new.shelf.slots ≡ mid.shelf.slots
    slots_kept new empties =
        let at = stands_so given (so_far (live_frames st.shelf extent) mid m at_last) mid (stands (live_frames st.shelf extent) mid m at_last) in
        let e = empties moved_now at in
        let s : Shelf = moved_now.shelf in
        ap (λ (x : Shelf). x.slots) e.stands.shelf_is
        ∙ reset_slots s (made_by moved_now) extent (generation_at s.extents extent) (creates e.steps) (left_of s extent)
        ∙ ap (λ (x : Shelf). x.slots) (sym at.shelf_is)

    -- or without it
    pub not_emptied_so : (writer : ℕ) (new : Store) → new ≡ mid → HasAnswered h writer (Reclaim extent) (Refused (bare kind.OutOfMemory)) old new
    not_emptied_so writer new same = stopped_so writer new (subst (IsReclaimedInPart h extent old) (sym same) stopped_last)

-- one that is refused for a cause
pub refused_reclaim : HistoriesExtend → (h : History) (writer extent : ℕ) (cause : Refusal) (old : Store) → IsStoreOf old h
    → why_not_reclaimed (standing_of h) extent ≡ Some cause → HasAnswered h writer (Reclaim extent) (Refused cause) old old
refused_reclaim extends h writer extent cause old was is =
    refused extends h writer (Reclaim extent) cause old old was
    (right_caused (standing_of h) writer (Reclaim extent) (why_not_reclaimed (standing_of h) extent) cause Done refl is) refl

-- Within the moves of so many frames.

-- of a greater number
pub more_within : (h : History) (extent few most : ℕ) (new : Store) → few ≤ most → HasMovedWithin h extent few new → HasMovedWithin h extent most new
more_within h extent few most new less is =
    let low = is.few in
    record { frames = is.frames; few = omega (arith, less, low); moved = is.moved; moved_is = is.moved_is; count = is.count; shelf_is = is.shelf_is }

-- nothing moved
pub none_within : (h : History) (extent most : ℕ) (s : Store) → IsStoreOf s h → HasMovedWithin h extent most s
none_within h extent most s is =
    record { frames = 0; few = omega arith; moved = []; moved_is = refl; count = 0; shelf_is = is.shelf_is }
