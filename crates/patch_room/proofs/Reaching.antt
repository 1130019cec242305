-- A put that found no extent once is judged by its room alone behind a reclaim.
use Rattle.std.proofs.Common.{◌≡◌, ◌≢◌, ℕ, ◌≤◌, arith, ◌∙◌, inl, inr, true, false, List, length, Option, Some, None, refl, sym, ap, subst}
use Rattle.std.proofs.lemmas.Bool.Decides.{nat_tests}
use Rattle.patch_frame.specs.declared.framing.TheConstants.{MAX_KEY}
use Rattle.std.specs.Prelude.{◌==◌, ◌||◌, nat_lt, is_none}
use Rattle.patch_model.specs.Step.{Step}
use Rattle.patch_model.specs.declared.refusals.RefusalKind.TheVariants as kind
use Rattle.patch_model.specs.declared.refusals.Refusal.{Refusal}
use Rattle.patch_model.specs.Refusing.{bare}
use Rattle.patch_frame.specs.Frame.{Content}
use Rattle.patch_frame.specs.Geometry.{value_limit}
use Rattle.patch_history.specs.Choosing.{slot_for}
use Rattle.patch_history.specs.Command.{Put, Reclaim, Done, Refused}
use Rattle.patch_history.specs.History.{History, Call, IsRight, standing_of}
use Rattle.patch_history.specs.Planning.{emptied}
use Rattle.patch_history.specs.Refusing.{why_no_key, why_not_put, reply_of}
use Rattle.patch_history.specs.Shelf.{after_plan}
use Rattle.patch_history.specs.StoreState.{Standing, made_by, plan_for}
use Rattle.patch_room.specs.Laws.{shelf_in, with_reclaim}
use Rattle.patch_room.specs.Putting.{MayBePut}
use Rattle.patch_room.proofs.Doing.{standing_event}
use Rattle.patch_room.proofs.Emptying.{reclaim_done}
use Rattle.patch_room.proofs.Keys.{reclaim_keeps, slots_alike}
use Rattle.patch_room.proofs.Refused.{IsWantOfRoom, refused_for, judged, keyed, made_for, not_value, not_index}

unkeyed : (key : List ℕ) → (length key == 0 || nat_lt MAX_KEY (length key)) ≡ false → why_no_key key ≡ None
unkeyed key t = rw t refl

some_slot : (o : Option ℕ) → is_none o ≡ false → o ≢ None
some_slot None t = absurd (let no : true ≡ false = t in cc)
some_slot (Some x) t = λ none. let no : Some x ≡ None = none in cc

is_some_slot : (o : Option ℕ) → o ≢ None → is_none o ≡ false
is_some_slot None ne = absurd (ne refl)
is_some_slot (Some x) ne = refl

pub reaches : (st : Standing) (writer : ℕ) (c : Content) → Refused (bare kind.NoSpace) ≡ reply_of st writer (Put c.key c.value)
    → MayBePut st c
reaches st writer c is =
    let why : why_not_put st c.key c.value ≡ Some (bare kind.NoSpace) = refused_for (why_not_put st c.key c.value) (bare kind.NoSpace) is in
    let key_test = keyed c.key _ why in
    let value_test = judged (nat_lt (value_limit st.map.format) (length c.value)) (bare kind.ValueLength) (bare kind.NoSpace) _ not_value key_test.1 in
    let slot_test = judged (is_none (slot_for st.shelf c.key)) (bare kind.IndexFull) (bare kind.NoSpace) _ not_index value_test.1 in
    let test = value_test.0 in record {
      key = unkeyed c.key key_test.0;
      value = (let short : length c.value ≤ value_limit st.map.format = grind (arith, nat_tests) in short);
      slot = some_slot (slot_for st.shelf c.key) slot_test.0;
    }

pub reaches_behind : (h : History) (writer e : ℕ) (c : Content) (steps : List Step)
    → IsRight (standing_of h) (Call writer (Reclaim e) Done steps) → MayBePut (standing_of h) c
    → MayBePut (standing_of (with_reclaim h writer e steps)) c
reaches_behind h writer e c steps right reached =
    let done = reclaim_done h writer e steps right in
    let n = made_by (standing_of h) in
    let kept = reclaim_keeps (standing_of h).map.entries (shelf_in h) n e done.moved done.moved_is in
    let map_is = ap (λ (st : Standing). st.map) (standing_event h (Call writer (Reclaim e) Done steps)) in record {
      key = reached.key;
      value = subst (λ m. length c.value ≤ value_limit m.format) (sym map_is) reached.value;
      slot = some_slot (slot_for (shelf_in (with_reclaim h writer e steps)) c.key)
          (ap (λ s. is_none (slot_for s c.key)) done.shelf_is
          ∙ slots_alike (shelf_in h) (after_plan (shelf_in h) n (emptied (shelf_in h) n e done.moved)) c.key kept
          ∙ is_some_slot (slot_for (shelf_in h) c.key) reached.slot);
    }

pub put_wants : (st : Standing) (writer : ℕ) (c : Content) (cause : Refusal) (steps : List Step) → MayBePut st c
    → IsRight st (Call writer (Put c.key c.value) (Refused cause) steps) → IsWantOfRoom cause
put_wants st writer c cause steps reached (inl answered) =
    let why : why_not_put st c.key c.value ≡ Some cause = refused_for (why_not_put st c.key c.value) cause answered.0 in
    let short = reached.value in
    let test : nat_lt (value_limit st.map.format) (length c.value) ≡ false = grind (arith, nat_tests) in
    made_for st (plan_for st (Put c.key c.value)) cause
    (rw (reached.key, test, is_some_slot (slot_for st.shelf c.key) reached.slot) at why)
put_wants st writer c cause steps reached (inr up) =
    inr (inr (inr (let g : Refused cause ≡ Refused (bare kind.OutOfMemory) = up.reply_is in cc)))
