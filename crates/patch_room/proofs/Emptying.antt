-- An extent stays empty.
use Rattle.std.proofs.Common.{◌≡◌, ◌≢◌, ℕ, zero, suc, ◌+◌, ◌<◌, ◌≤◌, ◌∙◌, inl, inr, Bool, true, false, List, [], ◌∷◌}
use Rattle.std.proofs.Common.{length, Option, Some, None, refl, sym, ap, arith, subst}
use Rattle.std.specs.Prelude.{◌==◌, nat_le, filter, option_map, if◌then◌else◌}
use Rattle.std.specs.List.{range_with_len}
use Rattle.std.proofs.lemmas.Bool.{cases_Bool}
use Rattle.std.proofs.lemmas.Bool.Decides.{nat_tests}
use Rattle.std.proofs.lemmas.List.{length-set}
use Rattle.patch_model.specs.Step.{Step}
use Rattle.patch_model.specs.Member.{In, filter-In}
use Rattle.patch_model.specs.declared.refusals.RefusalKind.TheVariants as kind
use Rattle.patch_model.specs.declared.refusals.Refusal.{Refusal}
use Rattle.patch_model.specs.Refusing.{bare}
use Rattle.patch_frame.specs.Frame.{Content, length_of}
use Rattle.patch_recovery.specs.Change.{Change, Data, Point, Fill, Clear, Widen, Made}
use Rattle.patch_plans.specs.Extents.{generation_at, offset_at, extent_at, pointed}
use Rattle.patch_plans.specs.Planning.{reset_plan}
use Rattle.patch_history.specs.Choosing.{current_for, has_room, empty_extents, extent_for_put, first_of_two, live_frames}
use Rattle.patch_history.specs.Command.{Command, Put, Reclaim, Done, Refused, unless, is_refused}
use Rattle.patch_history.specs.Fitting.{PutFits}
use Rattle.patch_history.specs.History.{History, Call, IsLegalHistory, IsRight, standing_of, with_event}
use Rattle.patch_history.specs.Planning.{moves, emptied, frame_plan}
use Rattle.patch_history.specs.Refusing.{is_in_use, why_not_made, why_not_reclaimed, reply_of}
use Rattle.patch_history.specs.Shelf.{Shelf, left_of, after_change, after_plan}
use Rattle.patch_history.specs.StoreState.{Standing, made_by, plan_for}
use Rattle.patch_room.specs.Laws.{shelf_in, with_reclaim}
use Rattle.patch_room.specs.LawsBelow.{Given}
use Rattle.patch_room.specs.Room.{extent_count, HasEmpty}
use Rattle.patch_room.proofs.Appending.{appended, emptied_one, plan_append}
use Rattle.patch_room.proofs.Doing.{done_shelf}
use Rattle.patch_room.proofs.Moving.{IsEmptyOne, into_empties, from_empties, some_there}

-- No plan changes how many extents there are.

change_counts : (s : Shelf) (n : ℕ) (c : Change) → (length (after_change s n c).extents.each ≡ length s.extents.each)
    × (extent_count (after_change s n c) ≡ extent_count s)
change_counts s n (Data extent offset bytes) = (refl, refl)
change_counts s n (Point extent generation offset) =
    (length-set s.extents.each extent (pointed n generation offset (extent_at s.extents extent)), refl)
change_counts s n (Fill slot fields) = (refl, refl)
change_counts s n (Clear slot) = (refl, refl)
change_counts s n Widen = (refl, refl)

pub plan_counts : (s : Shelf) (n : ℕ) (p : List Made) → (length (after_plan s n p).extents.each ≡ length s.extents.each)
    × (extent_count (after_plan s n p) ≡ extent_count s)
plan_counts s n [] = (refl, refl)
plan_counts s n (m ∷ p) =
    let one = change_counts s n m.change in
    let rest = plan_counts (after_change s n m.change) (n + 1) p in (rest.0 ∙ one.0, rest.1 ∙ one.1)

pub has_one : (s : Shelf) (x : ℕ) → x < extent_count s → offset_at s.extents x ≡ 0 → HasEmpty s
has_one s x known nought none =
    subst (λ xs. In xs x) none (into_empties s x known nought)

-- A reclaim.

not_refused : (o : Option Refusal) → Done ≡ unless o Done → o ≡ None
not_refused None h = refl
not_refused (Some cause) h = absurd (let no : Done ≡ Refused cause = h in cc)

planned : (st : Standing) (no_plan : Refusal) (o : Option (List Made)) → why_not_made st no_plan o ≡ None → (p : List Made) × (o ≡ Some p)
planned st no_plan None h = absurd (let no : Some no_plan ≡ None = h in cc)
planned st no_plan (Some p) h = (p, refl)

-- past a test
past : {X : Type 0} (b : Bool) (x : X) (o : Option X) → (if b then Some x else o) ≡ None → (b ≡ false) × (o ≡ None)
past true x o h = absurd (let no : Some x ≡ None = h in cc)
past false x o h = (refl, h)

answered_done : (st : Standing) (writer : ℕ) (command : Command) (steps : List Step)
    → IsRight st (Call writer command Done steps) → Done ≡ reply_of st writer command
answered_done st writer command steps (inl answered) = answered.0
answered_done st writer command steps (inr given) = absurd (let r : Done ≡ Refused _ = given.reply_is in cc)

emptied_of : (s : Shelf) (n e : ℕ) (o : Option (List Made)) (p : List Made) → option_map (emptied s n e) o ≡ Some p
    → (q : List Made) × (o ≡ Some q) × (p ≡ emptied s n e q)
emptied_of s n e None p h = absurd (let no : None ≡ Some p = h in cc)
emptied_of s n e (Some q) p h = (q, refl, (let g : Some (emptied s n e q) ≡ Some p = h in cc))

-- the moves of a reclaim that was done, and how the shelf stands behind it
pub record IsDone (h : History) (writer e : ℕ) (steps : List Step) : Type 0 where
  pub known : e < extent_count (shelf_in h)
  pub moved : List Made
  pub moved_is : moves (standing_of h).map.entries (shelf_in h) (made_by (standing_of h)) (live_frames (shelf_in h) e) ≡ Some moved
  pub shelf_is : shelf_in (with_reclaim h writer e steps) ≡ after_plan (shelf_in h) (made_by (standing_of h)) (emptied (shelf_in h) (made_by (standing_of h)) e moved)

pub reclaim_done : (h : History) (writer e : ℕ) (steps : List Step)
    → IsRight (standing_of h) (Call writer (Reclaim e) Done steps) → IsDone h writer e steps
reclaim_done h writer e steps right =
    let st = standing_of h in
    let s = st.shelf in
    let n = made_by st in
    let why : why_not_reclaimed st e ≡ None = not_refused (why_not_reclaimed st e) (answered_done st writer (Reclaim e) steps right) in
    let known_test = past (nat_le (extent_count s) e) (bare kind.NoSuchExtent) _ why in
    let begun_test = past (offset_at s.extents e == 0) (bare kind.EmptyExtent) _ known_test.1 in
    let use_test = past (is_in_use s e) (bare kind.OpenExtent) _ begun_test.1 in
    let spent_test = past (generation_at s.extents e == 4294967295) (bare kind.GenerationSpent) _ use_test.1 in
    let plan = planned st (bare kind.NoSpace) (plan_for st (Reclaim e)) spent_test.1 in
    let moved = emptied_of s n e (moves st.map.entries s n (live_frames s e)) plan.0 plan.1 in record {
      known = (let t = known_test.0 in grind (arith, nat_tests));
      moved = moved.0;
      moved_is = moved.1;
      shelf_is = done_shelf h writer (Reclaim e) steps (emptied s n e moved.0) right (plan.1 ∙ ap (λ p. Some p) moved.2);
    }

pub reclaims_empty : (given : Given) (h : History) (writer e : ℕ) (steps : List Step) → IsLegalHistory h
    → IsRight (standing_of h) (Call writer (Reclaim e) Done steps) → HasEmpty (shelf_in (with_reclaim h writer e steps))
reclaims_empty given h writer e steps legal right =
    let done = reclaim_done h writer e steps right in
    let s = shelf_in h in
    let n = made_by (standing_of h) in
    let p = done.moved in
    let t = after_plan s n p in
    let reset = reset_plan s.extents e (left_of t e) in
    let u = after_plan t (n + length p) reset in
    let counts = plan_counts s n p in
    let count = (given.extents h legal).whole.count in
    let known = done.known in
    let same = counts.0 in
    let within : e < length t.extents.each = omega (arith, known, same, count) in
    let behind = emptied_one t (n + length p) e s.extents (left_of t e) within in
    subst HasEmpty (sym (done.shelf_is ∙ plan_append s n p reset))
    (has_one u e (let a = counts.1 in let b = (plan_counts t (n + length p) reset).1 in omega (arith, a, b, known)) behind.there)

-- A put.

low_range : (a n x : ℕ) → In (range_with_len a n) x → a ≤ x
low_range a zero x h = absurd h
low_range a (suc n) x (inl e) = omega (arith, e)
low_range a (suc n) x (inr h) = let r = low_range (a + 1) n x h in omega (arith, r)

-- a member of a range's filter that stands behind its first
second_of : (test : ℕ → Bool) (a n x : ℕ) (ys : List ℕ) → filter test (range_with_len (a + 1) n) ≡ ys
    → first_of_two (a ∷ ys) ≡ Some x → (y : ℕ) × In (a ∷ ys) y × (y ≢ x)
second_of test a n x [] is h = absurd (let no : None ≡ Some x = h in cc)
second_of test a n x (y ∷ ys) is h =
    let first : a ≡ x = (let g : Some a ≡ Some x = h in cc) in
    let there : In (filter test (range_with_len (a + 1) n)) y = subst (λ ys. In ys y) (sym is) (inl refl) in
    let above = low_range (a + 1) n y (filter-In test (range_with_len (a + 1) n) y there).0 in
    (y, inr (inl refl), omega (arith, first, above))

pub second_there : (test : ℕ → Bool) (a n x : ℕ) → first_of_two (filter test (range_with_len a n)) ≡ Some x
    → (y : ℕ) × In (filter test (range_with_len a n)) y × (y ≢ x)
second_there test a zero x h = absurd (let no : None ≡ Some x = h in cc)
second_there test a (suc n) x h = elim (cases_Bool (test a)) [
  | inl t ↦
      let g : first_of_two (a ∷ filter test (range_with_len (a + 1) n)) ≡ Some x = rw t at h in
      rw t (second_of test a n x (filter test (range_with_len (a + 1) n)) refl g)
  | inr t ↦ (let g : first_of_two (filter test (range_with_len (a + 1) n)) ≡ Some x = rw t at h in rw t (second_there test (a + 1) n x g))
]

current_begun : (given : Given) (h : History) → IsLegalHistory h → (c : ℕ) → (shelf_in h).current ≡ Some c → 1 ≤ offset_at (shelf_in h).extents c
current_begun given h legal c at = (given.agree h legal).begun c at

-- an empty extent that a put doesn't take
other_one : (s : Shelf) (len e : ℕ) (o : Option ℕ) → s.current ≡ o → HasEmpty s
    → ((c : ℕ) → s.current ≡ Some c → 1 ≤ offset_at s.extents c) → extent_for_put s len ≡ Some e
    → (x : ℕ) × IsEmptyOne s x × (x ≢ e)
other_one s len e None at has begun h =
    let none : current_for s len ≡ None = rw at refl in
    let g : first_of_two (empty_extents s) ≡ Some e = rw none at h in
    let there = second_there (λ e. offset_at s.extents e == 0) 0 (extent_count s) e g in
    (there.0, from_empties s there.0 there.1, there.2)
other_one s len e (Some c) at has begun h = elim (cases_Bool (has_room s len c)) [
  | inl t ↦
      let some : current_for s len ≡ Some c = rw (at, t) refl in
      let same : c ≡ e = (let g : Some c ≡ Some e = rw some at h in cc) in
      let x = some_there (empty_extents s) has in
      let one = from_empties s x.0 x.1 in
      let nought = one.nought in
      let more = begun c at in
      (x.0, one, (λ eq. let z : offset_at s.extents c ≡ 0 = ap (offset_at s.extents) (same ∙ sym eq) ∙ nought in omega (arith, z, more)))
  | inr t ↦
      let none : current_for s len ≡ None = rw (at, t) refl in
      let g : first_of_two (empty_extents s) ≡ Some e = rw none at h in
      let there = second_there (λ e. offset_at s.extents e == 0) 0 (extent_count s) e g in
      (there.0, from_empties s there.0 there.1, there.2)
]

other_empty : (s : Shelf) (len e : ℕ) → HasEmpty s → ((c : ℕ) → s.current ≡ Some c → 1 ≤ offset_at s.extents c)
    → extent_for_put s len ≡ Some e → (x : ℕ) × IsEmptyOne s x × (x ≢ e)
other_empty s len e has begun h = other_one s len e s.current refl has begun h

pub puts_keep : (given : Given) (h : History) (writer : ℕ) (key value : List ℕ) (steps : List Step) → IsLegalHistory h
    → HasEmpty (shelf_in h) → IsRight (standing_of h) (Call writer (Put key value) Done steps)
    → HasEmpty (shelf_in (with_event h (Call writer (Put key value) Done steps)))
puts_keep given h writer key value steps legal has right =
    let st = standing_of h in
    let s = st.shelf in
    let n = made_by st in
    let c : Content = record { key = key; value = value } in
    let fits : PutFits st c = given.puts h writer c legal (ap is_refused (sym (answered_done st writer (Put key value) steps right))) in
    let e = fits.extent in
    let p = frame_plan s n e fits.slot c in
    let is : shelf_in (with_event h (Call writer (Put key value) Done steps)) ≡ after_plan s n p =
    done_shelf h writer (Put key value) steps p right fits.plan_is in
    let count = (given.extents h legal).whole.count in
    let within : e < length s.extents.each = (let known = fits.place.known in omega (arith, known, count)) in
    let behind = appended s n e fits.slot (length_of c) c within (given.long c) (omega arith) in
    let one = other_empty s (length_of c) e has (current_begun given h legal) fits.extent_is in
    subst HasEmpty (sym is)
    (has_one (after_plan s n p) one.0 (subst (λ g. one.0 < g.extents) (sym behind.alike.geometry) one.1.known)
    (behind.elsewhere one.0 one.2 ∙ one.1.nought))
