-- The moves of a reclaim are well made, and leave no slot that names the extent.
use Rattle.std.proofs.Common.{Bool, ◌≡◌, ℕ, ◌+◌, ◌-◌, ◌<◌, ◌≤◌, ◌⊎◌, ◌∙◌, inl, inr, true, false, List, [], ◌∷◌, ◌++◌}
use Rattle.std.proofs.Common.{length}
use Rattle.std.proofs.Common.{Option, Some, None, Ok, refl, sym, ap, arith, subst}
use Rattle.std.specs.Prelude.{◌==◌, ◌||◌, nat_lt, option_map, drop}
use Rattle.std.specs.List.{range_with_len}
use Rattle.std.proofs.lemmas.Bool.{cases_Bool}
use Rattle.std.proofs.lemmas.Bool.Decides.{nat_tests}
use Rattle.std.proofs.lemmas.List.{length-take, length-drop}
use Rattle.patch_model.specs.Member.{In, filter-In}
use Rattle.patch_frame.specs.Slot.{SlotFields}
use Rattle.patch_frame.specs.Frame.{Content, Fits, frame_at, frame_tests, key_length, value_length, value_end}
use Rattle.patch_frame.specs.Frame.{content_of as content_in}
use Rattle.patch_recovery.specs.Change.{Made}
use Rattle.patch_plans.specs.Extents.{offset_at}
use Rattle.patch_history.specs.Choosing.{current_for, has_room, empty_extents, first_of_any, extent_for_move}
use Rattle.patch_history.specs.Planning.{frame_plan, content_of, moves}
use Rattle.patch_history.specs.Shelf.{Shelf, after_plan}
use Rattle.patch_history.proofs.Members.{from_range, some_number, some_plan}
use Rattle.patch_frame.specs.Passing.{passed, read_is}
use Rattle.patch_frame.specs.Field.{outcome}

-- What is read has passed all tests.
all_passed : {X E : Type 0} (tests : List (Bool × E)) (x y : X) → outcome tests x ≡ Ok y
    → ((t : Bool × E) → In tests t → t.0 ≡ false) × (x ≡ y)
all_passed [] x y h = ((λ t i. absurd i), read_is x y h)
all_passed (p ∷ tests) x y h =
    let first = passed p.0 p.1 tests x y h in
    let rest = all_passed tests x y first.1 in (
      (λ t i. elim i [ inl e ↦ ap (λ q. q.0) (sym e) ∙ first.0 | inr j ↦ rest.0 t j ]),
      rest.1,
    )

-- A frame that is read fits.
pub read_fits : (limit : ℕ) (bytes : List ℕ) (c : Content) → frame_at limit bytes ≡ Ok c → Fits limit c
read_fits limit bytes c h =
    let all = all_passed (frame_tests limit bytes) (content_in bytes) c h in
    let key : (key_length bytes == 0 || nat_lt 32 (key_length bytes)) ≡ false = all.0 _ (inr (inr (inl refl))) in
    let value : nat_lt limit (value_length bytes) ≡ false = all.0 _ (inr (inr (inr (inr (inl refl))))) in
    let long : nat_lt (length bytes) (value_end bytes + 4) ≡ false =
    all.0 _ (inr (inr (inr (inr (inr (inl refl)))))) in
    let some_key : 0 < key_length bytes = grind (arith, nat_tests) in
    let short_key : key_length bytes ≤ 32 = grind (arith, nat_tests) in
    let short_value : value_length bytes ≤ limit = grind (arith, nat_tests) in
    let enough : value_end bytes + 4 ≤ length bytes = grind (arith, nat_tests) in
    let dropped = length-drop 12 bytes in
    let cut = length-take (12 + key_length bytes - 12) (drop 12 bytes) in
    let dropped_value = length-drop (12 + key_length bytes) bytes in
    let cut_value = length-take (12 + key_length bytes + value_length bytes - (12 + key_length bytes))
    (drop (12 + key_length bytes) bytes) in
    subst (Fits limit) all.1 (record {
      some_key = omega arith;
      short_key = omega arith;
      short_value = omega arith;
    })

-- Which extent a move takes.

pub current_chosen : (s : Shelf) (len e : ℕ) (o : Option ℕ) → s.current ≡ o → current_for s len ≡ Some e
    → (s.current ≡ Some e) × (has_room s len e ≡ true)
current_chosen s len e None at h = absurd (let g : None ≡ Some e = rw at at h in cc)
current_chosen s len e (Some x) at h = elim (cases_Bool (has_room s len x)) [
  | inl u ↦ (
      let g : Some x ≡ Some e = rw (at, u) at h in
      let same = some_number x e g in (at ∙ g, ap (has_room s len) (sym same) ∙ u))
  | inr u ↦ absurd (let g : None ≡ Some e = rw (at, u) at h in cc)
]

pub first_in : (xs : List ℕ) (x : ℕ) → first_of_any xs ≡ Some x → In xs x
first_in [] x h = absurd (cc)
first_in (y ∷ ys) x h = inl (some_number y x h)

pub record Chosen (s : Shelf) (len e : ℕ) : Type 0 where
  pub known : e < s.extents.geometry.extents ⊎ (s.current ≡ Some e)
  pub which : ((s.current ≡ Some e) × (has_room s len e ≡ true)) ⊎ (offset_at s.extents e ≡ 0)

pub empty_chosen : (s : Shelf) (len e : ℕ) → In (empty_extents s) e → Chosen s len e
empty_chosen s len e h =
    let there = filter-In (λ e. offset_at s.extents e == 0) (range_with_len 0 s.extents.geometry.extents) e h in
    let within = from_range 0 s.extents.geometry.extents e there.0 in
    let test = there.1 in
    record { known = inl (let w = within.1 in omega (arith, w)); which = inr (let z : offset_at s.extents e ≡ 0 = grind (arith, nat_tests) in z) }

pub move_chosen : (s : Shelf) (len e : ℕ) (o : Option ℕ) → current_for s len ≡ o → extent_for_move s len ≡ Some e
    → Chosen s len e
move_chosen s len e None at h = empty_chosen s len e (first_in (empty_extents s) e (rw at at h))
move_chosen s len e (Some x) at h =
    let same : Some x ≡ Some e = rw at at h in
    let chosen = current_chosen s len e s.current refl (at ∙ same) in
    record { known = inr chosen.0; which = inl chosen }

-- what a move is, where the rest of them can be
pub record IsMove (entries : List Content) (s : Shelf) (n : ℕ) (f : ℕ × SlotFields) (fs : List (ℕ × SlotFields)) (plan : List Made) : Type 0 where
  pub extent : ℕ
  pub chosen : extent_for_move s f.1.length ≡ Some extent
  pub others : List Made
  pub go_on : moves entries (after_plan s n (frame_plan s n extent f.0 (content_of entries f.1))) (n + length (frame_plan s n extent f.0 (content_of entries f.1))) fs ≡ Some others
  pub are : plan ≡ frame_plan s n extent f.0 (content_of entries f.1) ++ others

move_on : (entries : List Content) (s : Shelf) (n extent : ℕ) (f : ℕ × SlotFields) (fs : List (ℕ × SlotFields)) (plan : List Made) (o : Option (List Made))
    → extent_for_move s f.1.length ≡ Some extent
    → moves entries (after_plan s n (frame_plan s n extent f.0 (content_of entries f.1))) (n + length (frame_plan s n extent f.0 (content_of entries f.1))) fs ≡ o
    → option_map (λ rest. frame_plan s n extent f.0 (content_of entries f.1) ++ rest) o ≡ Some plan
    → IsMove entries s n f fs plan
move_on entries s n extent f fs plan None at rest h = absurd (let g : None ≡ Some plan = h in cc)
move_on entries s n extent f fs plan (Some others) at rest h =
    record { extent = extent; chosen = at; others = others; go_on = rest; are = some_plan _ _ (sym h) }

pub move_cases : (entries : List Content) (s : Shelf) (n : ℕ) (f : ℕ × SlotFields) (fs : List (ℕ × SlotFields)) (plan : List Made) (o : Option ℕ)
    → extent_for_move s f.1.length ≡ o
    → moves entries s n (f ∷ fs) ≡ Some plan → IsMove entries s n f fs plan
move_cases entries s n f fs plan None at h = absurd (let g : None ≡ Some plan = rw (at, moves) at h in cc)
move_cases entries s n f fs plan (Some extent) at h =
    move_on entries s n extent f fs plan _ at refl (rw (at, moves) at h)
