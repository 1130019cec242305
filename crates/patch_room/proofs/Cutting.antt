-- First patches of the moves of some frames: all moves of some first ones of these, and behind them patches that change no slot.
use Rattle.std.proofs.Common.{◌≡◌, ℕ, zero, suc, ◌+◌, ◌-◌, ◌<◌, ◌≤◌, ◌∙◌, inl, inr, List, [], ◌∷◌, ◌++◌, length, map, take, drop}
use Rattle.std.proofs.Common.{Some, refl, sym, ap, arith, subst, append_assoc}
use Rattle.std.specs.Prelude.{nat_le, option_map}
use Rattle.std.specs.List.{range_with_len}
use Rattle.std.proofs.Math.Seq.{take-append-add}
use Rattle.std.proofs.lemmas.Bool.{cases_Bool}
use Rattle.std.proofs.lemmas.Bool.Decides.{nat_tests}
use Rattle.std.proofs.lemmas.List.{length-append, take-append-le, take-append-drop}
use Rattle.patch_frame.specs.Frame.{Content, spelling}
use Rattle.patch_frame.specs.Slot.{SlotFields}
use Rattle.patch_recovery.specs.Change.{Change, Data, Point, Fill, Clear, Widen, Made}
use Rattle.patch_plans.specs.Extents.{offset_at}
use Rattle.patch_plans.specs.Planning.{append_plan, touched, part, parts, names_behind}
use Rattle.patch_history.specs.Choosing.{extent_for_move}
use Rattle.patch_history.specs.Planning.{fill_plan, frame_plan, content_of, moves}
use Rattle.patch_history.specs.Shelf.{Shelf, after_change, after_plan}
use Rattle.patch_room.proofs.Keys.{first_move}

-- Patches of extents alone leave the slots.

abbrev pub LeavesSlots : Change → Type 0
LeavesSlots (Data extent offset bytes) = Unit {0}
LeavesSlots (Point extent generation offset) = Unit {0}
LeavesSlots (Fill slot fields) = ⊥
LeavesSlots (Clear slot) = ⊥
LeavesSlots Widen = Unit {0}

abbrev pub AllLeaveSlots : List Made → Type 0
AllLeaveSlots [] = Unit {0}
AllLeaveSlots (m ∷ plan) = LeavesSlots m.change × AllLeaveSlots plan

change_leaves : (s : Shelf) (n : ℕ) (change : Change) → LeavesSlots change → (after_change s n change).slots ≡ s.slots
change_leaves s n (Data extent offset bytes) h = refl
change_leaves s n (Point extent generation offset) h = refl
change_leaves s n (Fill slot fields) h = absurd h
change_leaves s n (Clear slot) h = absurd h
change_leaves s n Widen h = refl

pub plan_leaves : (s : Shelf) (n : ℕ) (p : List Made) → AllLeaveSlots p → (after_plan s n p).slots ≡ s.slots
plan_leaves s n [] h = refl
plan_leaves s n (m ∷ p) h = plan_leaves (after_change s n m.change) (n + 1) p h.1 ∙ change_leaves s n m.change h.0

leave_append : (p q : List Made) → AllLeaveSlots p → AllLeaveSlots q → AllLeaveSlots (p ++ q)
leave_append [] q h k = k
leave_append (m ∷ p) q h k = (h.0, leave_append p q h.1 k)

leave_take : (k : ℕ) (p : List Made) → AllLeaveSlots p → AllLeaveSlots (take k p)
leave_take zero p h = tt
leave_take (suc k) [] h = tt
leave_take (suc k) (m ∷ p) h = (h.0, leave_take k p h.1)

parts_leave : (extent offset : ℕ) (bytes names : List ℕ) (xs : List ℕ)
    → AllLeaveSlots (map (λ k. record { change = part extent offset bytes k; after = names }) xs)
parts_leave extent offset bytes names [] = tt
parts_leave extent offset bytes names (x ∷ xs) = (tt, parts_leave extent offset bytes names xs)

-- so those of a frame do, but for the last
append_leaves : (s : Shelf) (n extent : ℕ) (bytes : List ℕ) → AllLeaveSlots (append_plan s.extents n extent bytes [])
append_leaves s n extent bytes =
    let start = offset_at s.extents extent in
    let names = names_behind s.extents extent [] in
    let count = touched start (length bytes) in
    leave_append (parts extent start bytes names count) _ (parts_leave extent start bytes names (range_with_len 0 count)) (tt, tt)

pub record IsCutMoves (entries : List Content) (s : Shelf) (n : ℕ) (fs : List (ℕ × SlotFields)) (first : List Made) : Type 0 where
  pub frames : ℕ
  pub few : frames ≤ length fs
  pub whole : List Made
  pub whole_is : moves entries s n (take frames fs) ≡ Some whole
  pub others : List Made
  pub are : first ≡ whole ++ others
  pub leave : AllLeaveSlots others

-- within the first frame
cut_within : (entries : List Content) (s : Shelf) (n x k : ℕ) (f : ℕ × SlotFields) (fs : List (ℕ × SlotFields)) (rest : List Made)
    → k < length (frame_plan s n x f.0 (content_of entries f.1))
    → IsCutMoves entries s n (f ∷ fs) (take k (frame_plan s n x f.0 (content_of entries f.1) ++ rest))
cut_within entries s n x k f fs rest less =
    let c = content_of entries f.1 in
    let append = append_plan s.extents n x (spelling c) [] in
    let fill = fill_plan s n x f.0 c in
    let long = length-append append (fill ∷ []) in
    let fewer : k ≤ length append = omega (arith, less, long) in
    record {
      frames = 0;
      few = omega arith;
      whole = [];
      whole_is = refl;
      others = take k append;
      are = take-append-le k (append ++ fill ∷ []) rest (omega (arith, less)) ∙ take-append-le k append (fill ∷ []) fewer;
      leave = leave_take k append (append_leaves s n x (spelling c));
    }

-- behind it
moves_behind : (entries : List Content) (s : Shelf) (n x : ℕ) (f : ℕ × SlotFields) (fs : List (ℕ × SlotFields)) (rest : List Made)
    → extent_for_move s f.1.length ≡ Some x
    → moves entries (after_plan s n (frame_plan s n x f.0 (content_of entries f.1))) (n + length (frame_plan s n x f.0 (content_of entries f.1))) fs ≡ Some rest
    → moves entries s n (f ∷ fs) ≡ Some (frame_plan s n x f.0 (content_of entries f.1) ++ rest)
moves_behind entries s n x f fs rest at is =
    rw (at, moves) (ap (option_map (λ rest. frame_plan s n x f.0 (content_of entries f.1) ++ rest)) is)

pub cut_moves : (entries : List Content) (fs : List (ℕ × SlotFields)) (s : Shelf) (n k : ℕ) (plan : List Made)
    → moves entries s n fs ≡ Some plan → IsCutMoves entries s n fs (take k plan)
cut_moves entries [] s n k plan h =
    let none : plan ≡ [] = (let g : Some [] ≡ Some plan = h in cc) in
    record { frames = 0; few = omega arith; whole = []; whole_is = refl; others = take k plan; are = refl; leave = leave_take k plan (subst AllLeaveSlots (sym none) tt) }
cut_moves entries (f ∷ fs) s n k plan h =
    let move = first_move entries s n f fs plan (extent_for_move s f.1.length) refl h in
    let p = frame_plan s n move.extent f.0 (content_of entries f.1) in
    subst (λ plan. IsCutMoves entries s n (f ∷ fs) (take k plan)) move.are (elim (cases_Bool (nat_le (length p) k)) [
      | inl t ↦
          let low : length p ≤ k = grind (arith, nat_tests) in
          let later = k - length p in
          let at : k ≡ length p + later = omega (arith, low) in
          let rest = cut_moves entries fs (after_plan s n p) (n + length p) later move.rest move.go_on in
          record {
            frames = suc rest.frames;
            few = (let few = rest.few in omega (arith, few));
            whole = p ++ rest.whole;
            whole_is = moves_behind entries s n move.extent f (take rest.frames fs) rest.whole move.chosen rest.whole_is;
            others = rest.others;
            are = ap (λ k. take k (p ++ move.rest)) at ∙ take-append-add p move.rest later ∙ ap (λ q. p ++ q) rest.are
                ∙ sym (append_assoc p rest.whole rest.others);
            leave = rest.leave;
          }
      | inr t ↦ (let less : k < length p = grind (arith, nat_tests) in cut_within entries s n move.extent k f fs move.rest less)
    ])

length_take : {X : Type 0} (k : ℕ) (xs : List X) → length (take k xs) ≤ k
length_take zero xs = omega arith
length_take (suc k) [] = omega arith
length_take (suc k) (x ∷ xs) = let rest = length_take k xs in omega (arith, rest)

-- of so many first ones some first ones
pub first_of_first : {X : Type 0} (j k : ℕ) (xs : List X) → j ≤ length (take k xs) → (j ≤ k) × (take j (take k xs) ≡ take j xs)
first_of_first j k xs few =
    let low = length_take k xs in
    (omega (arith, few, low), sym (take-append-le j (take k xs) (drop k xs) few) ∙ ap (take j) (take-append-drop k xs))
