-- What is reported of slots, one more at a time.
use Rattle.std.proofs.Common.{◌≡◌, ℕ, zero, suc, ◌+◌, ◌<◌, ◌∙◌, inl, inr, List, [], ◌∷◌, ◌++◌, length, map, take, get_or, refl, sym, ap, arith}
use Rattle.std.specs.Prelude.{Option, Some, None, ◌==◌, nat_le, option_map, slice_get}
use Rattle.std.specs.List.{sum_by}
use Rattle.std.proofs.lemmas.Bool.{cases_Bool}
use Rattle.std.proofs.lemmas.List.{map_more}
use Rattle.std.proofs.lemmas.List.Sums.{sum_by-cons}
use Rattle.patch_frame.specs.Slot.{SlotFields}
use Rattle.patch_history.specs.Choosing.{live_from, placed, in_order}
use Rattle.patch_index.specs.Live.{slots_of, live_behind, AreSaid}
use Rattle.patch_index.specs.Reporting.{of_slot, of_slots, length_told, live_bytes}
use Rattle.patch_index.specs.Said.{said_behind}

pub slots_push : (slots : List (Option SlotFields)) (slot : Option SlotFields) → of_slots (slots ++ slot ∷ []) ≡ of_slots slots ++ of_slots (slot ∷ [])
slots_push [] slot = refl
slots_push (None ∷ slots) slot = slots_push slots slot
slots_push (Some f ∷ slots) slot = ap (λ es. of_slot f ∷ es) (slots_push slots slot)

-- the same of the first slots, by what each of them tells
pub more_slots : {X : Type 0} (f : X → Option SlotFields) (xs : List X) (i : ℕ) (d : X) → i < length xs
    → of_slots (map f (take (i + 1) xs)) ≡ of_slots (map f (take i xs)) ++ of_slots (f (get_or xs i d) ∷ [])
more_slots f xs i d less = ap of_slots (map_more f xs i d less) ∙ slots_push (map f (take i xs)) (f (get_or xs i d))

-- the bytes of the frames of an extent, slot by slot in any order
abbrev pub length_at : List (Option SlotFields) → ℕ → ℕ
length_at slots slot = length_told (get_or slots slot None)

abbrev long : ℕ × SlotFields → ℕ
long f = f.1.length

sum_said : (slots : List (Option SlotFields)) (fs : List (ℕ × SlotFields)) → AreSaid slots fs → sum_by (length_at slots) (slots_of fs) ≡ sum_by long fs
sum_said slots [] said = refl
sum_said slots (f ∷ fs) said =
    let rest = sum_said slots fs said.1 in
    let here : length_at slots f.0 ≡ f.1.length = ap length_told said.0 in
    let a = sum_by-cons (length_at slots) f.0 (slots_of fs) in
    let b = sum_by-cons long f fs in
    omega (arith, rest, here, a, b)

sum_placed : (f : ℕ × SlotFields) (fs : List (ℕ × SlotFields)) → sum_by long (placed f fs) ≡ long f + sum_by long fs
sum_placed f [] = sum_by-cons long f []
sum_placed f (g ∷ gs) = elim (cases_Bool (nat_le f.1.offset g.1.offset)) [
  | inl u ↦ rw u (sum_by-cons long f (g ∷ gs))
  | inr u ↦
      rw u (let rest = sum_placed f gs in
      let a = sum_by-cons long g (placed f gs) in
      let b = sum_by-cons long g gs in
      omega (arith, rest, a, b))
]

sum_in_order : (fs : List (ℕ × SlotFields)) → sum_by long (in_order fs) ≡ sum_by long fs
sum_in_order [] = refl
sum_in_order (f ∷ fs) = sum_placed f (in_order fs) ∙ ap (λ n. long f + n) (sum_in_order fs) ∙ sym (sum_by-cons long f fs)

sum_from : (extent k : ℕ) (slots : List (Option SlotFields)) → sum_by long (live_from extent k slots) ≡ live_bytes slots extent
sum_from extent k [] = refl
sum_from extent k (None ∷ slots) = let rest = sum_from extent (k + 1) slots in omega (arith, rest)
sum_from extent k (Some f ∷ slots) = elim (cases_Bool (f.extent == extent)) [
  | inl u ↦ rw u (sum_by-cons long (k, f) (live_from extent (k + 1) slots) ∙ ap (λ n. f.length + n) (sum_from extent (k + 1) slots))
  | inr u ↦ rw u (let rest = sum_from extent (k + 1) slots in omega (arith, rest))
]

pub live_sum : (slots : List (Option SlotFields)) (extent : ℕ) → sum_by (length_at slots) (live_behind slots extent 0) ≡ live_bytes slots extent
live_sum slots extent =
    sum_said slots (in_order (live_from extent 0 slots)) (said_behind slots extent 0) ∙ sum_in_order (live_from extent 0 slots) ∙ sum_from extent 0 slots

-- what is reported of a used slot stands behind that of the used ones before it
pub at_slot : (slots : List (Option SlotFields)) (i : ℕ) (f : SlotFields) → get_or slots i None ≡ Some f
    → slice_get (of_slots slots) (length (of_slots (take i slots))) ≡ Some (of_slot f)
at_slot [] i f is = absurd (cc)
at_slot (None ∷ slots) zero f is = absurd (cc)
at_slot (Some g ∷ slots) zero f is = ap (option_map of_slot) is
at_slot (None ∷ slots) (suc i) f is = at_slot slots i f is
at_slot (Some g ∷ slots) (suc i) f is = at_slot slots i f is
