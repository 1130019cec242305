-- The live frames of an extent: their bytes, and what is true of each.
use Rattle.std.proofs.Common.{◌≡◌, ℕ, suc, ◌+◌, ◌∙◌, inl, inr, List, [], ◌∷◌, Option, Some, None, refl, ap, arith, subst}
use Rattle.std.specs.Prelude.{◌==◌, nat_le, slice_index_or}
use Rattle.std.proofs.lemmas.Bool.{cases_Bool}
use Rattle.patch_frame.specs.Slot.{SlotFields}
use Rattle.patch_history.specs.Choosing.{live_from, placed, in_order, live_frames}
use Rattle.patch_history.specs.Shelf.{Shelf, slot_at}
use Rattle.patch_index.specs.Reporting.{live_bytes}
use Rattle.patch_room.specs.Room.{bytes_of, live_in}

bytes_placed : (f : ℕ × SlotFields) (fs : List (ℕ × SlotFields)) → bytes_of (placed f fs) ≡ f.1.length + bytes_of fs
bytes_placed f [] = refl
bytes_placed f (g ∷ gs) = elim (cases_Bool (nat_le f.1.offset g.1.offset)) [
  | inl u ↦ rw u refl
  | inr u ↦ rw u (let e = bytes_placed f gs in omega (arith, e))
]

bytes_ordered : (fs : List (ℕ × SlotFields)) → bytes_of (in_order fs) ≡ bytes_of fs
bytes_ordered [] = refl
bytes_ordered (f ∷ fs) = bytes_placed f (in_order fs) ∙ ap (λ n. f.1.length + n) (bytes_ordered fs)

bytes_from : (extent slot : ℕ) (slots : List (Option SlotFields))
    → bytes_of (live_from extent slot slots) ≡ live_bytes slots extent
bytes_from extent slot [] = refl
bytes_from extent slot (None ∷ slots) = let e = bytes_from extent (slot + 1) slots in omega (arith, e)
bytes_from extent slot (Some f ∷ slots) =
    let e = bytes_from extent (slot + 1) slots in elim (cases_Bool (f.extent == extent)) [
      | inl u ↦ rw u (ap (λ n. f.length + n) e)
      | inr u ↦ rw u (let none : bytes_of (live_from extent (slot + 1) slots) ≡ 0 + live_bytes slots extent = omega (arith, e) in none)
    ]

pub live_bytes_are : (s : Shelf) (extent : ℕ) → bytes_of (live_frames s extent) ≡ live_in s extent
live_bytes_are s extent = bytes_ordered (live_from extent 0 s.slots) ∙ bytes_from extent 0 s.slots

-- what is true of each used slot is true of each frame
abbrev pub EachFrame : (ℕ × SlotFields → Type 0) → List (ℕ × SlotFields) → Type 0
EachFrame P [] = Unit {0}
EachFrame P (f ∷ fs) = P f × EachFrame P fs

each_placed : (P : ℕ × SlotFields → Type 0) (f : ℕ × SlotFields) (fs : List (ℕ × SlotFields)) → P f → EachFrame P fs
    → EachFrame P (placed f fs)
each_placed P f [] has all = (has, tt)
each_placed P f (g ∷ gs) has all = elim (cases_Bool (nat_le f.1.offset g.1.offset)) [
  | inl u ↦ rw u (has, all)
  | inr u ↦ rw u (all.0, each_placed P f gs has all.1)
]

each_ordered : (P : ℕ × SlotFields → Type 0) (fs : List (ℕ × SlotFields)) → EachFrame P fs → EachFrame P (in_order fs)
each_ordered P [] all = tt
each_ordered P (f ∷ fs) all = each_placed P f (in_order fs) all.0 (each_ordered P fs all.1)

-- the slots behind this one
behind : (P : ℕ × SlotFields → Type 0) (slot i : ℕ) (f : SlotFields) → P (slot + suc i, f) → P (slot + 1 + i, f)
behind P slot i f h = subst (λ n. P (n, f)) (let e : slot + suc i ≡ slot + 1 + i = omega arith in e) h

each_from : (P : ℕ × SlotFields → Type 0) (extent slot : ℕ) (slots : List (Option SlotFields))
    → ((i : ℕ) (f : SlotFields) → slice_index_or slots i None ≡ Some f → P (slot + i, f))
    → EachFrame P (live_from extent slot slots)
each_from P extent slot [] has = tt
each_from P extent slot (None ∷ slots) has =
    each_from P extent (slot + 1) slots (λ i f h. behind P slot i f (has (suc i) f h))
each_from P extent slot (Some f ∷ slots) has =
    let rest = each_from P extent (slot + 1) slots (λ i f h. behind P slot i f (has (suc i) f h)) in
    let first : P (slot, f) = subst (λ n. P (n, f)) (let e : slot + 0 ≡ slot = omega arith in e) (has 0 f refl) in
    elim (cases_Bool (f.extent == extent)) [ inl u ↦ rw u (first, rest) | inr u ↦ rw u rest ]

pub each_live : (P : ℕ × SlotFields → Type 0) (s : Shelf) (extent : ℕ)
    → ((slot : ℕ) (f : SlotFields) → slot_at s slot ≡ Some f → P (slot, f)) → EachFrame P (live_frames s extent)
each_live P s extent has =
    each_ordered P (live_from extent 0 s.slots)
    (each_from P extent 0 s.slots (λ i f h. subst (λ n. P (n, f)) (let e : i ≡ 0 + i = omega arith in e) (has i f h)))
