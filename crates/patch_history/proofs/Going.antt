-- What is kept of a shelf beside its changes, a change at a time.
use Rattle.std.proofs.Common.{◌≡◌, ℕ, ◌+◌, ◌<◌, ◌≤◌, ◌∙◌, ◌^◌, inl, inr, List, [], ◌∷◌, ◌++◌, length, Option, Some, None}
use Rattle.std.proofs.Common.{Bool, true, false, refl, sym, ap, arith}
use Rattle.std.specs.Prelude.{◌==◌}
use Rattle.std.proofs.lemmas.Bool.{cases_Bool}
use Rattle.std.proofs.lemmas.Bool.Decides.{nat_tests}
use Rattle.patch_recovery.specs.Change.{Change, Data, Point, Fill, Clear, Widen, Made}
use Rattle.patch_recovery.specs.Ledger.{Ledger, after, after_all}
use Rattle.patch_recovery.specs.Right.{IsRight}
use Rattle.patch_recovery.specs.Orders.{IsWellMade, AreWellMade}
use Rattle.patch_history.specs.Shelf.{Shelf, not_current, after_change, after_plan}
use Rattle.patch_history.specs.StoreState.{onto}
use Rattle.patch_history.proofs.Keeping.{Holds, holds-change}
use Rattle.patch_history.proofs.Members.{some_number}

-- The shelf is that of the changes, which are well made; the current extent is one of the disk's, and begun; generations have 32
-- bits.
pub record Good (s : Shelf) (first : Ledger) (made : List Made) : Type 0 where
  pub holds : Holds s first made
  pub well : AreWellMade first made
  pub current : (e : ℕ) → s.current ≡ Some e → e < first.geometry.extents
  pub begun : (e : ℕ) → s.current ≡ Some e → 1 ≤ ((after_all first made).pointer e).offset
  pub few : (e : ℕ) → e < first.geometry.extents → ((after_all first made).pointer e).generation < 2 ^ 32

pub onto-++ : (p q made : List Made) → onto (p ++ q) made ≡ onto q (onto p made)
onto-++ [] q made = refl
onto-++ (m ∷ p) q made = onto-++ p q (m ∷ made)

pub onto_front : (first : Ledger) (plan made : List Made) → AreWellMade first (onto plan made) → AreWellMade first made
onto_front first [] made well = well
onto_front first (m ∷ plan) made well = (onto_front first plan (m ∷ made) well).1

pub onto_length : (plan made : List Made) → length (onto plan made) ≡ length made + length plan
onto_length [] made = omega arith
onto_length (m ∷ plan) made = let e = onto_length plan (m ∷ made) in omega (arith, e)

pub still_current : (e x : ℕ) (o : Option ℕ) → not_current e o ≡ Some x → o ≡ Some x
still_current e x None h = absurd (cc)
still_current e x (Some c) h = elim (cases_Bool (c == e)) [
  | inl u ↦ absurd (let g : None ≡ Some x = rw u at h in cc)
  | inr u ↦ (rw u at h)
]

current-change : (s : Shelf) (first : Ledger) (made : List Made) (n : ℕ) (c : Change) → Good s first made
    → IsRight (after_all first made) c
    → (e : ℕ) → (after_change s n c).current ≡ Some e → e < first.geometry.extents
current-change s first made n (Data extent offset bytes) good right e h = good.current e h
current-change s first made n (Point extent generation offset) good right e h = elim (cases_Bool (offset == 0)) [
  | inl u ↦ good.current e (still_current extent e s.current (rw u at h))
  | inr u ↦ (
      let g : Some extent ≡ Some e = rw u at h in
      let same = some_number extent e g in
      let known = right.known in
      let extents = good.holds.extents in omega (arith, same, known, extents))
]
current-change s first made n (Fill slot fields) good right e h = good.current e h
current-change s first made n (Clear slot) good right e h = good.current e h
current-change s first made n Widen good right e h = good.current e h

not_left : (e x : ℕ) (o : Option ℕ) → not_current e o ≡ Some x → (x == e) ≡ false
not_left e x None h = absurd (cc)
not_left e x (Some c) h = elim (cases_Bool (c == e)) [
  | inl u ↦ absurd (let g : None ≡ Some x = rw u at h in cc)
  | inr u ↦ (let g : Some c ≡ Some x = rw u at h in let same = some_number c x g in ap (λ k. k == e) (sym same) ∙ u)
]

begun-change : (s : Shelf) (first : Ledger) (made : List Made) (c : Change) (n : ℕ) → Good s first made
    → (e : ℕ) → (after_change s n c).current ≡ Some e → 1 ≤ ((after (after_all first made) c).pointer e).offset
begun-change s first made (Data extent offset bytes) n good e h = good.begun e h
begun-change s first made (Point extent generation offset) n good e h = elim (cases_Bool (offset == 0)) [
  | inl u ↦ (
      let was : not_current extent s.current ≡ Some e = rw u at h in
      let other = not_left extent e s.current was in
      rw other (good.begun e (still_current extent e s.current was)))
  | inr u ↦ (
      let g : Some extent ≡ Some e = rw u at h in
      let same = some_number extent e g in
      let on : (e == extent) ≡ true = grind (arith, nat_tests, same) in
      let some : 1 ≤ offset = grind (arith, nat_tests, u) in
      rw on some)
]
begun-change s first made (Fill slot fields) n good e h = good.begun e h
begun-change s first made (Clear slot) n good e h = good.begun e h
begun-change s first made Widen n good e h = good.begun e h

few-change : (s : Shelf) (first : Ledger) (made : List Made) (c : Change) → Good s first made
    → IsRight (after_all first made) c
    → (e : ℕ) → e < first.geometry.extents → ((after (after_all first made) c).pointer e).generation < 2 ^ 32
few-change s first made (Data extent offset bytes) good right e h = good.few e h
few-change s first made (Point extent generation offset) good right e h = elim (cases_Bool (e == extent)) [
  | inl u ↦ rw u (right.few)
  | inr u ↦ rw u (good.few e h)
]
few-change s first made (Fill slot fields) good right e h = good.few e h
few-change s first made (Clear slot) good right e h = good.few e h
few-change s first made Widen good right e h = good.few e h

pub good-change : (s : Shelf) (first : Ledger) (made : List Made) (n : ℕ) (m : Made) → n ≡ length made
    → Good s first made → IsWellMade first m made → Good (after_change s n m.change) first (m ∷ made)
good-change s first made n m e good well = record {
  holds = holds-change s first made n m e good.holds;
  well = (well, good.well);
  current = current-change s first made n m.change good well.right;
  begun = begun-change s first made m.change n good;
  few = few-change s first made m.change good well.right;
}

pub good-plan : (first : Ledger) (s : Shelf) (n : ℕ) (plan made : List Made) → n ≡ length made → Good s first made
    → AreWellMade first (onto plan made) → Good (after_plan s n plan) first (onto plan made)
good-plan first s n [] made e good well = good
good-plan first s n (m ∷ plan) made e good well =
    good-plan first (after_change s n m.change) (n + 1) plan (m ∷ made) (omega (arith, e)) (good-change s first made n m e good (onto_front first plan (m ∷ made) well).0) well
