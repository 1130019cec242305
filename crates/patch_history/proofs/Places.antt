-- Where something stands first in a list.
use Rattle.std.proofs.Common.{◌≡◌, ◌≢◌, ℕ, zero, suc, ◌+◌, ◌<◌, ◌⊎◌, ◌∙◌, inl, inr, Bool, true, false, List, [], ◌∷◌}
use Rattle.std.proofs.Common.{length, Option, Some, None, refl, sym, ap, arith}
use Rattle.std.specs.Prelude.{position, slice_index_or, is_none, find}
use Rattle.std.specs.List.{position_from}
use Rattle.std.proofs.lemmas.Bool.{cases_Bool}
use Rattle.std.proofs.lemmas.Slice.Eq.{bytes_eq-Decides}
use Rattle.std.proofs.lemmas.Iterator.Adapters.{position_from-zero}
use Rattle.patch_model.specs.Member.{In}
use Rattle.patch_frame.specs.Slot.{SlotFields}
use Rattle.patch_recovery.specs.Reading.{has_key}
use Rattle.patch_history.specs.Choosing.{slot_of, slot_for}
use Rattle.patch_history.specs.Shelf.{Shelf, slot_at}
use Rattle.patch_history.proofs.Members.{some_number}

record IsAt {X : Type 0} (test : X → Bool) (d : X) (i : ℕ) (xs : List X) (j : ℕ) : Type 0 where
  pub place : ℕ
  pub is : j ≡ i + place
  pub within : place < length xs
  pub passes : test (slice_index_or xs place d) ≡ true

at_from : {X : Type 0} (test : X → Bool) (d : X) (i : ℕ) (xs : List X) (j : ℕ) → position_from test i xs ≡ Some j
    → IsAt test d i xs j
at_from test d i [] j h = absurd (let g : None ≡ Some j = h in cc)
at_from test d i (x ∷ xs) j h = elim (cases_Bool (test x)) [
  | inl u ↦ (let g : Some i ≡ Some j = rw u at h in record { place = 0; is = (let e = some_number i j g in omega (arith, e)); within = omega arith; passes = u })
  | inr u ↦
      let there = at_from test d (i + 1) xs j (rw u at h) in
      record {
        place = suc there.place;
        is = (let e = there.is in omega (arith, e));
        within = (let w = there.within in omega (arith, w));
        passes = there.passes;
      }
]

none_from : {X : Type 0} (test : X → Bool) (d : X) (i : ℕ) (xs : List X) → position_from test i xs ≡ None → (k : ℕ)
    → k < length xs → test (slice_index_or xs k d) ≡ false
none_from test d i [] h k less = absurd (omega (arith, less))
none_from test d i (x ∷ xs) h zero less = elim (cases_Bool (test x)) [
  | inl u ↦ absurd (let g : Some i ≡ None = rw u at h in cc)
  | inr u ↦ u
]
none_from test d i (x ∷ xs) h (suc k) less = elim (cases_Bool (test x)) [
  | inl u ↦ absurd (let g : Some i ≡ None = rw u at h in cc)
  | inr u ↦ none_from test d (i + 1) xs (rw u at h) k (omega (arith, less))
]

pub record HasPlace {X : Type 0} (test : X → Bool) (d : X) (xs : List X) (j : ℕ) : Type 0 where
  pub within : j < length xs
  pub passes : test (slice_index_or xs j d) ≡ true

pub position_at : {X : Type 0} (test : X → Bool) (d : X) (xs : List X) (j : ℕ) → position test xs ≡ Some j
    → HasPlace test d xs j
position_at test d xs j h =
    let at = at_from test d 0 xs j (sym (position_from-zero test xs) ∙ h) in
    let same : at.place ≡ j = (let i = at.is in omega (arith, i)) in
    record { within = (let w = at.within in omega (arith, w, same)); passes = ap (λ k. test (slice_index_or xs k d)) (sym same) ∙ at.passes }

pub position_none : {X : Type 0} (test : X → Bool) (d : X) (xs : List X) → position test xs ≡ None → (k : ℕ)
    → k < length xs → test (slice_index_or xs k d) ≡ false
position_none test d xs h = none_from test d 0 xs (sym (position_from-zero test xs) ∙ h)

pub key_of : (key : List ℕ) (o : Option SlotFields) → has_key key o ≡ true
    → (f : SlotFields) × (o ≡ Some f) × (f.key ≡ key)
key_of key None h = absurd (let g : false ≡ true = h in cc)
key_of key (Some f) h = (f, refl, (bytes_eq-Decides f.key key).0 h)

pub no_key_of : (key : List ℕ) (o : Option SlotFields) (f : SlotFields) → has_key key o ≡ false → o ≡ Some f
    → f.key ≢ key
no_key_of key o f h e same =
    let on : has_key key o ≡ true = ap (has_key key) e ∙ (bytes_eq-Decides f.key key).1 same in
    let no : false ≡ true = sym h ∙ on in cc

empty_is : (o : Option SlotFields) → is_none o ≡ true → o ≡ None
empty_is None h = refl
empty_is (Some f) h = absurd (let g : false ≡ true = h in cc)

-- a slot of the key, or an empty one where no slot has it
pub record IsSlotFor (s : Shelf) (key : List ℕ) (j : ℕ) : Type 0 where
  pub within : j < length s.slots
  pub whose : ((f : SlotFields) × (slot_at s j ≡ Some f) × (f.key ≡ key)) ⊎ ((slot_at s j ≡ None) × ((k : ℕ)
      → k < length s.slots → has_key key (slot_at s k) ≡ false))

pub slot_found : (s : Shelf) (key : List ℕ) (j : ℕ) → slot_of s key ≡ Some j
    → (j < length s.slots) × ((f : SlotFields) × (slot_at s j ≡ Some f) × (f.key ≡ key))
slot_found s key j h =
    let at = position_at (has_key key) None s.slots j h in (at.within, key_of key (slot_at s j) at.passes)

pub slot_chosen : (s : Shelf) (key : List ℕ) (j : ℕ) (o : Option ℕ) → slot_of s key ≡ o → slot_for s key ≡ Some j
    → IsSlotFor s key j
slot_chosen s key j (Some i) at h =
    let same : Some i ≡ Some j = rw at at h in
    let found = slot_found s key j (at ∙ same) in record { within = found.0; whose = inl found.1 }
slot_chosen s key j None at h =
    let there = position_at is_none None s.slots j (rw at at h) in
    record { within = there.within; whose = inr (empty_is (slot_at s j) there.passes, position_none (has_key key) None s.slots at) }

pub find_passes : (test : ℕ → Bool) (xs : List ℕ) (x : ℕ) → find test xs ≡ Some x → test x ≡ true
find_passes test [] x h = absurd (let g : None ≡ Some x = h in cc)
find_passes test (y ∷ ys) x h = elim (cases_Bool (test y)) [
  | inl u ↦ (let g : Some y ≡ Some x = rw u at h in ap test (sym (some_number y x g)) ∙ u)
  | inr u ↦ find_passes test ys x (rw u at h)
]

pub find_in : (test : ℕ → Bool) (xs : List ℕ) (x : ℕ) → find test xs ≡ Some x → In xs x
find_in test [] x h = absurd (let g : None ≡ Some x = h in cc)
find_in test (y ∷ ys) x h = elim (cases_Bool (test y)) [
  | inl u ↦ (let g : Some y ≡ Some x = rw u at h in inl (some_number y x g))
  | inr u ↦ inr (find_in test ys x (rw u at h))
]
