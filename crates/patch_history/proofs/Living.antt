-- The live frames of an extent: each slot that names it, once.
use Rattle.std.proofs.Common.{◌≡◌, ◌≢◌, ℕ, zero, suc, ◌+◌, ◌<◌, ◌⊎◌, ◌∙◌, inl, inr, true, List, [], ◌∷◌, length, Option}
use Rattle.std.proofs.Common.{Some, None, refl, sym, ap, arith, subst}
use Rattle.std.specs.Prelude.{◌==◌, nat_le, slice_index_or}
use Rattle.std.proofs.lemmas.Bool.{cases_Bool}
use Rattle.std.proofs.lemmas.Bool.Decides.{nat_tests}
use Rattle.patch_model.specs.Member.{In}
use Rattle.patch_frame.specs.Slot.{SlotFields}
use Rattle.patch_history.specs.Shelf.{Shelf, slot_at}
use Rattle.patch_history.specs.Choosing.{live_from, placed, in_order, live_frames}
use Rattle.patch_history.proofs.Members.{some_fields}

in_placed : (f g : ℕ × SlotFields) (fs : List (ℕ × SlotFields)) → In (placed g fs) f → (g ≡ f) ⊎ In fs f
in_placed f g [] h = h
in_placed f g (x ∷ xs) h = elim (cases_Bool (nat_le g.1.offset x.1.offset)) [
  | inl u ↦ (rw u at h)
  | inr u ↦ (let k : (x ≡ f) ⊎ In (placed g xs) f = rw u at h in elim k [
    | inl e ↦ inr (inl e)
    | inr later ↦ elim (in_placed f g xs later) [ inl e ↦ inl e | inr there ↦ inr (inr there) ]
  ])
]

into_placed : (f g : ℕ × SlotFields) (fs : List (ℕ × SlotFields)) → (g ≡ f) ⊎ In fs f → In (placed g fs) f
into_placed f g [] h = h
into_placed f g (x ∷ xs) h = elim (cases_Bool (nat_le g.1.offset x.1.offset)) [
  | inl u ↦ rw u h
  | inr u ↦ rw u (elim h [
    | inl e ↦ inr (into_placed f g xs (inl e))
    | inr there ↦ elim there [ inl e ↦ inl e | inr later ↦ inr (into_placed f g xs (inr later)) ]
  ])
]

in_order_in : (f : ℕ × SlotFields) (fs : List (ℕ × SlotFields)) → In (in_order fs) f → In fs f
in_order_in f [] h = h
in_order_in f (x ∷ xs) h =
    elim (in_placed f x (in_order xs) h) [ inl e ↦ inl e | inr there ↦ inr (in_order_in f xs there) ]

in_order_into : (f : ℕ × SlotFields) (fs : List (ℕ × SlotFields)) → In fs f → In (in_order fs) f
in_order_into f [] h = h
in_order_into f (x ∷ xs) (inl e) = into_placed f x (in_order xs) (inl e)
in_order_into f (x ∷ xs) (inr h) = into_placed f x (in_order xs) (inr (in_order_into f xs h))

-- no slot stands there twice
abbrev pub Distinct : List (ℕ × SlotFields) → Type 0
Distinct [] = Unit {0}
Distinct (f ∷ fs) = ((g : ℕ × SlotFields) → In fs g → g.0 ≢ f.0) × Distinct fs

distinct_placed : (g : ℕ × SlotFields) (fs : List (ℕ × SlotFields)) → ((h : ℕ × SlotFields) → In fs h → h.0 ≢ g.0)
    → Distinct fs → Distinct (placed g fs)
distinct_placed g [] apart d = ((λ h i. absurd i), tt)
distinct_placed g (x ∷ xs) apart d = elim (cases_Bool (nat_le g.1.offset x.1.offset)) [
  | inl u ↦ rw u (apart, d)
  | inr u ↦ rw u (
    (λ h i. elim (in_placed h g xs i) [
      | inl e ↦ (λ same. apart x (inl refl) (sym (ap (λ p. p.0) e ∙ same)))
      | inr there ↦ d.0 h there
    ]),
    distinct_placed g xs (λ h i. apart h (inr i)) d.1,
  )
]

distinct_order : (fs : List (ℕ × SlotFields)) → Distinct fs → Distinct (in_order fs)
distinct_order [] d = tt
distinct_order (x ∷ xs) d = distinct_placed x (in_order xs) (λ h i. d.0 h (in_order_in h xs i)) (distinct_order xs d.1)

-- a slot of the list, so many places behind its first
record StandsAt (k : ℕ) (slots : List (Option SlotFields)) (f : ℕ × SlotFields) : Type 0 where
  pub place : ℕ
  pub is : f.0 ≡ k + place
  pub within : place < length slots
  pub says : slice_index_or slots place None ≡ Some f.1

further : (k : ℕ) (o : Option SlotFields) (slots : List (Option SlotFields)) (f : ℕ × SlotFields)
    → StandsAt (k + 1) slots f → StandsAt k (o ∷ slots) f
further k o slots f h =
    record { place = suc h.place; is = (let e = h.is in omega (arith, e)); within = (let w = h.within in omega (arith, w)); says = h.says }

live_at : (e k : ℕ) (slots : List (Option SlotFields)) (f : ℕ × SlotFields) → In (live_from e k slots) f
    → StandsAt k slots f
live_at e k [] f h = absurd h
live_at e k (None ∷ slots) f h = further k None slots f (live_at e (k + 1) slots f h)
live_at e k (Some g ∷ slots) f h = elim (cases_Bool (g.extent == e)) [
  | inl u ↦ (let j : ((k, g) ≡ f) ⊎ In (live_from e (k + 1) slots) f = rw u at h in elim j [
    | inl same ↦ record { place = 0; is = (let x : f.0 ≡ k = ap (λ p. p.0) (sym same) in omega (arith, x)); within = omega arith; says = ap (λ p. Some p.1) same }
    | inr there ↦ further k (Some g) slots f (live_at e (k + 1) slots f there)
  ])
  | inr u ↦ (let j : In (live_from e (k + 1) slots) f = rw u at h in further k (Some g) slots f (live_at e (k + 1) slots f j))
]

live_there : (e k : ℕ) (slots : List (Option SlotFields)) (j : ℕ) (g : SlotFields)
    → slice_index_or slots j None ≡ Some g → g.extent ≡ e → In (live_from e k slots) (k + j, g)
live_there e k [] j g at named = absurd (let none : None ≡ Some g = at in cc)
live_there e k (None ∷ slots) zero g at named = absurd (let none : None ≡ Some g = at in cc)
live_there e k (None ∷ slots) (suc j) g at named =
    subst (λ n. In (live_from e (k + 1) slots) (n, g)) (let x : k + 1 + j ≡ k + suc j = omega arith in x)
    (live_there e (k + 1) slots j g at named)
live_there e k (Some f ∷ slots) zero g at named =
    let same : f ≡ g = some_fields f g at in
    let u : (f.extent == e) ≡ true =
    (let n : f.extent ≡ e = ap (λ f. f.extent) same ∙ named in grind (arith, nat_tests)) in
    rw u (inl (ap (λ f. (k, f)) same ∙ ap (λ n. (n, g)) (let x : k ≡ k + 0 = omega arith in x)))
live_there e k (Some f ∷ slots) (suc j) g at named =
    let there : In (live_from e (k + 1) slots) (k + suc j, g) =
    subst (λ n. In (live_from e (k + 1) slots) (n, g)) (let x : k + 1 + j ≡ k + suc j = omega arith in x)
    (live_there e (k + 1) slots j g at named) in
    elim (cases_Bool (f.extent == e)) [ inl u ↦ rw u (inr there) | inr u ↦ rw u there ]

live_distinct : (e k : ℕ) (slots : List (Option SlotFields)) → Distinct (live_from e k slots)
live_distinct e k [] = tt
live_distinct e k (None ∷ slots) = live_distinct e (k + 1) slots
live_distinct e k (Some g ∷ slots) = elim (cases_Bool (g.extent == e)) [
  | inl u ↦ rw u (
    (λ h i same. let at = live_at e (k + 1) slots h i in
        let place = at.is in omega (arith, place, same)),
    live_distinct e (k + 1) slots,
  )
  | inr u ↦ rw u (live_distinct e (k + 1) slots)
]

pub live_are : (s : Shelf) (e : ℕ) (f : ℕ × SlotFields) → In (live_frames s e) f
    → (f.0 < length s.slots) × (slot_at s f.0 ≡ Some f.1)
live_are s e f h =
    let at = live_at e 0 s.slots f (in_order_in f (live_from e 0 s.slots) h) in
    let same : f.0 ≡ at.place = (let i = at.is in omega (arith, i)) in
    ((let w = at.within in omega (arith, w, same)), ap (slot_at s) same ∙ at.says)

pub live_all : (s : Shelf) (e x : ℕ) (g : SlotFields) → slot_at s x ≡ Some g → g.extent ≡ e
    → In (live_frames s e) (x, g)
live_all s e x g at named =
    in_order_into (x, g) (live_from e 0 s.slots)
    (subst (λ n. In (live_from e 0 s.slots) (n, g)) (let y : 0 + x ≡ x = omega arith in y) (live_there e 0 s.slots x g at named))

pub live_apart : (s : Shelf) (e : ℕ) → Distinct (live_frames s e)
live_apart s e = distinct_order (live_from e 0 s.slots) (live_distinct e 0 s.slots)
