-- The sums of live bytes, as slots change.
use Rattle.std.proofs.Common.{◌≡◌, ◌≢◌, ℕ, zero, suc, true, false, ◌+◌, ◌-◌, ◌*◌, ◌<◌, ◌≤◌, ◌∙◌, inl, inr, List, [], ◌∷◌, ◌++◌, Option, length, map, get_or, set, refl, sym, ap, subst, arith}
use Rattle.std.specs.Prelude.{Some, None, ◌==◌}
use Rattle.std.proofs.lemmas.Bool.{cases_Bool, cases_lt}
use Rattle.std.proofs.lemmas.Bool.Decides.{nat_tests}
use Rattle.std.proofs.lemmas.List.{length-set, get_or-set_same, get_or-set_other, get_or_past, set-set}
use Rattle.patch_frame.specs.Slot.{SlotFields}
use Rattle.patch_index.specs.declared.entries.Entry.{Entry}
use Rattle.patch_index.specs.Index.{told}
use Rattle.patch_index.specs.Reporting.{bytes_in, live_bytes}
use Rattle.patch_index.specs.Sums.{with_frame, without_frame, AreSums}
use Rattle.patch_index.proofs.Ranked.{alike}

-- There are few enough.

pub few_bytes : (items : List (Option Entry)) (extent : ℕ) → live_bytes (map told items) extent ≤ length items * 262144
few_bytes [] extent = omega arith
few_bytes (None ∷ items) extent = let rest = few_bytes items extent in omega (arith, rest)
few_bytes (Some e ∷ items) extent =
    let rest = few_bytes items extent in
    let within = e.within in
    elim (cases_Bool (e.extent == extent)) [
      | inl u ↦ rw u (omega (arith, rest, within))
      | inr u ↦ rw u (omega (arith, rest))
    ]

pub room_for : (items : List (Option Entry)) (sums : List ℕ) → AreSums (map told items) sums → length items ≤ 1024 → (extent : ℕ) → get_or sums extent 0 ≤ 268435456
room_for items sums all few extent = elim (cases_lt extent (length sums)) [
  | inl less ↦
      let is = all extent less in
      let low = few_bytes items extent in
      omega (arith, is, low, few)
  | inr past ↦ let none = get_or_past sums extent 0 past in omega (arith, none)
]

-- A slot changes.

set_live : (slots : List (Option SlotFields)) (s : ℕ) (o : Option SlotFields) (extent : ℕ) → s < length slots
    → live_bytes (set slots s o) extent + bytes_in extent (get_or slots s None) ≡ live_bytes slots extent + bytes_in extent o
set_live [] s o extent less = absurd (omega (arith, less))
set_live (p ∷ slots) zero o extent less = omega arith
set_live (p ∷ slots) (suc s) o extent less = let rest = set_live slots s o extent (omega (arith, less)) in omega (arith, rest)

bytes_here : (f : SlotFields) (extent : ℕ) → (f.extent == extent) ≡ true → bytes_in extent (Some f) ≡ f.length
bytes_here f extent u = rw u refl

bytes_elsewhere : (f : SlotFields) (extent : ℕ) → (f.extent == extent) ≡ false → bytes_in extent (Some f) ≡ 0
bytes_elsewhere f extent u = rw u refl

pub summed_more : (slots : List (Option SlotFields)) (s : ℕ) (f : SlotFields) (sums : List ℕ) → s < length slots → get_or slots s None ≡ None → AreSums slots sums
    → AreSums (set slots s (Some f)) (with_frame sums f)
summed_more slots s f sums less none all extent within =
    let v : ℕ = get_or sums f.extent 0 + f.length in
    let long = length-set sums f.extent v in
    let inside : extent < length sums = omega (arith, within, long) in
    let change = set_live slots s (Some f) extent less in
    let before : bytes_in extent (get_or slots s None) ≡ 0 = ap (bytes_in extent) none in
    let was = all extent inside in
    elim (cases_Bool (f.extent == extent)) [
      | inl u ↦
          let e : f.extent ≡ extent = alike f.extent extent u in
          let more = bytes_here f extent u in
          let here : get_or (set sums f.extent v) extent 0 ≡ v =
          ap (λ k. get_or (set sums f.extent v) k 0) (sym e) ∙ get_or-set_same sums f.extent v 0 (omega (arith, e, inside)) in
          let own : get_or sums f.extent 0 ≡ get_or sums extent 0 = ap (λ k. get_or sums k 0) e in
          here ∙ omega (arith, own, was, change, before, more)
      | inr u ↦
          let off : extent ≢ f.extent = grind (arith, nat_tests, u) in
          let more = bytes_elsewhere f extent u in
          get_or-set_other sums f.extent extent v 0 off ∙ omega (arith, was, change, before, more)
    ]

pub enough : (slots : List (Option SlotFields)) (s : ℕ) (f : SlotFields) (sums : List ℕ) → s < length slots → get_or slots s None ≡ Some f → AreSums slots sums
    → f.extent < length sums → f.length ≤ get_or sums f.extent 0
enough slots s f sums less is all inside =
    let change = set_live slots s None f.extent less in
    let here : bytes_in f.extent (get_or slots s None) ≡ f.length = ap (bytes_in f.extent) is ∙ bytes_here f f.extent (grind (arith, nat_tests)) in
    let was = all f.extent inside in
    omega (arith, change, here, was)

pub summed_less : (slots : List (Option SlotFields)) (s : ℕ) (f : SlotFields) (sums : List ℕ) → s < length slots → get_or slots s None ≡ Some f → AreSums slots sums
    → AreSums (set slots s None) (without_frame sums f)
summed_less slots s f sums less is all extent within =
    let v : ℕ = get_or sums f.extent 0 - f.length in
    let long = length-set sums f.extent v in
    let inside : extent < length sums = omega (arith, within, long) in
    let change = set_live slots s None extent less in
    let was = all extent inside in
    elim (cases_Bool (f.extent == extent)) [
      | inl u ↦
          let e : f.extent ≡ extent = alike f.extent extent u in
          let more : bytes_in extent (get_or slots s None) ≡ f.length = ap (bytes_in extent) is ∙ bytes_here f extent u in
          let here : get_or (set sums f.extent v) extent 0 ≡ v =
          ap (λ k. get_or (set sums f.extent v) k 0) (sym e) ∙ get_or-set_same sums f.extent v 0 (omega (arith, e, inside)) in
          let own : get_or sums f.extent 0 ≡ get_or sums extent 0 = ap (λ k. get_or sums k 0) e in
          here ∙ omega (arith, own, was, change, more)
      | inr u ↦
          let off : extent ≢ f.extent = grind (arith, nat_tests, u) in
          let more : bytes_in extent (get_or slots s None) ≡ 0 = ap (bytes_in extent) is ∙ bytes_elsewhere f extent u in
          get_or-set_other sums f.extent extent v 0 off ∙ omega (arith, was, change, more)
    ]

pub summed_anew : (slots : List (Option SlotFields)) (s : ℕ) (f g : SlotFields) (sums : List ℕ) → s < length slots → get_or slots s None ≡ Some f → AreSums slots sums
    → AreSums (set slots s (Some g)) (with_frame (without_frame sums f) g)
summed_anew slots s f g sums less is all =
    subst (λ v. AreSums v (with_frame (without_frame sums f) g)) (set-set slots s None (Some g))
    (summed_more (set slots s None) s g (without_frame sums f) (let same = length-set slots s None in omega (arith, less, same)) (get_or-set_same slots s None None less)
    (summed_less slots s f sums less is all))

pub summed_on : (slots : List (Option SlotFields)) (sums : List ℕ) → AreSums slots sums → AreSums (slots ++ None ∷ []) sums
summed_on slots sums all extent within = all extent within ∙ sym (pushed slots extent)
  where
    pushed : (slots : List (Option SlotFields)) (extent : ℕ) → live_bytes (slots ++ None ∷ []) extent ≡ live_bytes slots extent
    pushed [] extent = refl
    pushed (o ∷ slots) extent = ap (λ n. bytes_in extent o + n) (pushed slots extent)

-- of equal lists
pub same_sums : (slots others : List (Option SlotFields)) (now sums : List ℕ) → slots ≡ others → now ≡ sums → AreSums slots now → AreSums others sums
same_sums slots others now sums a b all = subst (λ x. AreSums others x) b (subst (λ x. AreSums x now) a all)
