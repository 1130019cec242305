-- Where the classes stand that are taken.
use Rattle.std.proofs.Common.{◌≡◌, ◌≢◌, ℕ, zero, suc, ◌<◌, ◌≤◌, ◌∙◌, false, inl, inr, length, get_or-set_same, get_or-set_other, refl, sym, ap, arith, min}
use Rattle.std.proofs.lemmas.Bool.{cases_Bool, cases_eq, cases_lt, both_ways, false_from_ne_true}
use Rattle.patch_stacks.specs.declared.places.Places.{Places}
use Rattle.patch_records.specs.declared.classes.Turn.TheVariants.{PutBack}
use Rattle.patch_stacks.specs.State.{Block, class_at, TakenWithin, restored_to}
use Rattle.patch_records.specs.Records.{no_class}
use Rattle.patch_records.specs.Exchanges.{exchanged_with}
use Rattle.patch_stacks.proofs.Outlines.{length-restored_to}
use Rattle.patch_stacks.proofs.Within.{marked_inside}

-- Those put back.

-- nothing is done below the lowest class that is taken
pub restored_lower : (n : ℕ) (b : Block) → ((i : ℕ) → i < n → (class_at b i).taken ≡ false) → restored_to n b ≡ b
restored_lower zero b none = refl
restored_lower (suc n) b none =
    let e : restored_to n b ≡ b = restored_lower n b (λ i w. none i (omega arith)) in
    let off : (class_at (restored_to n b) n).taken ≡ false = ap (λ z. (class_at z n).taken) e ∙ none n (omega arith) in
    rw off e

restored_above : (n : ℕ) (b : Block) (i : ℕ) → n ≤ i → class_at (restored_to n b) i ≡ class_at b i
restored_above zero b i up = refl
restored_above (suc n) b i up = elim (cases_Bool (class_at (restored_to n b) n).taken) [
  | inl on ↦ let ne : i ≢ n = omega arith in
      rw on (get_or-set_other (restored_to n b).classes n i (exchanged_with (class_at (restored_to n b) n) (restored_to n b).bytes PutBack) no_class ne
      ∙ restored_above n b i (omega arith))
  | inr off ↦ rw off (restored_above n b i (omega arith))
]

-- nor above the highest
pub restored_upper : (m : ℕ) (b : Block) (n : ℕ) → n ≤ m → ((i : ℕ) → n ≤ i → (class_at b i).taken ≡ false) → restored_to m b ≡ restored_to n b
restored_upper zero b n le none = let e : 0 ≡ n = omega arith in ap (λ (k : ℕ). restored_to k b) e
restored_upper (suc m) b n le none = elim (cases_lt m n) [
  | inl past ↦ let e : suc m ≡ n = omega arith in ap (λ (k : ℕ). restored_to k b) e
  | inr upto ↦
      let off : (class_at (restored_to m b) m).taken ≡ false = ap (λ c. c.taken) (restored_above m b m (omega arith)) ∙ none m upto in
      rw off (restored_upper m b n upto none)
]

restored_none : (n : ℕ) (b : Block) (i : ℕ) → n ≤ length b.classes → i < n → (class_at (restored_to n b) i).taken ≡ false
restored_none zero b i fits w = absurd (omega arith)
restored_none (suc n) b i fits w = elim (cases_Bool (class_at (restored_to n b) n).taken) [
  | inl on ↦ let l = length-restored_to n b in rw on (elim (cases_eq i n) [
    | inl e ↦ rw e (ap (λ c. c.taken) (get_or-set_same (restored_to n b).classes n (exchanged_with (class_at (restored_to n b) n) (restored_to n b).bytes PutBack) no_class (omega arith)))
    | inr ne ↦ ap (λ c. c.taken) (get_or-set_other (restored_to n b).classes n i (exchanged_with (class_at (restored_to n b) n) (restored_to n b).bytes PutBack) no_class ne)
        ∙ restored_none n b i (omega arith) (omega arith)
  ])
  | inr off ↦ rw off (elim (cases_eq i n) [
    | inl e ↦ rw e off
    | inr ne ↦ restored_none n b i (omega arith) (omega arith)
  ])
]

-- then nothing is taken
pub all_back : (b : Block) (i : ℕ) → (class_at (restored_to (length b.classes) b) i).taken ≡ false
all_back b i = false_from_ne_true _ (λ on.
    let l = length-restored_to (length b.classes) b in
    let w = marked_inside (λ c. c.taken) refl (restored_to (length b.classes) b).classes i on in
    both_ways _ (restored_none (length b.classes) b i (omega arith) (omega arith)) on)

-- the whole range is passed
pub range_back : (b now : Block) (p : Places) (at : ℕ) → TakenWithin p b.classes → min p.to (length b.classes) ≤ at → at ≤ length b.classes
    → now ≡ restored_to at b → now ≡ restored_to (length b.classes) b
range_back b now p at t from fits is = is ∙ sym (restored_upper (length b.classes) b at fits (λ i le. false_from_ne_true _ (λ on.
    let r = t i on in
    let w = marked_inside (λ c. c.taken) refl b.classes i on in
    let less : i < p.to = r.1 in
    absurd (omega arith))))
