-- The bytes without all that may be taken, as they are laid on a copy.
use Rattle.std.proofs.Common.{◌≡◌, ◌≢◌, ℕ, zero, suc, ◌-◌, ◌<◌, ◌≤◌, ◌∙◌, inl, inr, length, drop, get_or, refl, sym, ap, arith, get_or-set_other, ◌+◌}
use Rattle.std.proofs.lemmas.List.{drop_all, get_or_default}
use Rattle.patch_images.specs.Images.{bared}
use Rattle.patch_images.proofs.Baring.{bared-next}
use Rattle.std.proofs.lemmas.Bool.{cases_Bool}
use Rattle.patch_records.specs.declared.classes.Turn.TheVariants.{Take}
use Rattle.patch_stacks.specs.State.{Block, class_at, swept_to}
use Rattle.patch_records.specs.Records.{no_class, is_takeable}
use Rattle.patch_records.specs.Exchanges.{uncovered, exchanged_with}

-- the classes that weren't reached yet are as they were
swept-below : (n : ℕ) (b : Block) (i : ℕ) → n ≤ length b.classes → i < length b.classes - n → class_at (swept_to n b) i ≡ class_at b i
swept-below zero b i fits w = refl
swept-below (suc n) b i fits w = elim (cases_Bool (is_takeable (class_at (swept_to n b) (length b.classes - suc n)))) [
  | inl on ↦ let ne : i ≢ length b.classes - suc n = omega arith in
      rw on (get_or-set_other (swept_to n b).classes (length b.classes - suc n) i
      (exchanged_with (class_at (swept_to n b) (length b.classes - suc n)) (swept_to n b).bytes Take) no_class ne ∙ swept-below n b i (omega arith) (omega arith))
  | inr off ↦ rw off (swept-below n b i (omega arith) (omega arith))
]

-- one class more is laid on the copy
pub swept-bytes : (n : ℕ) (b : Block) (at : ℕ) → n < length b.classes → at ≡ length b.classes - 1 - n
    → uncovered (class_at b at) (swept_to n b).bytes ≡ (swept_to (suc n) b).bytes
swept-bytes n b at fits is =
    let e : at ≡ length b.classes - suc n = omega arith in
    let same = swept-below n b (length b.classes - suc n) (omega arith) (omega arith) in
    ap (λ (k : ℕ). uncovered (class_at b k) (swept_to n b).bytes) e ∙ ap (λ c. uncovered c (swept_to n b).bytes) (sym same)
    ∙ (elim (cases_Bool (is_takeable (class_at (swept_to n b) (length b.classes - suc n)))) [
      | inl on ↦ rw on refl
      | inr off ↦ rw off refl
    ])

-- it is what a sweep leaves
pub swept-front : (n : ℕ) (b : Block) → n ≤ length b.classes → (swept_to n b).bytes ≡ bared (drop (length b.classes - n) b.classes) b.bytes
swept-front zero b fits =
    let e : length b.classes - 0 ≡ length b.classes = omega arith in
    sym (ap (λ (k : ℕ). bared (drop k b.classes) b.bytes) e ∙ ap (λ cs. bared cs b.bytes) (drop_all (length b.classes) b.classes (omega arith)))
swept-front (suc n) b fits =
    let at : length b.classes - 1 - n < length b.classes = omega arith in
    let more : n + 1 ≡ suc n = omega arith in
    sym (swept-bytes n b (length b.classes - 1 - n) (omega arith) refl)
    ∙ bared-next b.classes b.bytes (swept_to n b).bytes n (length b.classes - 1 - n) (get_or b.classes (length b.classes - 1 - n) no_class) (omega arith) refl
    (sym (get_or_default b.classes (length b.classes - 1 - n) (get_or b.classes (length b.classes - 1 - n) no_class) no_class at)) (swept-front n b (omega arith))
    ∙ ap (λ (k : ℕ). bared (drop (length b.classes - k) b.classes) b.bytes) more

pub swept-bared : (b : Block) → (swept_to (length b.classes) b).bytes ≡ bared b.classes b.bytes
swept-bared b =
    let e : length b.classes - length b.classes ≡ 0 = omega arith in
    swept-front (length b.classes) b (omega arith) ∙ ap (λ (k : ℕ). bared (drop k b.classes) b.bytes) e
