-- The outline of a block's records outlasts takes and put backs.
use Rattle.std.proofs.Common.{◌≡◌, ℕ, zero, suc, ◌<◌, ◌≤◌, ◌∙◌, inl, inr, List, [], ◌∷◌, length, map, refl, ap, arith, ◌-◌}
use Rattle.std.specs.Prelude.{slice_index_or, slice_set}
use Rattle.std.proofs.lemmas.Bool.{cases_Bool}
use Rattle.std.proofs.lemmas.List.{length-set}
use Rattle.patch_records.specs.declared.classes.Turn.{Turn}
use Rattle.patch_records.specs.declared.classes.Turn.TheVariants.{PutBack, Take}
use Rattle.patch_records.specs.Records.{Class, no_class, outline_of, is_takeable}
use Rattle.patch_stacks.specs.State.{Block, class_at, exchanged_at, restored_to, outline, swept_to}
use Rattle.patch_records.specs.Exchanges.{exchanged_with}

pub outline-set : (cs : List Class) (at : ℕ) (c : Class) → at < length cs → outline_of c ≡ outline_of (slice_index_or cs at no_class)
    → map outline_of (slice_set cs at c) ≡ map outline_of cs
outline-set [] at c within e = refl
outline-set (d ∷ ds) zero c within e = ap (λ z. z ∷ map outline_of ds) e
outline-set (d ∷ ds) (suc at) c within e = ap (λ z. outline_of d ∷ z) (outline-set ds at c (omega arith) e)

pub outline-exchanged : (b : Block) (at : ℕ) (turn : Turn) → at < length b.classes → outline (exchanged_at b at turn) ≡ outline b
outline-exchanged b at turn within = outline-set b.classes at (exchanged_with (class_at b at) b.bytes turn) within refl

pub length-restored_to : (n : ℕ) (b : Block) → length (restored_to n b).classes ≡ length b.classes
length-restored_to zero b = refl
length-restored_to (suc n) b = elim (cases_Bool (class_at (restored_to n b) n).taken) [
  | inl on ↦ rw on (length-set (restored_to n b).classes n _ ∙ length-restored_to n b)
  | inr off ↦ rw off (length-restored_to n b)
]

pub outline-restored_to : (n : ℕ) (b : Block) → n ≤ length b.classes → outline (restored_to n b) ≡ outline b
outline-restored_to zero b fits = refl
outline-restored_to (suc n) b fits = elim (cases_Bool (class_at (restored_to n b) n).taken) [
  | inl on ↦ let l = length-restored_to n b in rw on (outline-exchanged (restored_to n b) n PutBack (omega arith) ∙ outline-restored_to n b (omega arith))
  | inr off ↦ rw off (outline-restored_to n b (omega arith))
]

pub length-swept_to : (n : ℕ) (b : Block) → length (swept_to n b).classes ≡ length b.classes
length-swept_to zero b = refl
length-swept_to (suc n) b = elim (cases_Bool (is_takeable (class_at (swept_to n b) (length b.classes - suc n)))) [
  | inl on ↦ rw on (length-set (swept_to n b).classes (length b.classes - suc n) _ ∙ length-swept_to n b)
  | inr off ↦ rw off (length-swept_to n b)
]

pub outline-swept_to : (n : ℕ) (b : Block) → n ≤ length b.classes → outline (swept_to n b) ≡ outline b
outline-swept_to zero b fits = refl
outline-swept_to (suc n) b fits = elim (cases_Bool (is_takeable (class_at (swept_to n b) (length b.classes - suc n)))) [
  | inl on ↦ let l = length-swept_to n b in
      rw on (outline-exchanged (swept_to n b) (length b.classes - suc n) Take (omega arith) ∙ outline-swept_to n b (omega arith))
  | inr off ↦ rw off (outline-swept_to n b (omega arith))
]
