-- What the classes of a block keep while one of them is exchanged, or goes.
use Rattle.std.proofs.Common.{◌≡◌, ℕ, zero, suc, ◌+◌, ◌<◌, ◌∙◌, true, inl, inr, List, [], ◌∷◌, length, refl, ap, arith, get_or-set_same, get_or-set_other, ◌-◌}
use Rattle.std.specs.Prelude.{◌==◌, ◌||◌, ◌≢◌, slice_index_or, slice_set}
use Rattle.std.specs.List.{list_any, remove}
use Rattle.std.proofs.lemmas.Bool.{cases_eq, cases_lt, eq-eqb}
use Rattle.patch_records.specs.declared.classes.Turn.{Turn}
use Rattle.patch_records.specs.Records.{Class, no_class}
use Rattle.patch_stacks.specs.State.{Block, class_at, exchanged_at}
use Rattle.patch_records.specs.Exchanges.{exchanged_with}
use Rattle.std.proofs.lemmas.List.Folds.{list_any_at}
use Rattle.std.proofs.lemmas.List.Edits.{length-remove, get_or-remove_below, get_or-remove_above}

-- what does not look at a class's saved bytes or flag
pub kept-at : {X : Type 0} (F : Class → X) (b : Block) (at i : ℕ) (turn : Turn) → at < length b.classes
    → F (exchanged_with (class_at b at) b.bytes turn) ≡ F (class_at b at)
    → F (class_at (exchanged_at b at turn) i) ≡ F (class_at b i)
kept-at F b at i turn within same = elim (cases_eq i at) [
  | inl e ↦ rw e (ap F (get_or-set_same b.classes at (exchanged_with (class_at b at) b.bytes turn) no_class within) ∙ same)
  | inr ne ↦ ap F (get_or-set_other b.classes at i (exchanged_with (class_at b at) b.bytes turn) no_class ne)
]

pub name-kept : (b : Block) (at i : ℕ) (turn : Turn) → at < length b.classes → (class_at (exchanged_at b at turn) i).name ≡ (class_at b i).name
name-kept b at i turn within = kept-at (λ c. c.name) b at i turn within refl

pub names-set : (cs : List Class) (at n : ℕ) (c : Class) → at < length cs → c.name ≡ (slice_index_or cs at no_class).name
    → list_any (λ d. d.name == n) (slice_set cs at c) ≡ list_any (λ d. d.name == n) cs
names-set [] at n c within e = refl
names-set (d ∷ ds) zero n c within e = ap (λ m. (m == n) || list_any (λ d. d.name == n) ds) e
names-set (d ∷ ds) (suc at) n c within e = ap (λ z. (d.name == n) || z) (names-set ds at n c (omega arith) e)

pub named-remove : (cs : List Class) (at n k : ℕ) → at < length cs → k < length cs → k ≢ at → (slice_index_or cs k no_class).name ≡ n
    → list_any (λ d. d.name == n) (remove cs at) ≡ true
named-remove cs at n k within w ne is =
    let l = length-remove cs at within in
    elim (cases_lt k at) [
      | inl before ↦ list_any_at (λ d. d.name == n) (remove cs at) k no_class (omega arith)
          (eq-eqb _ _ (ap (λ c. c.name) (get_or-remove_below cs at no_class k before within) ∙ is))
      | inr behind ↦ list_any_at (λ d. d.name == n) (remove cs at) (k - 1) no_class (omega arith)
          (let e : k - 1 + 1 ≡ k = omega arith in
          eq-eqb _ _ (ap (λ c. c.name) (get_or-remove_above cs at no_class (k - 1) (omega arith) within) ∙ ap (λ z. (slice_index_or cs z no_class).name) e ∙ is))
    ]
