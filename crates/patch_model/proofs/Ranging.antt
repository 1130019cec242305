-- Numbers in a row.
use Rattle.std.proofs.Common.{◌≡◌, ℕ, zero, suc, ◌+◌, ◌-◌, ◌≤◌, ◌∙◌, inl, inr, List, [], ◌∷◌, ◌++◌, sym, ap, arith, append_assoc, append-nil}
use Rattle.std.specs.Prelude.{min}
use Rattle.std.specs.List.{range_with_len}
use Rattle.std.proofs.lemmas.Bool.{cases_lt}
use Rattle.patch_model.specs.declared.runs.Run.{Run}
use Rattle.patch_model.specs.Runs.{numbers_of, numbers_in}

range-more : (first n : ℕ) → range_with_len first (n + 1) ≡ range_with_len first n ++ (first + n) ∷ []
range-more first zero = let e : first ≡ first + 0 = omega arith in ap (λ k. k ∷ []) e
range-more first (suc n) =
    let e : suc n + 1 ≡ suc (n + 1) = omega arith in
    let f : first + 1 + n ≡ first + suc n = omega arith in
    ap (range_with_len first) e ∙ ap (λ xs. first ∷ xs) (range-more (first + 1) n) ∙ ap (λ k. first ∷ (range_with_len (first + 1) n ++ k ∷ [])) f

-- one number more behind those that end before it
pub range_next : (first at : ℕ) → first ≤ at → range_with_len first (at + 1 - first) ≡ range_with_len first (at - first) ++ at ∷ []
range_next first at le =
    let a : at + 1 - first ≡ (at - first) + 1 = omega arith in
    let b : first + (at - first) ≡ at = omega arith in
    ap (range_with_len first) a ∙ range-more first (at - first) ∙ ap (λ k. range_with_len first (at - first) ++ k ∷ []) b

-- all numbers of a run, from the least on
pub numbers_of-least : (r : Run) → range_with_len (min r.first r.last) (r.last + 1 - min r.first r.last) ≡ numbers_of r
numbers_of-least r = elim (cases_lt r.last r.first) [
  | inl back ↦
      let least : min r.first r.last ≡ r.last = omega (arith, back) in
      let one : r.last + 1 - r.last ≡ 1 = omega arith in
      let none : r.last - r.first ≡ 0 = omega (arith, back) in
      ap (λ k. range_with_len k (r.last + 1 - k)) least ∙ ap (range_with_len r.last) one ∙ sym (ap (λ k. range_with_len r.first k ++ r.last ∷ []) none)
  | inr up ↦
      let least : min r.first r.last ≡ r.first = omega (arith, up) in
      ap (λ k. range_with_len k (r.last + 1 - k)) least ∙ range_next r.first r.last up
]

-- one run more
pub numbers_in-push : (runs : List Run) (r : Run) → numbers_in (runs ++ r ∷ []) ≡ numbers_in runs ++ numbers_of r
numbers_in-push [] r = append-nil (numbers_of r)
numbers_in-push (x ∷ xs) r = ap (λ ns. numbers_of x ++ ns) (numbers_in-push xs r) ∙ sym (append_assoc (numbers_of x) (numbers_in xs) (numbers_of r))
