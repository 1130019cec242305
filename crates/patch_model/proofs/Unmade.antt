-- Names of patches that weren't made.
use Rattle.std.proofs.Common.{◌≡◌, ◌∙◌, ◌+◌, ◌-◌, ◌<◌, ℕ, zero, suc, List, [], ◌∷◌, inl, inr, false, refl, sym, ap, arith}
use Rattle.std.specs.Prelude.{◌||◌, nat_le}
use Rattle.std.specs.List.{list_any, range_with_len}
use Rattle.std.proofs.lemmas.Bool.{cases_lt, lt-leb, le-leb, or_right}
use Rattle.std.proofs.lemmas.List.Folds.{list_any-append}
use Rattle.patch_model.specs.declared.runs.Run.{Run}
use Rattle.patch_model.specs.Runs.{numbers_of, numbers_in}

none_past : (made a n : ℕ) → ((m : ℕ) → m < n → a + m < made) → list_any (λ m. nat_le made m) (range_with_len a n) ≡ false
none_past made a zero below = refl
none_past made a (suc n) below =
    let first = below 0 (omega arith) in
    rw (lt-leb made a (omega (arith, first))) (none_past made (a + 1) n (λ m l. let next = below (m + 1) (omega (arith, l)) in omega (arith, next)))

-- a run has such a name just where its last number is one
run_past : (made : ℕ) (r : Run) → list_any (λ m. nat_le made m) (numbers_of r) ≡ nat_le made r.last
run_past made r =
    let before : List ℕ = range_with_len r.first (r.last - r.first) in
    let split = list_any-append (λ m. nat_le made m) before (r.last ∷ []) in
    elim (cases_lt r.last made) [
      | inl low ↦ rw (lt-leb made r.last low) (split ∙ ap (λ b. b || (nat_le made r.last || false)) (none_past made r.first (r.last - r.first) (λ m l. omega (arith, l, low))) ∙ ap (λ b. false || (b || false)) (lt-leb made r.last low))
      | inr high ↦ split ∙ or_right _ _ (ap (λ b. b || false) (le-leb made r.last high)) ∙ sym (le-leb made r.last high)
    ]

-- and so have runs just where one of them has it
pub runs_past : (made : ℕ) (runs : List Run) → list_any (λ (r : Run). nat_le made r.last) runs ≡ list_any (λ m. nat_le made m) (numbers_in runs)
runs_past made [] = refl
runs_past made (r ∷ runs) =
    sym (list_any-append (λ m. nat_le made m) (numbers_of r) (numbers_in runs) ∙ ap (λ b. b || list_any (λ m. nat_le made m) (numbers_in runs)) (run_past made r)
    ∙ ap (λ b. nat_le made r.last || b) (sym (runs_past made runs)))
