-- Sums and counts over the extents of a shelf, one extent more.
use Rattle.std.proofs.Common.{◌≡◌, ℕ, suc, ◌+◌, ◌∙◌, Bool, true, false, [], ◌∷◌, ◌++◌, length, refl, ap, arith}
use Rattle.std.specs.Prelude.{filter, sum_by}
use Rattle.std.specs.List.{range_with_len}
use Rattle.std.proofs.lemmas.List.{length-append}
use Rattle.std.proofs.lemmas.List.Sums.{sum_by-append}
use Rattle.std.proofs.lemmas.List.Elements.{filter-append}
use Rattle.patch_store.proofs.Reported.{range_more}

range_next : (n : ℕ) → range_with_len 0 (n + 1) ≡ range_with_len 0 n ++ n ∷ []
range_next n =
    let e : n + 1 ≡ suc n = omega arith in
    ap (range_with_len 0) e ∙ range_more 0 n ∙ ap (λ k. range_with_len 0 n ++ k ∷ []) (let z : 0 + n ≡ n = omega arith in z)

pub more_live : (f : ℕ → ℕ) (n : ℕ) → sum_by f (range_with_len 0 (n + 1)) ≡ sum_by f (range_with_len 0 n) + f n
more_live f n =
    let one : sum_by f (n ∷ []) ≡ f n = (let z : 0 + f n ≡ f n = omega arith in z) in
    ap (sum_by f) (range_next n) ∙ sum_by-append f (range_with_len 0 n) (n ∷ []) ∙ ap (λ k. sum_by f (range_with_len 0 n) + k) one

more_passing : (test : ℕ → Bool) (n : ℕ)
    → length (filter test (range_with_len 0 (n + 1))) ≡ length (filter test (range_with_len 0 n)) + length (filter test (n ∷ []))
more_passing test n =
    ap (λ xs. length (filter test xs)) (range_next n) ∙ ap length (filter-append test (range_with_len 0 n) (n ∷ []))
    ∙ length-append (filter test (range_with_len 0 n)) (filter test (n ∷ []))

pub one_passes : (test : ℕ → Bool) (n : ℕ) → test n ≡ true
    → length (filter test (range_with_len 0 (n + 1))) ≡ length (filter test (range_with_len 0 n)) + 1
one_passes test n passes = more_passing test n ∙ ap (λ k. length (filter test (range_with_len 0 n)) + k) (rw passes refl)

pub none_passes : (test : ℕ → Bool) (n : ℕ) → test n ≡ false
    → length (filter test (range_with_len 0 (n + 1))) ≡ length (filter test (range_with_len 0 n))
none_passes test n fails =
    let same : length (filter test (n ∷ [])) ≡ 0 = rw fails refl in
    let more = more_passing test n in
    omega (arith, more, same)
