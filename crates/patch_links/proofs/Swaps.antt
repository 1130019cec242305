-- Keys that change places in a list.
use Rattle.std.proofs.Common.{◌≡◌, ℕ, zero, suc, ◌+◌, ◌<◌, ◌≤◌, ◌∙◌, inl, inr, Bool, true, List, [], ◌∷◌, ◌++◌, length, refl, sym, ap, arith, take, drop}
use Rattle.std.specs.Prelude.{◌==◌, filter, slice_set, slice_index_or}
use Rattle.std.specs.List.{swap}
use Rattle.std.proofs.lemmas.Bool.{cases_eq}
use Rattle.std.proofs.lemmas.List.{length-set, take_more, take-set, drop-set, drop-set-lt}
use Rattle.std.proofs.lemmas.List.Edits.{swap_is, length-swap}
use Rattle.patch_model.specs.Member.{In}
use Rattle.patch_links.specs.Lists.{OfBlock, times, once}
use Rattle.patch_links.specs.Leaving.{HasLeft}
use Rattle.patch_links.proofs.Counts.{count-cons, count-last}

-- how often a key stands among the first ones, once another one was put in the place of one of them
times-set : (xs : List ℕ) (p n v k : ℕ) → p < n → n ≤ length xs → times (take n (slice_set xs p v)) k + once (slice_index_or xs p 0 == k) ≡ times (take n xs) k + once (v == k)
times-set [] p n v k h low = absurd (omega arith)
times-set (x ∷ xs) zero zero v k h low = absurd (omega arith)
times-set (x ∷ xs) (suc p) zero v k h low = absurd (omega arith)
times-set (x ∷ xs) zero (suc n) v k h low =
    let a = count-cons (λ j. j == k) v (take n xs) in
    let b = count-cons (λ j. j == k) x (take n xs) in omega arith
times-set (x ∷ xs) (suc p) (suc n) v k h low =
    let a = count-cons (λ j. j == k) x (take n (slice_set xs p v)) in
    let b = count-cons (λ j. j == k) x (take n xs) in
    let r = times-set xs p n v k (omega arith) (omega arith) in omega arith

module _ (xs : List ℕ) (place last key : ℕ) (before : place ≤ last) (low : last < length xs) (at : slice_index_or xs place 0 ≡ key) where
  abbrev put : List ℕ
  put = slice_set xs place (slice_index_or xs last 0)

  swapped : swap xs place last ≡ slice_set put last key
  swapped = sym (swap_is xs place last 0 (omega arith) low) ∙ ap (slice_set put last) at

  swapped-ahead : (k : ℕ) → times (take last (swap xs place last)) k + once (key == k) ≡ times (take (last + 1) xs) k
  swapped-ahead k =
      let a : times (take last (swap xs place last)) k ≡ times (take last put) k = ap (λ ys. times (take last ys) k) swapped ∙ ap (λ ys. times ys k) (take-set put last key) in
      let b : times (take (last + 1) xs) k ≡ times (take last xs) k + once (slice_index_or xs last 0 == k) =
      ap (λ ys. times ys k) (take_more xs last 0 low) ∙ count-last (λ j. j == k) (take last xs) (slice_index_or xs last 0) in
      elim (cases_eq place last) [
        | inl e ↦
            let same : times (take last put) k ≡ times (take last xs) k = ap (λ ys. times ys k) (ap (λ i. take last (slice_set xs i (slice_index_or xs last 0))) e ∙ take-set xs last (slice_index_or xs last 0)) in
            let there : once (slice_index_or xs last 0 == k) ≡ once (key == k) = ap (λ i. once (slice_index_or xs i 0 == k)) (sym e) ∙ ap (λ j. once (j == k)) at in omega arith
        | inr d ↦
            let c = times-set xs place last (slice_index_or xs last 0) k (omega arith) (omega arith) in
            let there : once (slice_index_or xs place 0 == k) ≡ once (key == k) = ap (λ j. once (j == k)) at in omega arith
      ]

  swapped-behind : drop last (swap xs place last) ≡ key ∷ drop (last + 1) xs
  swapped-behind =
      let long : length put ≡ length xs = length-set xs place (slice_index_or xs last 0) in
      ap (drop last) swapped ∙ drop-set put last key (omega arith) ∙ ap (λ ys. key ∷ ys) (drop-set-lt (last + 1) xs place (slice_index_or xs last 0) (omega arith))

-- the key of a class that leaves the ready set has changed places with the last one there
pub left-swapped : (of now : OfBlock) (place last key : ℕ) → place < of.done → of.done ≤ length of.ready → slice_index_or of.ready place 0 ≡ key → last + 1 ≡ of.done
    → now.ready ≡ swap of.ready place last → now ≡ record of { ready = now.ready; done = last } → HasLeft of now key
left-swapped of now place last key before within at next is rest =
    let d : now.done ≡ last = ap (λ o. o.done) rest in
    record {
      done = ap (λ n. n + 1) d ∙ next;
      ahead = λ k. ap (λ n. times (take n now.ready) k + once (key == k)) d ∙ ap (λ xs. times (take last xs) k + once (key == k)) is
          ∙ swapped-ahead of.ready place last key (omega arith) (omega arith) at k ∙ ap (λ n. times (take n of.ready) k) next;
      behind = ap (λ n. drop n now.ready) d ∙ ap (drop last) is ∙ swapped-behind of.ready place last key (omega arith) (omega arith) at ∙ ap (λ n. key ∷ drop n of.ready) next;
      long = ap length is ∙ length-swap of.ready place last;
      rest = rest ∙ ap (λ n. record of { ready = now.ready; done = n }) (sym d);
    }

-- those behind the first ones are filtered, where the first ones pass
pub filter-behind : (p : ℕ → Bool) (xs : List ℕ) (n : ℕ) → ((k : ℕ) → In (take n xs) k → p k ≡ true) → take n xs ++ filter p (drop n xs) ≡ filter p xs
filter-behind p [] zero f = refl
filter-behind p [] (suc n) f = refl
filter-behind p (x ∷ xs) zero f = refl
filter-behind p (x ∷ xs) (suc n) f = let u : p x ≡ true = f x (inl refl) in rw u (ap (λ ys. x ∷ ys) (filter-behind p xs n (λ k i. f k (inr i))))
