-- An order is the only one of its slots; a part of one.
use Rattle.std.proofs.Common.{◌≡◌, ℕ, suc, ◌+◌, ◌<◌, ◌≤◌, ◌∙◌, inl, inr, true, false, List, [], ◌∷◌, length, get_or, refl, sym, ap, arith}
use Rattle.std.specs.Prelude.{◌==◌, ◌||◌}
use Rattle.std.specs.List.{between}
use Rattle.std.proofs.lemmas.Bool.{cases_Bool}
use Rattle.std.proofs.lemmas.List.Edits.{length-between, get_or-between}
use Rattle.std.proofs.lemmas.List.Folds.{Any-from_list_any, list_any_none}
use Rattle.patch_index.specs.Orders.{comes_before, ranked, holds, Rises}
use Rattle.patch_index.proofs.Ranked.{Before, apart, alike, one_self, back, goes_on, never_before_itself}

not_again : (rank : ℕ → List ℕ) (x : ℕ) (xs : List ℕ) → Rises rank (x ∷ xs) → holds xs x ≡ false
not_again rank x xs up =
    list_any_none (λ z. z == x) xs (λ k d less. back x (get_or xs k d) (apart rank (x ∷ xs) up 0 (suc k) d (omega arith) (omega (arith, less))))

later_in : (rank : ℕ → List ℕ) (y : ℕ) (ys : List ℕ) (x : ℕ) → Rises rank (y ∷ ys) → holds ys x ≡ true → Before rank y x
later_in rank y ys x up is =
    let some = Any-from_list_any (λ z. z == x) ys is in
    let less = some.2 in
    ap (λ z. comes_before (ranked rank y) (ranked rank z)) (sym (some.3 ∙ alike some.1 x some.4)) ∙ up 0 (suc some.0) some.1 (omega arith) (omega (arith, less))

tail_rises : (rank : ℕ → List ℕ) (x : ℕ) (xs : List ℕ) → Rises rank (x ∷ xs) → Rises rank xs
tail_rises rank x xs up i j d less within = up (suc i) (suc j) d (omega (arith, less)) (omega (arith, within))

pub alone : (rank : ℕ → List ℕ) (xs ys : List ℕ) → Rises rank xs → Rises rank ys → ((n : ℕ) → holds xs n ≡ holds ys n) → xs ≡ ys
alone rank [] [] up vp same = refl
alone rank [] (y ∷ ys) up vp same = let g : false ≡ true = same y ∙ ap (λ b. b || holds ys y) (one_self y) in absurd (cc)
alone rank (x ∷ xs) [] up vp same = let g : false ≡ true = sym (same x) ∙ ap (λ b. b || holds xs x) (one_self x) in absurd (cc)
alone rank (x ∷ xs) (y ∷ ys) up vp same = elim (cases_Bool (x == y)) [
  | inl one ↦
      let e : x ≡ y = alike x y one in
      ap (λ z. z ∷ xs) e
      ∙ ap (λ zs. y ∷ zs) (alone rank xs ys (tail_rises rank x xs up) (tail_rises rank y ys vp) (λ n. elim (cases_Bool (y == n)) [
        | inl here ↦
            let f : n ≡ y = sym (alike y n here) in
            ap (holds xs) (f ∙ sym e) ∙ not_again rank x xs up ∙ sym (ap (holds ys) f ∙ not_again rank y ys vp)
        | inr off ↦
            let off_x : (x == n) ≡ false = ap (λ z. z == n) e ∙ off in
            ap (λ b. b || holds xs n) (sym off_x) ∙ same n ∙ ap (λ b. b || holds ys n) off
      ]))
  | inr off ↦
      let in_ys : holds ys x ≡ true = ap (λ b. b || holds ys x) (sym (back x y off)) ∙ sym (same x) ∙ ap (λ b. b || holds xs x) (one_self x) in
      let in_xs : holds xs y ≡ true = ap (λ b. b || holds xs y) (sym off) ∙ same y ∙ ap (λ b. b || holds ys y) (one_self y) in
      let g : true ≡ false =
      sym (goes_on (ranked rank x) (ranked rank y) (ranked rank x) (later_in rank x xs y up in_xs) (later_in rank y ys x vp in_ys)) ∙ never_before_itself (ranked rank x) in
      absurd (cc)
]

pub part_rises : (rank : ℕ → List ℕ) (xs : List ℕ) (from to : ℕ) → to ≤ length xs → Rises rank xs → Rises rank (between from to xs)
part_rises rank xs from to low up i j d less within =
    let long = length-between xs from to low in
    let high : from + j < to = omega (arith, within, long) in
    let under : from + i < to = omega (arith, high, less) in
    ap (λ z. comes_before (ranked rank z) (ranked rank (get_or (between from to xs) j d))) (get_or-between xs from to i d under)
    ∙ ap (λ z. comes_before (ranked rank (get_or xs (from + i) d)) (ranked rank z)) (get_or-between xs from to j d high)
    ∙ up (from + i) (from + j) d (omega (arith, less)) (omega (arith, high, low))
