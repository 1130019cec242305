-- Part of a list turned by one place.
use Rattle.std.proofs.Common.{◌≡◌, ℕ, zero, suc, refl, ◌+◌, ◌-◌, ◌<◌, ◌≤◌, ◌∙◌, inl, inr, List, [], ◌∷◌, ◌++◌, length, take, drop, get_or, sym, ap, arith}
use Rattle.std.specs.List.{insert, remove}
use Rattle.std.proofs.lemmas.Bool.{cases_lt, cases_order}
use Rattle.std.proofs.lemmas.List.{ext_get_or, places, append-nil, length-append}
use Rattle.std.proofs.Math.Seq.{get_or-append_seam}
use Rattle.std.proofs.lemmas.List.Edits.{length-remove, length-insert, remove-append_right, get_or-remove_below, get_or-remove_above, get_or-insert_below, get_or-insert_at, get_or-insert_above}
use Rattle.patch_stacks.specs.State.{run_down}

unfoldable pub turned : {X : Type 0} → ℕ → ℕ → List X → List X
turned front k cs =
    take front cs ++ ((drop (k - front) (take (k + 1 - front) (drop front cs)) ++ take (k - front) (take (k + 1 - front) (drop front cs))) ++ drop (k + 1 - front) (drop front cs))

pub length-turned : {X : Type 0} (cs : List X) (front k : ℕ) → front ≤ k → k < length cs → length (turned front k cs) ≡ length cs
unfolding turned
length-turned cs front k down within = grind (arith, places)

turned-before : {X : Type 0} (cs : List X) (front k i : ℕ) (d : X) → front ≤ k → k < length cs → i < front → get_or (turned front k cs) i d ≡ get_or cs i d
unfolding turned
turned-before cs front k i d down within h = grind (arith, places)

turned-here : {X : Type 0} (cs : List X) (front k : ℕ) (d : X) → front ≤ k → k < length cs → get_or (turned front k cs) front d ≡ get_or cs k d
unfolding turned
turned-here cs front k d down within = grind (arith, places)

turned-past : {X : Type 0} (cs : List X) (front k i : ℕ) (d : X) → front ≤ k → k < length cs → front < i → i ≤ k → get_or (turned front k cs) i d ≡ get_or cs (i - 1) d
unfolding turned
turned-past cs front k i d down within h to = grind (arith, places)

pub turned-behind : {X : Type 0} (cs : List X) (front k i : ℕ) (d : X) → front ≤ k → k < length cs → k < i → get_or (turned front k cs) i d ≡ get_or cs i d
unfolding turned
turned-behind cs front k i d down within h = grind (arith, places)

-- the element at k goes to front, and those that it passes one place up
pub turned-moves : {X : Type 0} (cs : List X) (front k : ℕ) (d : X) → front ≤ k → k < length cs → turned front k cs ≡ insert (remove cs k) front (get_or cs k d)
turned-moves cs front k d down within =
    let l = length-remove cs k within in
    let m : length (insert (remove cs k) front (get_or cs k d)) ≡ length cs = length-insert (remove cs k) front (get_or cs k d) (omega arith) ∙ l in
    ext_get_or d _ _ (length-turned cs front k down within ∙ sym m) (λ i h. elim (cases_order i front) [
      | inl e ↦ ap (λ n. get_or (turned front k cs) n d) e ∙ turned-here cs front k d down within
          ∙ sym (ap (λ n. get_or (insert (remove cs k) front (get_or cs k d)) n d) e ∙ get_or-insert_at (remove cs k) front (get_or cs k d) d (omega arith))
      | inr o ↦ elim o [
        | inl before ↦ turned-before cs front k i d down within before
            ∙ sym (get_or-insert_below (remove cs k) front (get_or cs k d) d i before (omega arith) ∙ get_or-remove_below cs k d i (omega arith) within)
        | inr behind ↦
            let e : i ≡ i - 1 + 1 = omega arith in
            let there : get_or (insert (remove cs k) front (get_or cs k d)) i d ≡ get_or (remove cs k) (i - 1) d =
            ap (λ n. get_or (insert (remove cs k) front (get_or cs k d)) n d) e ∙ get_or-insert_above (remove cs k) front (get_or cs k d) d (i - 1) (omega arith) (omega arith) in
            elim (cases_lt k i) [
              | inl past ↦ turned-behind cs front k i d down within past
                  ∙ sym (there ∙ get_or-remove_above cs k d (i - 1) (omega arith) within ∙ ap (λ n. get_or cs n d) (sym e))
              | inr upto ↦ turned-past cs front k i d down within behind upto ∙ sym (there ∙ get_or-remove_below cs k d (i - 1) (omega arith) within)
            ]
      ]
    ])

-- what was moved to the end is taken out
pub turned_out : {X : Type 0} (cs turned : List X) (at last : ℕ) (x : X) → at < length cs → length cs ≡ last + 1 → turned ≡ remove cs at ++ x ∷ [] → remove turned last ≡ remove cs at
turned_out cs turned at last x within long is =
    let n : length (remove cs at) ≡ last = omega (arith, length-remove cs at within) in
    let none : remove (x ∷ []) (last - last) ≡ [] = ap (remove (x ∷ [])) (let z : last - last ≡ 0 = omega arith in z) in
    ap (λ ds. remove ds last) is ∙ remove-append_right (remove cs at) (x ∷ []) last last n (omega arith) ∙ ap (λ ds. remove cs at ++ ds) none ∙ append-nil (remove cs at)

pub turned_last : {X : Type 0} (cs turned : List X) (at last : ℕ) (x d : X) → at < length cs → length cs ≡ last + 1 → turned ≡ remove cs at ++ x ∷ [] → get_or turned last d ≡ x
turned_last cs turned at last x d within long is =
    let n : length (remove cs at) ≡ last = omega (arith, length-remove cs at within) in
    ap (λ ds. get_or ds last d) is ∙ ap (λ m. get_or (remove cs at ++ x ∷ []) m d) (sym n) ∙ get_or-append_seam (remove cs at) x [] d

pub length-turned_up : {X : Type 0} (cs : List X) (at : ℕ) (x : X) → at < length cs → length (remove cs at ++ x ∷ []) ≡ length cs
length-turned_up cs at x within = let l = length-remove cs at within in let m = length-append (remove cs at) (x ∷ []) in omega arith

-- A run of elements moved down, one after the other.

pub length-run_down : {X : Type 0} (d : X) (xs : List X) (front k m : ℕ) → front ≤ k → k + m ≤ length xs → length (run_down d xs front k m) ≡ length xs
unfolding run_down
length-run_down d xs front k zero down within = refl
length-run_down d xs front k (suc m) down within =
    let ys = run_down d xs front k m in
    let l : length (run_down d xs front k m) ≡ length xs = length-run_down d xs front k m down (omega arith) in
    let w : k + m < length (run_down d xs front k m) = omega arith in
    let r = length-remove (run_down d xs front k m) (k + m) w in
    length-insert (remove (run_down d xs front k m) (k + m)) (front + m) (get_or (run_down d xs front k m) (k + m) d) (omega arith) ∙ r ∙ l

one-moved : {X : Type 0} (d : X) (ys : List X) (front k i : ℕ) → front ≤ k → k < length ys → get_or (insert (remove ys k) front (get_or ys k d)) i d ≡ get_or (turned front k ys) i d
one-moved d ys front k i down within = ap (λ zs. get_or zs i d) (sym (turned-moves ys front k d down within))

pub run_down-before : {X : Type 0} (d : X) (xs : List X) (front k m i : ℕ) → front ≤ k → k + m ≤ length xs → i < front → get_or (run_down d xs front k m) i d ≡ get_or xs i d
unfolding run_down
run_down-before d xs front k zero i down within before = refl
run_down-before d xs front k (suc m) i down within before =
    let l : length (run_down d xs front k m) ≡ length xs = length-run_down d xs front k m down (omega arith) in
    let w : k + m < length (run_down d xs front k m) = omega arith in
    one-moved d (run_down d xs front k m) (front + m) (k + m) i (omega arith) w ∙ turned-before (run_down d xs front k m) (front + m) (k + m) i d (omega arith) w (omega arith)
    ∙ run_down-before d xs front k m i down (omega arith) before

pub run_down-behind : {X : Type 0} (d : X) (xs : List X) (front k m i : ℕ) → front ≤ k → k + m ≤ length xs → k + m ≤ i → get_or (run_down d xs front k m) i d ≡ get_or xs i d
unfolding run_down
run_down-behind d xs front k zero i down within behind = refl
run_down-behind d xs front k (suc m) i down within behind =
    let l : length (run_down d xs front k m) ≡ length xs = length-run_down d xs front k m down (omega arith) in
    let w : k + m < length (run_down d xs front k m) = omega arith in
    one-moved d (run_down d xs front k m) (front + m) (k + m) i (omega arith) w ∙ turned-behind (run_down d xs front k m) (front + m) (k + m) i d (omega arith) w (omega arith)
    ∙ run_down-behind d xs front k m i down (omega arith) (omega arith)

-- what was passed stands higher by the run's length
pub run_down-past : {X : Type 0} (d : X) (xs : List X) (front k m i : ℕ) → front ≤ k → k + m ≤ length xs → front + m ≤ i → i < k + m → get_or (run_down d xs front k m) i d ≡ get_or xs (i - m) d
unfolding run_down
run_down-past d xs front k zero i down within from to = ap (λ n. get_or xs n d) (let e : i ≡ i - 0 = omega arith in e)
run_down-past d xs front k (suc m) i down within from to =
    let l : length (run_down d xs front k m) ≡ length xs = length-run_down d xs front k m down (omega arith) in
    let w : k + m < length (run_down d xs front k m) = omega arith in
    one-moved d (run_down d xs front k m) (front + m) (k + m) i (omega arith) w ∙ turned-past (run_down d xs front k m) (front + m) (k + m) i d (omega arith) w (omega arith) (omega arith)
    ∙ run_down-past d xs front k m (i - 1) down (omega arith) (omega arith) (omega arith) ∙ ap (λ n. get_or xs n d) (let e : i - 1 - m ≡ i - suc m = omega arith in e)

-- and the run lower by so many as it passed
pub run_down-here : {X : Type 0} (d : X) (xs : List X) (front k m i : ℕ) → front ≤ k → k + m ≤ length xs → front ≤ i → i < front + m → get_or (run_down d xs front k m) i d ≡ get_or xs (i + (k - front)) d
unfolding run_down
run_down-here d xs front k zero i down within from to = absurd (omega arith)
run_down-here d xs front k (suc m) i down within from to =
    let l : length (run_down d xs front k m) ≡ length xs = length-run_down d xs front k m down (omega arith) in
    let w : k + m < length (run_down d xs front k m) = omega arith in
    one-moved d (run_down d xs front k m) (front + m) (k + m) i (omega arith) w ∙ elim (cases_lt i (front + m)) [
      | inl before ↦ turned-before (run_down d xs front k m) (front + m) (k + m) i d (omega arith) w before ∙ run_down-here d xs front k m i down (omega arith) from before
      | inr last ↦
          let e : i ≡ front + m = omega arith in
          ap (λ n. get_or (turned (front + m) (k + m) (run_down d xs front k m)) n d) e ∙ turned-here (run_down d xs front k m) (front + m) (k + m) d (omega arith) w
          ∙ run_down-behind d xs front k m (k + m) down (omega arith) (omega arith) ∙ ap (λ n. get_or xs n d) (let f : k + m ≡ i + (k - front) = omega arith in f)
    ]

-- The same by one turn of the part.

unfoldable pub rotated : {X : Type 0} → ℕ → ℕ → ℕ → List X → List X
rotated front k stop xs =
    take front xs ++ ((drop (k - front) (take (stop - front) (drop front xs)) ++ take (k - front) (take (stop - front) (drop front xs))) ++ drop (stop - front) (drop front xs))

length-rotated : {X : Type 0} (xs : List X) (front k stop : ℕ) → front ≤ k → k ≤ stop → stop ≤ length xs → length (rotated front k stop xs) ≡ length xs
unfolding rotated
length-rotated xs front k stop down up within = grind (arith, places)

rotated-before : {X : Type 0} (xs : List X) (front k stop i : ℕ) (d : X) → front ≤ k → k ≤ stop → stop ≤ length xs → i < front → get_or (rotated front k stop xs) i d ≡ get_or xs i d
unfolding rotated
rotated-before xs front k stop i d down up within h = grind (arith, places)

rotated-here : {X : Type 0} (xs : List X) (front k stop i : ℕ) (d : X) → front ≤ k → k ≤ stop → stop ≤ length xs → front ≤ i → i < front + (stop - k)
    → get_or (rotated front k stop xs) i d ≡ get_or xs (i + (k - front)) d
unfolding rotated
rotated-here xs front k stop i d down up within h to = grind (arith, places)

rotated-past : {X : Type 0} (xs : List X) (front k stop i : ℕ) (d : X) → front ≤ k → k ≤ stop → stop ≤ length xs → front + (stop - k) ≤ i → i < stop
    → get_or (rotated front k stop xs) i d ≡ get_or xs (i - (stop - k)) d
unfolding rotated
rotated-past xs front k stop i d down up within h to = grind (arith, places)

rotated-behind : {X : Type 0} (xs : List X) (front k stop i : ℕ) (d : X) → front ≤ k → k ≤ stop → stop ≤ length xs → stop ≤ i → get_or (rotated front k stop xs) i d ≡ get_or xs i d
unfolding rotated
rotated-behind xs front k stop i d down up within h = grind (arith, places)

pub run_down-by_turn : {X : Type 0} (xs part : List X) (front k stop : ℕ) (d : X) → front ≤ k → k ≤ stop → stop ≤ length xs
    → part ≡ drop (k - front) (take (stop - front) (drop front xs)) ++ take (k - front) (take (stop - front) (drop front xs))
    → take front xs ++ (part ++ drop (stop - front) (drop front xs)) ≡ run_down d xs front k (stop - k)
unfolding rotated
run_down-by_turn xs part front k stop d down up within is =
    let upto : k + (stop - k) ≡ stop = omega arith in
    let fits : k + (stop - k) ≤ length xs = omega arith in
    let l = length-rotated xs front k stop down up within in
    let n = length-run_down d xs front k (stop - k) down fits in
    ap (λ p. take front xs ++ (p ++ drop (stop - front) (drop front xs))) is
    ∙ ext_get_or d (rotated front k stop xs) (run_down d xs front k (stop - k)) (l ∙ sym n) (λ i h. elim (cases_lt i front) [
      | inl before ↦ rotated-before xs front k stop i d down up within before ∙ sym (run_down-before d xs front k (stop - k) i down fits before)
      | inr from ↦ elim (cases_lt i (front + (stop - k))) [
        | inl here ↦ rotated-here xs front k stop i d down up within from here ∙ sym (run_down-here d xs front k (stop - k) i down fits from here)
        | inr past ↦ elim (cases_lt i stop) [
          | inl to ↦ rotated-past xs front k stop i d down up within past to ∙ sym (run_down-past d xs front k (stop - k) i down fits past (omega arith))
          | inr behind ↦ rotated-behind xs front k stop i d down up within behind ∙ sym (run_down-behind d xs front k (stop - k) i down fits (omega arith))
        ]
      ]
    ])
