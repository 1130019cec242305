-- What vectors make of sixty-four bytes: their digits.
use Rattle.std.proofs.Common.{◌≡◌, ◌∙◌, ◌+◌, ◌-◌, ◌/◌, ◌%◌, ◌^◌, ◌<◌, ◌≤◌, ◌==◌, ◌&&◌, Bool, true, zero, suc, List, ℕ, [], ◌∷◌, ◌++◌, length, take, drop, map, slice_index, get_or, bit_and, length-drop, inl, inr, ap, sym, refl, arith, eqb-true}
use Rattle.std.proofs.Math.Bool.{cond}
use Rattle.std.proofs.Math.Dec.{ltb}
use Rattle.std.proofs.lemmas.Bool.{and_parts, cases_lt}
use Rattle.std.proofs.lemmas.List.{length-map, drop_more, get_or_append_left, get_or-append_right, get_or-map, take_all, take-append-drop}
use Rattle.std.proofs.lemmas.Nat.{and_mask}
use Rattle.std.proofs.lemmas.Simd.{zip2_splat, map-map}
use Rattle.std.specs.Prelude.{replicate}
use Rattle.std.specs.Simd.Lanes.{Each1, zip2, sel_l, top, pick_l}
use Rattle.hex.specs.Hex.{encode_lower, encode_with, lower_digits}
use Rattle.patch_script.proofs.Blocks.{encode_with-append}

-- ---- the digits of numbers below 16

-- the digit of a number, as each lane finds it
abbrev lane : ℕ → ℕ
lane n = ((n + 48) % 2 ^ 8 + cond (top 7 (cond (ltb 9 n) 255 0)) 39 0) % 2 ^ 8

-- the test of the numbers below n
abbrev all_told : ℕ → Bool
all_told zero = true
all_told (suc n) = (lane n == slice_index lower_digits n) && all_told n

all_told-at : (n k : ℕ) → all_told n ≡ true → k < n → lane k ≡ slice_index lower_digits k
all_told-at zero k h lt = absurd (omega arith)
all_told-at (suc n) k h lt =
    let parts = and_parts (lane n == slice_index lower_digits n) (all_told n) h in
    elim (cases_lt k n) [
      | inl below ↦ all_told-at n k parts.1 below
      | inr last ↦
          let e : k ≡ n = omega arith in
          rw e (eqb-true (lane n) (slice_index lower_digits n) parts.0)
    ]

-- the lanes of n numbers
abbrev lanes : ℕ → List ℕ → List ℕ
lanes n xs =
    zip2 (λ a b. (a + b) % 2 ^ 8) (zip2 (λ a b. (a + b) % 2 ^ 8) xs (replicate n 48))
    (sel_l (map (top 7) (zip2 (λ a b. cond (ltb a b) 255 0) (replicate n 9) xs)) (replicate n 39) (replicate n 0))

lanes_whole : (xs : List ℕ) → Each1 (λ n. n < 16) xs → lanes (length xs) xs ≡ map (λ n. slice_index lower_digits n) xs
lanes_whole [] h = refl
lanes_whole (x ∷ xs) h =
    ap (λ d. d ∷ lanes (length xs) xs) (all_told-at 16 x refl h.0)
    ∙ ap (λ t. slice_index lower_digits x ∷ t) (lanes_whole xs h.1)

pub told : (n : ℕ) (xs : List ℕ) → length xs ≡ n → Each1 (λ n. n < 16) xs → lanes n xs ≡ map (λ n. slice_index lower_digits n) xs
told n xs e h = ap (λ k. lanes k xs) (sym e) ∙ lanes_whole xs h

-- ---- the four high bits of each byte, and the four low ones

abbrev high_bits : ℕ → List ℕ → List ℕ
high_bits n xs = zip2 (λ a b. a / 2 ^ b) xs (replicate n 4)

abbrev low_bits : ℕ → List ℕ → List ℕ
low_bits n xs = zip2 (λ a b. bit_and a b) xs (replicate n 15)

each_high : (xs : List ℕ) → Each1 (λ x. x < 256) xs → Each1 (λ x. x < 16) (map (λ x. x / 2 ^ 4) xs)
each_high [] h = h
each_high (x ∷ xs) h = (omega (arith, h.0), each_high xs h.1)

each_low : (xs : List ℕ) → Each1 (λ x. x < 16) (map (λ x. bit_and x 15) xs)
each_low [] = tt
each_low (x ∷ xs) = (rw (and_mask x 4) (omega arith), each_low xs)

pub high_small : (n : ℕ) (xs : List ℕ) → length xs ≡ n → Each1 (λ x. x < 256) xs → Each1 (λ x. x < 16) (high_bits n xs)
high_small n xs e h = rw (zip2_splat (λ a b. a / 2 ^ b) xs n 4 e) (each_high xs h)

pub low_small : (n : ℕ) (xs : List ℕ) → length xs ≡ n → Each1 (λ x. x < 16) (low_bits n xs)
low_small n xs e = rw (zip2_splat (λ a b. bit_and a b) xs n 15 e) (each_low xs)

-- ---- the digits of the high bits and of the low ones, in turns

-- in two lists of w items, one behind the other: n places from i on in each, in turns
abbrev places : ℕ → ℕ → ℕ → List ℕ
places w i zero = []
places w i (suc n) = i ∷ (w + i) ∷ places w (i + 1) n

-- the digits of the high bits, and behind them those of the low ones
abbrev both : List ℕ → List ℕ → List ℕ
both t xs = map (λ b. slice_index t (b / 16)) xs ++ map (λ b. slice_index t (b % 16)) xs

both_in_turns : (t xs : List ℕ) (i n : ℕ) → i + n ≤ length xs
    → pick_l 0 (both t xs) (places (length xs) i n) ≡ encode_with t (take n (drop i xs))
unfolding encode_with
both_in_turns t xs i zero h = refl
both_in_turns t xs i (suc n) h =
    let below : i < length xs = omega arith in
    let high_at = λ (b : ℕ). slice_index t (b / 16) in
    let low_at = λ (b : ℕ). slice_index t (b % 16) in
    let long = length-map xs high_at in
    let high : get_or (both t xs) i 0 ≡ high_at (get_or xs i 0) =
    get_or_append_left (map high_at xs) (map low_at xs) 0 i (omega (arith, long)) ∙ get_or-map high_at xs i 0 0 below in
    let back : length xs + i - length xs ≡ i = omega arith in
    let low : get_or (both t xs) (length xs + i) 0 ≡ low_at (get_or xs i 0) =
    get_or-append_right (map high_at xs) (map low_at xs) (length xs) (length xs + i) 0 long (omega arith)
    ∙ ap (λ k. get_or (map low_at xs) k 0) back ∙ get_or-map low_at xs i 0 0 below in
    let rest = both_in_turns t xs (i + 1) n (omega arith) in
    rw (drop_more xs i 0 below, high, low, rest) refl

-- the same, where the two lists are of w items each
in_turns : (v xs : List ℕ) (w i n : ℕ) → length xs ≡ w → i + n ≤ w → v ≡ both lower_digits xs
    → pick_l 0 v (places w i n) ≡ encode_lower (take n (drop i xs))
in_turns v xs w i n e fits is =
    ap (λ u. pick_l 0 u (places w i n)) is ∙ ap (λ k. pick_l 0 (both lower_digits xs) (places k i n)) (sym e)
    ∙ both_in_turns lower_digits xs i n (omega arith)

digits_of_both : (xs high low : List ℕ) (n : ℕ) → length xs ≡ n
    → high ≡ map (λ k. slice_index lower_digits k) (high_bits n xs)
    → low ≡ map (λ k. slice_index lower_digits k) (low_bits n xs) → high ++ low ≡ both lower_digits xs
digits_of_both xs high low n e eh el =
    let digit = λ (k : ℕ). slice_index lower_digits k in
    let highs : high ≡ map (λ b. digit (b / 16)) xs =
    eh ∙ ap (λ t. map digit t) (zip2_splat (λ a b. a / 2 ^ b) xs n 4 e) ∙ map-map digit (λ x. x / 2 ^ 4) xs in
    let masks : (λ (x : ℕ). bit_and x 15) ≡ (λ (x : ℕ). x % 16) = λ i x. and_mask x 4 i in
    let lows : low ≡ map (λ b. digit (b % 16)) xs =
    el ∙ ap (λ t. map digit t) (zip2_splat (λ a b. bit_and a b) xs n 15 e)
    ∙ ap (λ (f : ℕ → ℕ). map digit (map f xs)) masks ∙ map-map digit (λ x. x % 16) xs in
    ap (λ u. u ++ low) highs ∙ ap (λ u. map (λ b. digit (b / 16)) xs ++ u) lows

-- the digits of the first thirty-two bytes, and of the others
pub halves_told : (xs high low : List ℕ) → length xs ≡ 64
    → high ≡ map (λ n. slice_index lower_digits n) (high_bits 64 xs)
    → low ≡ map (λ n. slice_index lower_digits n) (low_bits 64 xs)
    → pick_l 0 (high ++ low) (places 64 0 32) ++ pick_l 0 (high ++ low) (places 64 32 32) ≡ encode_lower xs
halves_told xs high low e eh el =
    let is = digits_of_both xs high low 64 e eh el in
    let rest : take 32 (drop 32 xs) ≡ drop 32 xs = take_all 32 (drop 32 xs) (omega (arith, length-drop 32 xs, e)) in
    ap (λ u. u ++ pick_l 0 (high ++ low) (places 64 32 32)) (in_turns (high ++ low) xs 64 0 32 e (omega arith) is)
    ∙ ap (λ u. encode_lower (take 32 xs) ++ u) (in_turns (high ++ low) xs 64 32 32 e (omega arith) is)
    ∙ ap (λ u. encode_lower (take 32 xs) ++ encode_lower u) rest
    ∙ sym (encode_with-append lower_digits (take 32 xs) (drop 32 xs)) ∙ ap (λ t. encode_lower t) (take-append-drop 32 xs)
