-- The digits of a part of some bytes, and of what is behind it.
use Rattle.std.proofs.Common.{◌≡◌, ◌∙◌, ◌*◌, ◌/◌, ◌%◌, ◌&&◌, Bool, true, zero, suc, List, ℕ, [], ◌∷◌, ◌++◌, take, drop, slice_index, ap, sym, refl, append_assoc, arith}
use Rattle.std.proofs.lemmas.Bool.{and_parts}
use Rattle.std.proofs.lemmas.Bool.Decides.{nat_tests}
use Rattle.std.proofs.lemmas.List.{take-take, take-append-drop}
use Rattle.std.proofs.lemmas.Str.{IsAscii-take, IsUtf8-from_ascii}
use Rattle.std.proofs.lemmas.Str.Ascii.{IsAscii-nil, IsAscii-cons}
use Rattle.std.specs.Prelude.{nat_lt}
use Rattle.std.specs.Str.{IsAscii, IsUtf8}
use Rattle.hex.proofs.HexLemmas.{IsAscii-encode_with}
use Rattle.hex.specs.Hex.{encode_lower, encode_with, lower_digits}

pub encode_with-append : (t xs ys : List ℕ) → encode_with t (xs ++ ys) ≡ encode_with t xs ++ encode_with t ys
unfolding encode_with
encode_with-append t [] ys = refl
encode_with-append t (x ∷ xs) ys = ap (λ u. slice_index t (x / 16) ∷ slice_index t (x % 16) ∷ u) (encode_with-append t xs ys)

-- the digits of the first n bytes
pub take-encode_with : (t xs : List ℕ) (n : ℕ) → take (2 * n) (encode_with t xs) ≡ encode_with t (take n xs)
unfolding encode_with
take-encode_with t xs zero = refl
take-encode_with t [] (suc n) =
    let two : 2 * suc n ≡ suc (suc (2 * n)) = omega arith in
    ap (λ (k : ℕ). take {A = ℕ} k []) two
take-encode_with t (x ∷ xs) (suc n) =
    let two : 2 * suc n ≡ suc (suc (2 * n)) = omega arith in
    ap (λ k. take k (encode_with t (x ∷ xs))) two
    ∙ ap (λ u. slice_index t (x / 16) ∷ slice_index t (x % 16) ∷ u) (take-encode_with t xs n)

-- a block is written, and what is behind it is left
pub block_step : (out new rest block more all : List ℕ) (n : ℕ) → new ≡ out ++ encode_lower (take n block)
    → block ≡ take n rest → more ≡ drop n rest → out ++ encode_lower rest ≡ all → new ++ encode_lower more ≡ all
block_step out new rest block more all n written first behind inv =
    let same : take n block ≡ take n rest = ap (λ u. take n u) first ∙ take-take n n rest (omega arith) in
    ap (λ u. u ++ encode_lower more) written ∙ ap (λ u. (out ++ encode_lower u) ++ encode_lower more) same
    ∙ ap (λ u. (out ++ encode_lower (take n rest)) ++ encode_lower u) behind
    ∙ append_assoc out (encode_lower (take n rest)) (encode_lower (drop n rest))
    ∙ ap (λ u. out ++ u) (sym (encode_with-append lower_digits (take n rest) (drop n rest)))
    ∙ ap (λ u. out ++ encode_lower u) (take-append-drop n rest) ∙ inv

-- ---- digits are a text

-- whether each byte is below 128
abbrev all_ascii : List ℕ → Bool
all_ascii [] = true
all_ascii (b ∷ bs) = nat_lt b 128 && all_ascii bs

IsAscii-from_test : (bs : List ℕ) → all_ascii bs ≡ true → IsAscii bs
IsAscii-from_test [] h = IsAscii-nil
IsAscii-from_test (b ∷ bs) h =
    let parts = and_parts (nat_lt b 128) (all_ascii bs) h in
    let below : nat_lt b 128 ≡ true = parts.0 in
    IsAscii-cons b bs (grind (arith, nat_tests, below)) (IsAscii-from_test bs parts.1)

pub digits_are_text : (bytes : List ℕ) (n : ℕ) → IsUtf8 (take n (encode_lower bytes))
digits_are_text bytes n =
    let ascii = IsAscii-encode_with lower_digits bytes (IsAscii-from_test lower_digits refl) in
    IsUtf8-from_ascii (take n (encode_lower bytes)) (IsAscii-take (encode_lower bytes) n ascii)
