use Rattle.std.proofs.Common.{◌≡◌, ◌≢◌, ◌<◌, ◌≤◌, ◌==◌, ◌∷◌, [], zero, suc, List, ℕ, Bool, true, false, length, get_or, take, drop, refl, ap, arith, cond}
use Rattle.std.proofs.lemmas.Bool.Decides.{nat_tests}
use Rattle.patch_script.specs.Kind.{lines_of, onto_first}

-- no line feed below i
abbrev pub NoneBelow : List ℕ → ℕ → Type 0
NoneBelow text i = (k : ℕ) → k < i → get_or text k 0 ≢ 10

other : (x : ℕ) → x ≢ 10 → (x == 10) ≡ false
other x h = grind (arith, nat_tests)

pub lines_of-cut : (text : List ℕ) (i : ℕ) → i < length text → get_or text i 0 ≡ 10 → NoneBelow text i → lines_of text ≡ take i text ∷ lines_of (drop (suc i) text)
lines_of-cut [] i h e none = absurd (omega arith)
lines_of-cut (x ∷ xs) zero h e none = rw e refl
lines_of-cut (x ∷ xs) (suc i) h e none =
    rw (other x (none 0 (omega arith))) (ap (onto_first x) (lines_of-cut xs i (omega arith) e (λ k below. none (suc k) (omega arith))))

pub lines_of-last : (text : List ℕ) → 0 < length text → NoneBelow text (length text) → lines_of text ≡ text ∷ []
lines_of-last [] h none = absurd (omega arith)
lines_of-last (x ∷ []) h none = rw (other x (none 0 (omega arith))) refl
lines_of-last (x ∷ y ∷ xs) h none =
    rw (other x (none 0 (omega arith))) (ap (onto_first x) (lines_of-last (y ∷ xs) (omega arith) (λ k below. none (suc k) (omega arith))))

-- no more lines than bytes
length-onto_first : (x : ℕ) (lines : List (List ℕ)) → length (onto_first x lines) ≤ suc (length lines)
length-onto_first x [] = omega arith
length-onto_first x (line ∷ lines) = omega arith

length-by_byte : (b : Bool) (x : ℕ) (lines : List (List ℕ)) (n : ℕ) → length lines ≤ n → length (cond b ([] ∷ lines) (onto_first x lines)) ≤ suc n
length-by_byte true x lines n h = omega arith
length-by_byte false x lines n h = omega (arith, length-onto_first x lines)

pub length-lines_of : (text : List ℕ) → length (lines_of text) ≤ length text
length-lines_of [] = omega arith
length-lines_of (x ∷ xs) = length-by_byte (x == 10) x (lines_of xs) (length xs) (length-lines_of xs)
