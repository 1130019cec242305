-- Rows and queues that keep their lengths.
use Rattle.std.proofs.Common.{◌≡◌, ◌≤◌, ◌∙◌, ℕ, Bool, List, [], ◌∷◌, ◌++◌, length, take, refl, sym, ap, subst, arith}
use Rattle.std.specs.Prelude.{max}
use Rattle.std.proofs.lemmas.List.{length-take-le}
use Rattle.patch_graph.specs.Search.{IsSearch}
use Rattle.patch_graph.proofs.Searches.{tail-within}

-- rooms that are as long as others fit as these do
pub long_as : (a b c d : ℕ) → a ≡ c → b ≡ d → c ≤ d → a ≤ b
long_as a b c d first second fits = omega arith

-- a search that stops at no key: its stop is the number of its marks, which stays the same
pub stopless : (goes : ℕ → ℕ → Bool) (from head tail : ℕ) (old met now : List Bool) (queue : List ℕ) → length now ≡ length met → length met ≡ length old
    → IsSearch goes from (length old) now queue head tail → IsSearch goes from (length now) now queue head tail
stopless goes from head tail old met now queue same long = subst (λ stop. IsSearch goes from stop now queue head tail) (sym (same ∙ long))

-- of a row as many are taken as it has
pub taken : (row : List ℕ) (n : ℕ) → n ≤ length row → n ≡ length (take n row)
taken row n low = sym (length-take-le n row low)

pub upto_both : (a b c : ℕ) → a ≤ b → b ≤ c → a ≤ c
upto_both a b c first second = omega arith

pub below_both : (n a b c : ℕ) → n ≤ max a b → a ≤ c → b ≤ c → n ≤ c
below_both n a b c most first second = omega arith

-- what a search met has room in its queue
pub met-within : (goes : ℕ → ℕ → Bool) (from stop : ℕ) (marks : List Bool) (queue : List ℕ) (head tail : ℕ) → IsSearch goes from stop marks queue head tail
    → length marks ≤ length queue → tail ≤ length queue
met-within goes from stop marks queue head tail s long = upto_both _ _ _ (tail-within goes from stop marks queue head tail s) long

front : {A : Type 0} → (row rest : List A) → take (length row) (row ++ rest) ≡ row
front [] rest = refl
front (x ∷ row) rest = ap (λ xs. x ∷ xs) (front row rest)

-- a row that was lent is as it was given back
pub put-back : {A : Type 0} → (row rest : List A) (n : ℕ) → length row ≡ n → take n (row ++ rest) ≡ row
put-back row rest n long = subst (λ m. take m (row ++ rest) ≡ row) long (front row rest)
