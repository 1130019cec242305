-- Lists of numbers in order, each once.
use Rattle.std.specs.Prelude.{ℕ, ◌<◌, ◌==◌, nat_lt, if◌then◌else◌, List, [], ◌∷◌}
use Rattle.std.specs.List.{AllPairs}

-- each number is below all behind it
abbrev pub AreRising : List ℕ → Type 0
AreRising ns = AllPairs (λ m n. m < n) ns

-- the list with one more number, at its place
abbrev pub put : ℕ → List ℕ → List ℕ
put n [] = n ∷ []
put n (m ∷ ms) = if n == m then m ∷ ms else if nat_lt n m then n ∷ m ∷ ms else m ∷ put n ms

-- the numbers of a list in order, each once
abbrev pub rising : List ℕ → List ℕ
rising [] = []
rising (n ∷ ns) = put n (rising ns)
