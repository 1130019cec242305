-- What the formats have in common: padding, and tests that are made in order.
use Rattle.std.specs.Prelude.{◌≡◌, ◌<◌, ℕ, Bool, All, List, [], ◌∷◌, Result, Ok, Err, ◌==◌, if◌then◌else◌, replicate}
use Rattle.std.specs.List.{list_all}

-- each number is a byte
abbrev pub AreBytes : List ℕ → Type 0
AreBytes bytes = All (λ byte. byte < 256) bytes

-- so many zeros
unfoldable pub zeros : ℕ → List ℕ
zeros n = replicate n 0

-- each byte is zero
abbrev pub are_zeros : List ℕ → Bool
are_zeros bytes = list_all (λ byte. byte == 0) bytes

-- A reader's tests, each with the refusal where it holds. The first that holds refuses; where none does, x is read.
abbrev pub outcome : {X E : Type 0} → List (Bool × E) → X → Result X E
outcome [] x = Ok x
outcome (test ∷ tests) x = if test.0 then Err test.1 else outcome tests x

-- What a function returned, seen by view, is what reading gives.
abbrev pub Gives : {X Y E : Type 0} → (X → Y) → Result X E → Result Y E → Type 0
Gives view (Ok x) read = read ≡ Ok (view x)
Gives view (Err e) read = read ≡ Err e
