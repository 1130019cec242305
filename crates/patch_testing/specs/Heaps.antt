-- Heaps that are full but for one hole.
use Rattle.std.specs.Prelude.{ℕ, zero, suc, ◌+◌, ◌≤◌, nat_lt, if◌then◌else◌, List, length, All, Vec}
use Rattle.patch_testing.specs.declared.heaps.TheConstants.{SMALLEST}

-- each is a piece of a heap: it has at least as many bytes as the smallest piece
abbrev pub ArePieces : {A : Type 0} → List (Vec ℕ A) → Type 0
ArePieces pieces = All (λ piece. SMALLEST ≤ length piece.items) pieces

-- how much larger the hole is in the turn after this one: by a small step at first, then by a large one, and then no more
abbrev pub step_after : (turn : ℕ) → ℕ
step_after turn = if nat_lt turn 64 then 16 else if nat_lt turn 1064 then 64 else 0

-- the hole of a turn: none in the first
abbrev pub hole : (turn : ℕ) → ℕ
hole zero = 0
hole (suc turn) = hole turn + step_after turn
