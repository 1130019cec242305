-- Chains of orders between groups.
use Rattle.std.specs.Prelude.{ℕ, List, Contains}

-- a chain of orders from one group to another
pub data Chain (orders : List (ℕ × ℕ)) : ℕ → ℕ → Type 0 where
  one : {q p : ℕ} → Contains orders (q, p) → Chain orders q p
  onward : {q r p : ℕ} → Contains orders (q, r) → Chain orders r p → Chain orders q p
