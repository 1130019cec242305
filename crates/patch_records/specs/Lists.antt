-- The lists of a class.
use Rattle.std.specs.Prelude.{ℕ, List}

-- the members, the numbers that they name, and how many more of either come in without memory
pub record Lists : Type 0 where
  pub members : List ℕ
  pub after : List ℕ
  pub spare : ℕ
