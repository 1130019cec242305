-- Extents that are empty.
use Rattle.std.specs.Prelude.{ℕ, Bool, ◌≡◌, ◌<◌, ◌≤◌, List, filter}
use Rattle.std.specs.List.{range_with_len}

-- the numbers below a count that pass a test, rising
abbrev pub passing : (ℕ → Bool) → (count : ℕ) → List ℕ
passing test count = filter test (range_with_len 0 count)

-- some numbers below a count, which this one is below too: there are no more than extents of a disk
pub record AreSome (number : ℕ) (numbers : List ℕ) : Type 0 where
  pub test : ℕ → Bool
  pub count : ℕ
  pub few : count ≤ 254
  pub below : number < count
  pub numbers_are : numbers ≡ passing test count
