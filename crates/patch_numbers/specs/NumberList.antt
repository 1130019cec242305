-- Lists of numbers that are mostly short.
use Rattle.std.specs.Prelude.{ℕ, zero, suc, ◌-◌, max, List}

-- the numbers, and how many more come in without memory
pub record NumberList : Type 0 where
  pub items : List ℕ
  pub room : ℕ

-- the room of a list of which so many lie in it and so many in memory, where there is so much of that
abbrev pub room_of : ℕ → ℕ → ℕ → ℕ
room_of few zero capacity = max (3 - few) (capacity - few)
room_of few (suc many) capacity = capacity - suc many
