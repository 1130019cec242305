-- Which numbers stand in a list for all that a patch names.
use Rattle.std.specs.Prelude.{ℕ, ◌≡◌, ◌<◌, ◌≤◌, ◌⊎◌, List, Some, None}
use Rattle.std.specs.Option.{option_map_or}
use Rattle.patch_model.specs.Member.{In}
use Rattle.patch_links.specs.declared.nodes.Reach.{Reach}
use Rattle.patch_links.specs.State.{Slots, Numbers, no_reach, IsInReach, find, class_at}

-- what the class at the key reaches
abbrev pub reach_at : Slots → ℕ → Reach
reach_at slots key = option_map_or (λ c. c.reach) (class_at slots key) no_reach

-- the number is of those that the class of another one reaches
pub record IsReachedFrom (slots : Slots) (numbers : Numbers) (from n : ℕ) : Type 0 where
  pub key : ℕ
  pub leads : find numbers from ≡ Some key
  pub inside : IsInReach (reach_at slots key) n

-- the number isn't live, or it is in the list, or is reached from one that is
abbrev pub IsCovered : Slots → Numbers → List ℕ → ℕ → Type 0
IsCovered slots numbers list n = (find numbers n ≡ None) ⊎ (In list n ⊎ ((from : ℕ) × In list from × IsReachedFrom slots numbers from n))

-- the number is named, and was made
abbrev pub IsNamedBelow : ℕ → List ℕ → ℕ → Type 0
IsNamedBelow made named n = In named n × (n < made)

-- the list has got numbers of a kind, and covers all of that kind now
pub record HasTaken (slots : Slots) (numbers : Numbers) (kind : ℕ → Type 0) (old new : List ℕ) : Type 0 where
  pub kept : (n : ℕ) → In old n → In new n
  pub only : (n : ℕ) → In new n → In old n ⊎ kind n
  pub all : (n : ℕ) → kind n → IsCovered slots numbers new n

-- the list has got the number, unless that isn't live, and covers what its class reaches
pub record HasListed (slots : Slots) (numbers : Numbers) (no : ℕ) (reach : Reach) (old new : List ℕ) : Type 0 where
  pub taken : HasTaken slots numbers (λ n. n ≡ no) old new
  pub reached : (n : ℕ) → IsInReach reach n → IsCovered slots numbers new n

-- of the numbers of a kind the list has got those from `next` on, and it covers a reach that may be jumped over
pub record HasWalked (slots : Slots) (numbers : Numbers) (kind : ℕ → Type 0) (next : ℕ) (skip : Reach) (old new : List ℕ) : Type 0 where
  pub taken : HasTaken slots numbers (λ n. kind n × (next ≤ n)) old new
  pub skipped : (n : ℕ) → IsInReach skip n → IsCovered slots numbers new n
