-- What a block keeps of the numbers that a patch names.
use Rattle.std.specs.Prelude.{ℕ, true, ◌≡◌, ◌||◌, ◌++◌, List}
use Rattle.patch_model.specs.Entry.{is_among}
use Rattle.patch_stacks.specs.State.{Block, KeepsNames}

-- what was kept of some numbers has become what is kept of them and these more
pub record KeepsMore (b : Block) (more old new : List ℕ) : Type 0 where
  pub on : (before : List ℕ) → KeepsNames b before old → KeepsNames b (before ++ more) new

-- those of the members came in that are named, and nothing else
pub record TakesMembers (members named old new : List ℕ) : Type 0 where
  pub from : (n : ℕ) → is_among new n ≡ true → (is_among old n || is_among named n) ≡ true
  pub kept : (n : ℕ) → is_among old n ≡ true → is_among new n ≡ true
  pub all : (n : ℕ) → is_among members n ≡ true → is_among named n ≡ true → is_among new n ≡ true
