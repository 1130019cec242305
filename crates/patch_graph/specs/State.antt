-- What a graph holds.
use Rattle.std.specs.Prelude.{ℕ, Bool, ◌≡◌, ◌<◌, ◌&&◌, nat_le, nat_lt, Some}
use Rattle.patch_links.specs.State.{Class, Slots, Numbers, class_at}
use Rattle.patch_graph.specs.Skyline.{Skylines}

-- how many patches were made, the classes by key, the key of each live number, and which patch wrote each byte of a block last
pub record Graph : Type 0 where
  pub made : ℕ
  pub slots : Slots
  pub numbers : Numbers
  pub tops : Skylines

abbrev pub spans : Class → ℕ → Bool
spans c x = nat_le c.start x && nat_lt x c.stop

-- each class's key is below this number
abbrev pub KeysFit : Slots → ℕ → Type 0
KeysFit slots room = (key : ℕ) (c : Class) → class_at slots key ≡ Some c → key < room
