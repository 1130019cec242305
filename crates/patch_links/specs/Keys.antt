-- The numbers of live patches in a map.
use Rattle.std.specs.Prelude.{ℕ, List, [], ◌∷◌, Option, None}
use Rattle.std.specs.Option.{option_map_or}
use Rattle.patch_links.specs.State.{Numbers}

-- the numbers that lead to a key, and how many more there is room for
pub record Keys : Type 0 where
  pub numbers : Numbers
  pub room : ℕ

-- the entries that lead to a key; those that led to one once are passed over
abbrev pub live_of : List (ℕ × Option ℕ) → Numbers
live_of [] = []
live_of (e ∷ es) = option_map_or (λ key. (e.0, key) ∷ live_of es) e.1 (live_of es)

-- the key that a number leads to, by what was found for it
abbrev pub led_to : Option (Option ℕ) → Option ℕ
led_to found = option_map_or (λ key. key) found None
