-- The map that the commands have made, with the version of the disk, whose limits hold.
use Rattle.std.specs.Prelude.{ℕ, not, List, [], ◌∷◌, ◌++◌, filter, if◌then◌else◌}
use Rattle.std.specs.Str.{bytes_eq}
use Rattle.patch_frame.specs.declared.geometries.Format.{Format}
use Rattle.patch_frame.specs.declared.geometries.Format.TheVariants.{Two}
use Rattle.patch_frame.specs.Frame.{Content}
use Rattle.patch_history.specs.Command.{Command, Reply, Put, Delete, Upgrade, is_refused}

-- keys with their values, no key twice; and the version, which says how long a value may be
pub record Map : Type 0 where
  pub format : Format
  pub entries : List Content

-- without what stands under the key
abbrev pub without_key : List Content → List ℕ → List Content
without_key entries key = filter (λ c. not (bytes_eq c.key key)) entries

-- with this value under the key, and no other
abbrev pub with_value : List Content → (key value : List ℕ) → List Content
with_value entries key value = without_key entries key ++ record { key = key; value = value } ∷ []

-- what a command that was done makes of it
abbrev pub after_done : Map → Command → Map
after_done m (Put key value) = record m { entries = with_value m.entries key value }
after_done m (Delete key) = record m { entries = without_key m.entries key }
after_done m Upgrade = record m { format = Two 16 }
after_done m _ = m

-- and one with this reply
abbrev pub after_reply : Map → Command → Reply → Map
after_reply m command reply = if is_refused reply then m else after_done m command
