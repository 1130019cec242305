-- Ranges of places.
use Rattle.std.specs.Prelude.{ℕ, Bool, ◌≤◌, nat_lt, min, max, if◌then◌else◌}
use Rattle.patch_stacks.specs.declared.places.Places.{Places}

abbrev pub no_places : Places
no_places = record { from = 0; to = 0 }

-- with those from one place up to another, and what lies between
abbrev pub with_places : Places → ℕ → ℕ → Places
with_places p from to = if nat_lt p.from p.to then (record { from = min p.from from; to = max p.to to }) else (record { from = from; to = to })

-- all of so many, unless there is none
abbrev pub spread : Places → ℕ → Places
spread p all = if nat_lt p.from p.to then (record { from = 0; to = all }) else p

-- all of so many, unless there is none and none more comes
abbrev pub spread_over : Places → ℕ → Bool → Places
spread_over p all one_more = if one_more then (record { from = 0; to = all }) else spread p all

-- those below a place
abbrev pub below : Places → ℕ → Places
below p stop = record { from = min p.from (min p.to stop); to = min p.to stop }

-- the first place doesn't lie behind the second, nor that behind the last of so many
abbrev pub IsRange : Places → ℕ → Type 0
IsRange p all = (p.from ≤ p.to) × (p.to ≤ all)
