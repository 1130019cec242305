-- Numbers that lie in runs.
use Rattle.std.specs.Prelude.{ℕ, ◌-◌, ◌++◌, List, [], ◌∷◌}
use Rattle.std.specs.List.{flat_map, range_with_len}
use Rattle.patch_model.specs.declared.runs.Run.{Run}

-- the numbers of a run
abbrev pub numbers_of : Run → List ℕ
numbers_of r = range_with_len r.first (r.last - r.first) ++ r.last ∷ []

abbrev pub numbers_in : List Run → List ℕ
numbers_in runs = flat_map numbers_of runs
