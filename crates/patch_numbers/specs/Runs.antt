-- Numbers that lie in runs.
use Rattle.std.specs.Prelude.{ℕ, true, ◌≡◌, ◌≤◌, List}
use Rattle.patch_model.specs.Entry.{is_among}
use Rattle.patch_model.specs.declared.runs.Run.{Run}

-- the numbers lie from the first of the run to its last
abbrev pub LieWithin : Run → List ℕ → Type 0
LieWithin r numbers = (n : ℕ) → is_among numbers n ≡ true → (r.first ≤ n) × (n ≤ r.last)
