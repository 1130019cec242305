-- Blocks as a cache begins with them.
use Rattle.std.specs.Prelude.{ℕ, ◌≡◌, ◌<◌, List, [], Option, Some, None, length, slice_index_or}
use Rattle.patch_view.specs.History.{unpatched}
use Rattle.patch_view.specs.Meaning.{IsBlockOf}
use Rattle.patch_cache.specs.Contents.{Resident}

-- the row is of a block of these bytes, with no patch yet
pub record IsUnpatched (row : Resident) (bytes : List ℕ) : Type 0 where
  pub state : IsBlockOf row.state [] (unpatched bytes)
  pub write : row.write ≡ None

-- each row is of one of these blocks
pub record AreUnpatched (rows : List (Option Resident)) (blocks : List (List ℕ)) : Type 0 where
  pub many : length rows ≡ length blocks
  pub each : (n : ℕ) → n < length blocks → (row : Resident) × (slice_index_or rows n None ≡ Some row) × IsUnpatched row (slice_index_or blocks n [])
