-- A new disk.
use Rattle.std.specs.Prelude.{ℕ, ◌≡◌, ◌-◌, List, [], ◌∷◌, replicate, Ok}
use Rattle.patch_frame.specs.declared.geometries.Geometry.{Geometry}
use Rattle.patch_frame.specs.Geometry.{block_count}
use Rattle.patch_frame.specs.Superblock.{spelling}
use Rattle.patch_recovery.specs.Ledger.{Ledger, map_of}
use Rattle.patch_recovery.specs.Reading.{reading}

-- the superblock, and behind it blocks of zeros
abbrev pub new_disk : Geometry → List (List ℕ)
new_disk g = spelling g ∷ replicate (block_count g - 1) (replicate 4096 0)

-- the blocks read as a disk that is divided so, and holds no key
pub record IsNewDisk (g : Geometry) (blocks : List (List ℕ)) : Type 0 where
  pub ledger : Ledger
  pub reads : reading blocks ≡ Ok ledger
  pub divided : ledger.geometry ≡ g
  pub empty : map_of ledger ≡ []
