-- The blocks of a device.
use Rattle.std.specs.Prelude.{ℕ, List, ◌≡◌, ◌<◌, ◌≤◌, length, replicate, All}
use Rattle.std.proofs.lemmas.List.{length-replicate}
use Rattle.std.proofs.lemmas.List.Elements.{All-replicate}
use Rattle.patch_model.specs.declared.blocks.TheConstants.{BLOCK}
use Rattle.patch_model.specs.declared.limits.TheConstants.{MAX_BLOCKS}

-- each has the bytes of a whole block
abbrev pub AreWhole : List (List ℕ) → Type 0
AreWhole blocks = All (λ block. length block ≡ BLOCK) blocks

-- so many blocks of zeros
abbrev pub zeros : ℕ → List (List ℕ)
zeros count = replicate count (replicate BLOCK 0)

pub zeros_whole : (count : ℕ) → AreWhole (zeros count)
zeros_whole count = All-replicate (λ block. length block ≡ BLOCK) count (replicate BLOCK 0) (length-replicate {A = ℕ} BLOCK 0)

-- as many blocks as a file may have
pub record FitsFile (count : ℕ) : Type 0 where
  pub some : 0 < count
  pub few : count ≤ MAX_BLOCKS
