-- What a cache accepts.
use Rattle.std.specs.Prelude.{ℕ, List}
use Rattle.patch_model.specs.declared.patches.Undo.{Undo}

-- a patch is made; two classes become one; a write of a block begins, and ends
pub data Step : Type 0 where
  Create : (block start : ℕ) (bytes after : List ℕ) (undo : Undo) → Step
  Merge : (a b : ℕ) → Step
  Send : (block : ℕ) → Step
  Complete : (block : ℕ) → Step
