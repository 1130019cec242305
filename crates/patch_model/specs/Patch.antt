-- A change of one block.
use Rattle.std.specs.Prelude.{ℕ, List}
use Rattle.patch_model.specs.declared.patches.Undo.{Undo}

-- its number in order of making, its block, the bytes that it puts there from start on, and the numbers that it names
pub record Patch : Type 0 where
  pub no : ℕ
  pub block : ℕ
  pub start : ℕ
  pub bytes : List ℕ
  pub after : List ℕ
  pub undo : Undo
