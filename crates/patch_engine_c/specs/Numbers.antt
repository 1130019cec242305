-- Marks and flags, by the numbers that C has for them.
use Rattle.std.specs.Prelude.{ℕ, ◌==◌, ◌%◌, if◌then◌else◌}
use Rattle.patch_model.specs.declared.patches.Mark.{Mark}
use Rattle.patch_model.specs.declared.patches.Mark.TheVariants.{Memory, Flight, Durable}
use Rattle.patch_model.specs.declared.patches.Undo.{Undo}
use Rattle.patch_model.specs.declared.patches.Undo.TheVariants.{Keep, MayDrop}

abbrev pub mark_number : Mark → ℕ
mark_number Memory = 0
mark_number Flight = 1
mark_number Durable = 2

-- bit 0 of the flags gives leave to drop the undo bytes
abbrev pub undo_of : ℕ → Undo
undo_of flags = if flags % 2 == 1 then MayDrop else Keep
