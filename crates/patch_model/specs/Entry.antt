-- What has become of a patch.
use Rattle.std.specs.Prelude.{ℕ, Bool, true, false, ◌==◌, ◌&&◌, not, List}
use Rattle.std.specs.List.{list_any}
use Rattle.patch_model.specs.declared.patches.Mark.{Mark}
use Rattle.patch_model.specs.declared.patches.Mark.TheVariants.{Memory, Flight, Durable}
use Rattle.patch_model.specs.Patch.{Patch}

-- a patch with its class's name, its mark, and whether it is hard
pub record Entry : Type 0 where
  pub patch : Patch
  pub class : ℕ
  pub mark : Mark
  pub hard : Bool

abbrev pub marks_memory : Mark → Bool
marks_memory Memory = true
marks_memory Flight = false
marks_memory Durable = false

abbrev pub marks_flight : Mark → Bool
marks_flight Memory = false
marks_flight Flight = true
marks_flight Durable = false

abbrev pub marks_durable : Mark → Bool
marks_durable Memory = false
marks_durable Flight = false
marks_durable Durable = true

abbrev pub is_memory : Entry → Bool
is_memory e = marks_memory e.mark

abbrev pub is_flight : Entry → Bool
is_flight e = marks_flight e.mark

abbrev pub is_durable : Entry → Bool
is_durable e = marks_durable e.mark

-- in memory or in flight
abbrev pub is_live : Entry → Bool
is_live e = not (is_durable e)

-- in memory and not hard: it may be taken back
abbrev pub is_undoable : Entry → Bool
is_undoable e = is_memory e && not e.hard

-- the patch is in memory and of this block
abbrev pub in_memory_of : ℕ → Entry → Bool
in_memory_of block e = is_memory e && e.patch.block == block

-- the number is among these
abbrev pub is_among : List ℕ → ℕ → Bool
is_among numbers n = list_any (λ m. m == n) numbers
