-- A slot that is cleared.
use Rattle.std.specs.Prelude.{ℕ, ◌≡◌, Some, Result, MatchResult}
use Rattle.patch_model.specs.declared.refusals.OutOfMemory.{OutOfMemory}
use Rattle.patch_recovery.specs.Change.{Clear}
use Rattle.patch_extent.specs.Appending.{IsPatched}
use Rattle.patch_frame.specs.declared.slots.TheConstants.{SLOT_BYTES}
use Rattle.patch_frame.specs.Field.{zeros}
use Rattle.patch_frame.specs.Geometry.{slot_block, slot_start}
use Rattle.std.specs.Prelude.{option_to_list}
use Rattle.patch_history.specs.Shelf.{after_change}
use Rattle.patch_store.specs.Meaning.{Store}

-- the patch was made, behind the last one that cleared a slot, and the shelf has it
pub record IsCleared (writer slot : ℕ) (old new : Store) : Type 0 where
  pub made : ℕ
  pub patched : IsPatched (slot_block slot) (slot_start slot) (zeros SLOT_BYTES) (Some writer) (option_to_list old.shelf.last_delete)
      old.groups old.cache new.groups new.cache made
  pub shelf_is : new.shelf ≡ after_change old.shelf made (Clear slot)
  pub left_out_is : new.left_out ≡ old.left_out

-- or there was no memory, and nothing has changed
abbrev pub ClearsSlot : (writer slot : ℕ) → Result (Unit {0}) OutOfMemory → (old new : Store) → Type 0
ClearsSlot writer slot result old new = MatchResult result (λ _. IsCleared writer slot old new) (λ _. new ≡ old)
