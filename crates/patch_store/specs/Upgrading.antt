-- A disk that is made one of version 2.
use Rattle.std.specs.Prelude.{ℕ, ◌≡◌, [], Result, MatchResult}
use Rattle.patch_model.specs.declared.refusals.OutOfMemory.{OutOfMemory}
use Rattle.patch_extent.specs.Upgrading.{IsStepped}
use Rattle.patch_recovery.specs.Change.{Widen, step_of}
use Rattle.patch_history.specs.Shelf.{after_change}
use Rattle.patch_store.specs.Meaning.{Store}

-- the patch of the upgrade was made, and the shelf has it
pub record IsWidened (old new : Store) : Type 0 where
  pub made : ℕ
  pub stepped : IsStepped (step_of old.shelf.extents.geometry (record { change = Widen; after = [] })) old.cache new.cache made
  pub groups_are : new.groups ≡ old.groups
  pub shelf_is : new.shelf ≡ after_change old.shelf made Widen
  pub left_out_is : new.left_out ≡ old.left_out

-- or there was no memory, and nothing has changed
abbrev pub Widens : Result (Unit {0}) OutOfMemory → (old new : Store) → Type 0
Widens result old new = MatchResult result (λ _. IsWidened old new) (λ _. new ≡ old)
