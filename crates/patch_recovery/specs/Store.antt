-- Executions whose patches are those of a store.
use Rattle.std.specs.Prelude.{ℕ, Bool, true, false, IsTrue, ◌≡◌, List, [], ◌∷◌, length, map, All, Some, Ok}
use Rattle.patch_model.specs.declared.blocks.TheConstants.{BLOCK}
use Rattle.patch_model.specs.Execution.{Execution, extended}
use Rattle.patch_model.specs.Step.{Step, Create}
use Rattle.patch_model.specs.State.{entries_of}
use Rattle.patch_frame.specs.Slot.{SlotFields}
use Rattle.patch_frame.specs.Frame.{Content}
use Rattle.patch_recovery.specs.Change.{Made, patches_of, step_of}
use Rattle.patch_recovery.specs.Ledger.{Ledger, after_all, frame_named}
use Rattle.patch_recovery.specs.Reading.{reading}
use Rattle.patch_recovery.specs.Orders.{IsWellMade, AreWellMade}

-- The blocks were read as a ledger, and the patches made since are those of these changes, each right where it was made
-- and after what it has to come after. Merges, sends and completions may stand between.
pub record IsOfStore (run : Execution) (first : Ledger) (made : List Made) : Type 0 where
  pub blocks : All (λ block. length block ≡ BLOCK) run.first
  pub read : reading run.first ≡ Ok first
  pub patches : map (λ e. e.patch) (entries_of run) ≡ patches_of first.geometry made
  pub well_made : AreWellMade first made

-- blocks that were read, with no patch yet, are a store's
abbrev pub StoresBegin : Type 0
StoresBegin =
    (blocks : List (List ℕ)) (first : Ledger) → All (λ block. length block ≡ BLOCK) blocks → reading blocks ≡ Ok first
    → IsOfStore (record { first = blocks; steps = [] }) first []

-- and so they are with a change more, where it is right and comes after what it has to
abbrev pub StoresGrow : Type 0
StoresGrow =
    (run : Execution) (first : Ledger) (made : Made) (earlier : List Made)
    → IsOfStore run first earlier → IsWellMade first made earlier
    → IsOfStore (extended run (step_of first.geometry made)) first (made ∷ earlier)

-- a merge, a send or a completion
abbrev pub makes_nothing : Step → Bool
makes_nothing (Create block start bytes after undo) = false
makes_nothing _ = true

-- and with one of these
abbrev pub OtherStepsLeaveStores : Type 0
OtherStepsLeaveStores =
    (run : Execution) (first : Ledger) (made : List Made) (step : Step)
    → IsTrue (makes_nothing step) → IsOfStore run first made → IsOfStore (extended run step) first made

-- a frame that a slot names stays as it is: in the ledger after one more change it is read as before
abbrev pub FramesStay : Type 0
FramesStay =
    (run : Execution) (first : Ledger) (made : Made) (earlier : List Made) (slot : ℕ) (s : SlotFields) (c : Content)
    → IsOfStore run first (made ∷ earlier) → (after_all first earlier).slot slot ≡ Some s
    → frame_named (after_all first earlier) s ≡ Ok c → frame_named (after_all first (made ∷ earlier)) s ≡ Ok c
