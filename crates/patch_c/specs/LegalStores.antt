-- That a store is one of a legal history.
use Rattle.std.specs.Prelude.{ℕ, Bool, List, IsFalse}
use Rattle.patch_history.specs.Command.{Command, Reply}
use Rattle.patch_history.specs.History.{History}
use Rattle.patch_store.specs.Meaning.{Store, IsStoreOf, Answers}
use Rattle.patch_disks.specs.Running.{StandsOn}

-- the store stands at the end of the history; while no sync was refused, no write of it is under way, and the blocks of its file are the
-- images of its own
pub record Stands (spent : Bool) (s : Store) (blocks : List (List ℕ)) (h : History) : Type 0 where
  pub represents : IsStoreOf s h
  pub on : IsFalse spent → StandsOn s h blocks

-- of some history
abbrev pub StandsSomewhere : Bool → Store → List (List ℕ) → Type 0
StandsSomewhere spent s blocks = (h : History) × Stands spent s blocks h

-- a call begins no write and ends none: behind it the store stands so again
abbrev pub CallsStay : Type 0
CallsStay =
    (spent : Bool) (blocks : List (List ℕ)) (writer : ℕ) (command : Command) (reply : Reply) (old new : Store)
    → ∥ StandsSomewhere spent old blocks ∥₁ → Answers writer command reply old new → ∥ StandsSomewhere spent new blocks ∥₁
