-- A put that wins extents back where no extent has room for it, and moves frames ahead of need.
use Rattle.std.specs.Prelude.{ℕ, ℤ, ◌≡◌, ◌≢◌, Bool, List}
use Rattle.patch_model.specs.declared.refusals.RefusalKind.TheVariants as kind
use Rattle.patch_frame.specs.Frame.{Content, length_of}
use Rattle.patch_history.specs.Command.{Reply}
use Rattle.patch_history.specs.History.{History}
use Rattle.patch_room.specs.Putting.{HasPut, PutsInRoom}
use Rattle.patch_room.specs.Room.{HasEmpty, IsFull}
use Rattle.patch_store.specs.Meaning.{Store, IsStoreOf}
use Rattle.patch_handles.specs.declared.answers.Answer.TheVariants.{Refused}
use Rattle.patch_handles.specs.Answering.{number_of}
use Rattle.patch_c.specs.Answering.{answer_of}
use Rattle.patch_c.specs.LegalStores.{StandsSomewhere}

-- Behind the history two extents at most were won back, then the put was answered, and behind one that was done frames may have moved
-- ahead of need. This is the number of its reply.
pub record HasToldPut (h : History) (writer : ℕ) (c : Content) (number : ℤ) (old new : Store) : Type 0 where
  pub reply : Reply
  pub number_is : number ≡ number_of (answer_of reply)
  pub put : HasPut h 2 writer c reply old new

-- so it was, behind each history that the store represented
abbrev pub TellsPut : (writer : ℕ) → Content → (number : ℤ) → (old new : Store) → Type 0
TellsPut writer c number old new = (h : History) → IsStoreOf old h → HasToldPut h writer c number old new

-- That there is no space is answered of a disk alone that is full, and leaves the store as it was where an extent was empty; and where
-- one was, one is, memory aside.
pub record HasRoomOrIsFull (c : Content) (number : ℤ) (old new : Store) : Type 0 where
  pub full : (h : History) → IsStoreOf old h → number ≡ number_of (Refused kind.NoSpace) → IsFull new.shelf (length_of c)
  pub same : (h : History) → IsStoreOf old h → HasEmpty old.shelf → number ≡ number_of (Refused kind.NoSpace) → new ≡ old
  pub reserve : (h : History) → IsStoreOf old h → HasEmpty old.shelf → number ≢ number_of (Refused kind.OutOfMemory) → HasEmpty new.shelf

-- it begins no write and ends none: behind it the store stands so again
abbrev pub PutsStay : Type 0
PutsStay =
    (spent : Bool) (blocks : List (List ℕ)) (most writer : ℕ) (c : Content) (reply : Reply) (old new : Store)
    → ∥ StandsSomewhere spent old blocks ∥₁ → PutsInRoom most writer c reply old new → ∥ StandsSomewhere spent new blocks ∥₁
