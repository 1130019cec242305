-- What is asked of a store, and what it answers.
use Rattle.std.specs.Prelude.{ℕ, Bool, true, false, List, Option, Some, None}
use Rattle.patch_model.specs.declared.refusals.Refusal.{Refusal}

-- A value is put under a key, read, or deleted; an extent is won back; a disk of version 1 is made one of version 2; and
-- the calls of groups.
pub data Command : Type 0 where
  Put : (key value : List ℕ) → Command
  Get : (key : List ℕ) → Command
  Delete : (key : List ℕ) → Command
  Reclaim : (extent : ℕ) → Command
  Upgrade : Command
  Group : Command
  Engage : (group : ℕ) → Command
  Disengage : (group : ℕ) → Command
  Depend : (group on : ℕ) → Command
  CloseGroup : (group : ℕ) → Command
  Pending : (group : ℕ) → Command

pub data Reply : Type 0 where
  Done : Reply
  Value : (bytes : List ℕ) → Reply
  Absent : Reply
  GroupMade : (group : ℕ) → Reply
  Count : (count : ℕ) → Reply
  Refused : (refusal : Refusal) → Reply

-- the reply, unless there is a cause to refuse the command
abbrev pub unless : Option Refusal → Reply → Reply
unless None reply = reply
unless (Some cause) reply = Refused cause

abbrev pub is_refused : Reply → Bool
is_refused (Refused refusal) = true
is_refused _ = false

-- The command may be refused for want of memory. These take none.
abbrev pub takes_memory : Command → Bool
takes_memory (Disengage group) = false
takes_memory (CloseGroup group) = false
takes_memory (Pending group) = false
takes_memory _ = true

-- it makes several patches, of which some may stand where memory runs out
abbrev pub may_be_cut : Command → Bool
may_be_cut (Put key value) = true
may_be_cut (Reclaim extent) = true
may_be_cut _ = false
