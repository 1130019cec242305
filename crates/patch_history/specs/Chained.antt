-- Which orders between groups a history's calls have made.
use Rattle.std.specs.Prelude.{ℕ, Bool, ◌↔◌, IsTrue, if◌then◌else◌, List, [], ◌∷◌, flat_map, Contains}
use Rattle.patch_model.specs.Entry.{Entry}
use Rattle.patch_model.specs.State.{entries_of}
use Rattle.patch_model.specs.Crash.{IsClosed}
use Rattle.patch_plans.specs.Chains.{Chain}
use Rattle.patch_plans.specs.Groups.{before, patches_of}
use Rattle.patch_history.specs.Command.{Command, Depend, is_refused}
use Rattle.patch_history.specs.History.{History, Event, Call, Moved, IsLegalHistory, execution_of, standing_of}

-- the order that a command asks for
abbrev pub order_of : Command → List (ℕ × ℕ)
order_of (Depend group on) = (group, on) ∷ []
order_of _ = []

-- the order that an event makes: that of a call which was accepted
abbrev pub order_in : Event → List (ℕ × ℕ)
order_in (Call writer command reply steps) = if is_refused reply then [] else order_of command
order_in (Moved step) = []

-- all orders of a history
abbrev pub orders_of : History → List (ℕ × ℕ)
orders_of h = flat_map order_in h.events

-- The groups before one are just those to which a chain of the history's orders leads from it.
abbrev pub GroupsAreChained : Type 0
GroupsAreChained =
    (h : History) (q p : ℕ) → IsLegalHistory h
    → Contains (before (standing_of h).groups q) p ↔ Chain (orders_of h) q p

-- two patches of a history, each of its group
pub record AreGrouped (h : History) (q p : ℕ) (e f : Entry) : Type 0 where
  pub made : Contains (entries_of (execution_of h)) e
  pub other_made : Contains (entries_of (execution_of h)) f
  pub later : Contains (patches_of (standing_of h).groups q) e.patch.no
  pub earlier : Contains (patches_of (standing_of h).groups p) f.patch.no

-- So a set that is closed under dependencies and holds a patch of a group holds all patches of each group to which such a
-- chain leads.
abbrev pub ChainsAreKept : Type 0
ChainsAreKept =
    (h : History) (set : Entry → Bool) (q p : ℕ) (e f : Entry) → IsLegalHistory h
    → IsClosed (entries_of (execution_of h)) set → Chain (orders_of h) q p → AreGrouped h q p e f
    → IsTrue (set e) → IsTrue (set f)
