-- What every list of asks keeps true, and the promise of groups: in what order their patches reach the disk.
use Rattle.std.specs.Prelude.{ℕ, Bool, ◌↔◌, IsTrue, List, [], ◌∷◌, ◌++◌, Contains, if◌then◌else◌}
use Rattle.patch_model.specs.Execution.{Execution}
use Rattle.patch_model.specs.Entry.{Entry}
use Rattle.patch_model.specs.State.{entries_of}
use Rattle.patch_model.specs.Crash.{IsClosed}
use Rattle.patch_plans.specs.Groups.{Groups, before, patches_of, no_groups}
pub use Rattle.patch_plans.specs.Chains.{Chain, one, onward}
use Rattle.patch_plans.specs.Order.{AreGroupsOf}
use Rattle.patch_group.specs.Asks.{Ask, Answer, Plain, Patch, Group, Engage, Disengage, Depend, Close, Pending, is_refused, AreGroupAnswers, run_after_all, groups_after_all}

-- Groups stay those of the execution for every list of asks, as far as they are answered.
abbrev pub AsksKeep : Type 0
AsksKeep =
    (run : Execution) (gs : Groups) (asks : List Ask) (answers : List Answer) → AreGroupsOf run gs → AreGroupAnswers run gs asks answers
    → AreGroupsOf (run_after_all run gs asks answers) (groups_after_all gs asks answers)

-- Chains.

-- the order that a call makes
abbrev pub order_of : Ask → List (ℕ × ℕ)
order_of (Depend group on) = (group, on) ∷ []
order_of (Plain ask) = []
order_of (Patch writer block start bytes after undo) = []
order_of Group = []
order_of (Engage writer group) = []
order_of (Disengage writer group) = []
order_of (Close group) = []
order_of (Pending group) = []

-- the orders that the asks made which were accepted, behind these
abbrev pub orders_after : List (ℕ × ℕ) → List Ask → List Answer → List (ℕ × ℕ)
orders_after orders [] answers = orders
orders_after orders (ask ∷ asks) [] = orders
orders_after orders (ask ∷ asks) (answer ∷ answers) = orders_after (if is_refused answer then orders else orders ++ order_of ask) asks answers

-- After every list of asks, the groups before one are just those to which a chain of accepted orders leads from it.
abbrev pub BeforeIsAChain : Type 0
BeforeIsAChain =
    (run : Execution) (asks : List Ask) (answers : List Answer) (q p : ℕ) → AreGroupAnswers run no_groups asks answers
    → Contains (before (groups_after_all no_groups asks answers) q) p ↔ Chain (orders_after [] asks answers) q p

-- The promise of groups: after every list of asks that were answered as the definitions say, a set that is closed under
-- dependencies and holds a patch of a group holds all patches of each group to which a chain of accepted orders leads from it.
abbrev pub GroupsInOrder : Type 0
GroupsInOrder =
    (run : Execution) (asks : List Ask) (answers : List Answer) (set : Entry → Bool) (q p : ℕ) (e f : Entry)
    → AreGroupAnswers run no_groups asks answers
    → let now = run_after_all run no_groups asks answers in
    let gs = groups_after_all no_groups asks answers in
    IsClosed (entries_of now) set → Chain (orders_after [] asks answers) q p
    → Contains (entries_of now) e → Contains (entries_of now) f → Contains (patches_of gs q) e.patch.no → Contains (patches_of gs p) f.patch.no
    → IsTrue (set e) → IsTrue (set f)
