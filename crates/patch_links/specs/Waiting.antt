-- How many of the numbers that a class depends on keep it out of its block's ready set.
use Rattle.std.specs.Prelude.{ℕ, Bool, true, false, ◌≡◌, ◌≢◌, ◌+◌, ◌-◌, ◌==◌, ◌&&◌, not, if◌then◌else◌, nat_lt, List, [], length, Some, count_by}
use Rattle.std.specs.Option.{option_map_or}
use Rattle.patch_model.specs.Entry.{marks_memory}
use Rattle.patch_links.specs.State.{Class, Node, Nodes, Numbers, find, leads_at, node_at, is_at, changed_at}

-- the node is of the block
abbrev pub of_block : ℕ → Node → Bool
of_block block x = x.class.block == block

-- of the block, and in its ready set
abbrev pub ready_in : ℕ → Node → Bool
ready_in block x = x.class.block == block && x.ready

-- in memory, and nothing keeps it out of its block's ready set
abbrev pub is_due : Node → Bool
is_due x = marks_memory x.class.mark && x.waits == 0

-- the number leads to another class, and not to one in the ready set of the block
abbrev pub is_unmet : Nodes → Numbers → ℕ → ℕ → ℕ → Bool
is_unmet nodes numbers key block n = option_map_or (λ j. not (j == key) && not (is_at (ready_in block) nodes j)) (find numbers n) false

-- how many of what the class at the key depends on keep it out
abbrev pub unmet_of : Nodes → Numbers → ℕ → Class → ℕ
unmet_of nodes numbers key c = count_by (is_unmet nodes numbers key c.block) c.after

-- each class waits for what keeps it out, and for so many more
abbrev pub AreOwed : Nodes → Numbers → (ℕ → Class → ℕ) → Type 0
AreOwed nodes numbers debt = (key : ℕ) (x : Node) → node_at nodes key ≡ Some x → x.waits ≡ unmet_of nodes numbers key x.class + debt key x.class

-- each class waits for what keeps it out, and for nothing else
abbrev pub AreCounted : Nodes → Numbers → Type 0
AreCounted nodes numbers = AreOwed nodes numbers (λ key c. 0)

-- each class waits for what keeps it out, but for so many
abbrev pub AreOwing : Nodes → Numbers → (ℕ → Class → ℕ) → Type 0
AreOwing nodes numbers debt = (key : ℕ) (x : Node) → node_at nodes key ≡ Some x → x.waits + debt key x.class ≡ unmet_of nodes numbers key x.class

-- a number of each class that depends on another stands among that one's followers, as often as it depends on it
abbrev pub AreLinked : Nodes → Numbers → Type 0
AreLinked nodes numbers = (key j : ℕ) (x y : Node) → key ≢ j → node_at nodes key ≡ Some x → node_at nodes j ≡ Some y
    → count_by (leads_at numbers key) y.followers ≡ count_by (leads_at numbers j) x.class.after

-- the class is another one of the block than that at the key
abbrev pub is_other : ℕ → ℕ → ℕ → Class → Bool
is_other from block key c = not (key == from) && c.block == block

-- of these numbers, how many lead to the class, if it is another one of the block
abbrev pub passed_by : Numbers → ℕ → ℕ → List ℕ → ℕ → Class → ℕ
passed_by numbers from block rest key c = if is_other from block key c then count_by (leads_at numbers key) rest else 0

abbrev pub lowered : Node → Node
lowered x = record x { waits = x.waits - 1 }

-- the guard is for the code's sake: what keeps a class out is among what it depends on
abbrev pub raised : Node → Node
raised x = record x { waits = if nat_lt x.waits (length x.class.after) then x.waits + 1 else x.waits }

abbrev pub readied : Node → Node
readied x = record x { ready = true }

abbrev pub unreadied : Node → Node
unreadied x = record x { ready = false }

-- with the class at the key changed, if it is another one of the block
abbrev pub changed_if_other : (Node → Node) → ℕ → ℕ → Nodes → ℕ → Nodes
changed_if_other change from block nodes key = if not (key == from) && is_at (of_block block) nodes key then changed_at change nodes key else nodes

-- with the class that the number leads to changed, if it is another one of the block
abbrev pub passed_to : (Node → Node) → Numbers → ℕ → ℕ → Nodes → ℕ → Nodes
passed_to change numbers from block nodes n = option_map_or (changed_if_other change from block nodes) (find numbers n) nodes

-- the followers of the class at the key
abbrev pub followers_at : Nodes → ℕ → List ℕ
followers_at nodes key = option_map_or (λ x. x.followers) (node_at nodes key) []
