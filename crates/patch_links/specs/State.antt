-- What links hold.
use Rattle.std.specs.Prelude.{ℕ, Bool, false, ◌<◌, ◌≤◌, ◌==◌, nat_eq, List, Option, None, Some, map, slice_index_or, slice_set}
use Rattle.std.specs.List.{list_any}
use Rattle.std.specs.Map.{lookup}
use Rattle.std.specs.Option.{option_map, option_map_or}
use Rattle.patch_model.specs.declared.patches.Mark.{Mark}
use Rattle.patch_links.specs.declared.nodes.Reach.{Reach}

-- no number
abbrev pub no_reach : Reach
no_reach = record { from = 0; to = 0 }

-- the number is of the reach
abbrev pub IsInReach : Reach → ℕ → Type 0
IsInReach r n = (r.from ≤ n) × (n < r.to)

-- a live class: its name, its patches' numbers, its block, its mark, whether it is hard, its span, the numbers that its
-- patches depend on, and what it reaches
pub record Class : Type 0 where
  pub name : ℕ
  pub members : List ℕ
  pub block : ℕ
  pub mark : Mark
  pub hard : Bool
  pub start : ℕ
  pub stop : ℕ
  pub after : List ℕ
  pub reach : Reach

abbrev pub Slots : Type 0
Slots = List (Option Class)

abbrev pub Numbers : Type 0
Numbers = List (ℕ × ℕ)

-- a number that no number of a patch has reached, the classes by key, the key of the next one, and the key of each live number
pub record Links : Type 0 where
  pub made : ℕ
  pub slots : Slots
  pub next : ℕ
  pub numbers : Numbers

-- the key of the class of a live number
abbrev pub find : Numbers → ℕ → Option ℕ
find numbers n = lookup (nat_eq n) numbers

abbrev pub class_at : Slots → ℕ → Option Class
class_at slots key = slice_index_or slots key None

-- the class depends directly on that at this key
abbrev pub leads_at : Numbers → ℕ → ℕ → Bool
leads_at numbers key n = option_map_or (λ k. k == key) (find numbers n) false

abbrev pub leads : Numbers → Class → ℕ → Bool
leads numbers c key = list_any (leads_at numbers key) c.after

-- a class as the links keep it: whether its block's ready set has it, how many of the numbers that it depends on keep
-- it out, a number of each class that depends on it for each time that it does, and how many of these there is room for
pub record Node : Type 0 where
  pub class : Class
  pub ready : Bool
  pub waits : ℕ
  pub followers : List ℕ
  pub room : ℕ

abbrev pub Nodes : Type 0
Nodes = List (Option Node)

abbrev pub node_at : Nodes → ℕ → Option Node
node_at nodes key = slice_index_or nodes key None

-- the classes of the nodes
abbrev pub slots_of : Nodes → Slots
slots_of nodes = map (option_map (λ x. x.class)) nodes

-- there is a node at the key, and it passes the test
abbrev pub is_at : (Node → Bool) → Nodes → ℕ → Bool
is_at test nodes key = option_map_or test (node_at nodes key) false

-- with the node at the key changed, if there is one
abbrev pub changed_at : (Node → Node) → Nodes → ℕ → Nodes
changed_at change nodes key = option_map_or (λ x. slice_set nodes key (Some (change x))) (node_at nodes key) nodes
