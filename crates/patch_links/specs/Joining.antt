-- The steps by which two classes are made one.
use Rattle.std.specs.Prelude.{ℕ, Bool, true, ◌≡◌, ◌≢◌, ◌≤◌, ◌+◌, ◌++◌, ◌&&◌, ◌==◌, not, if◌then◌else◌, Some, None, count_by}
use Rattle.patch_links.specs.State.{Class, Node, Nodes, Slots, Numbers, class_at, leads_at, node_at, is_at}
use Rattle.patch_links.specs.Waiting.{ready_in, AreCounted, AreLinked}
use Rattle.patch_links.specs.Lists.{OfBlock, IsListed, IsSettled}
use Rattle.patch_links.specs.Invariants.{AreMembers, AreBelow}
use Rattle.patch_links.specs.Merging.{joined_class, AreRedirected, IsJoined, may_join, may_join_at}

-- how often the class depends on that at the key, and that one on it
abbrev pub inner : Numbers → ℕ → Node → ℕ
inner numbers key x = count_by (leads_at numbers key) x.class.after + count_by (leads_at numbers key) x.followers

-- the node that was at the one key is part of that at the other, and neither waits for the other any more
pub record IsNodeJoined (keep gone : ℕ) (x y : Node) (numbers : Numbers) (old new : Nodes) : Type 0 where
  pub node : Node
  pub here : node_at new keep ≡ Some node
  pub none : node_at new gone ≡ None
  pub others : (k : ℕ) → k ≢ keep → k ≢ gone → node_at new k ≡ node_at old k
  pub class : node.class ≡ joined_class x.class y.class
  pub followers : node.followers ≡ x.followers ++ y.followers
  pub ready : node.ready ≡ x.ready
  pub waits : node.waits + (if x.ready then 0 else inner numbers keep y) ≡ x.waits + y.waits

-- the key is neither of the two
abbrev pub is_neither : ℕ → ℕ → ℕ → Bool
is_neither keep gone key = not (key == keep) && not (key == gone)

-- members, followers and counts agree
pub record AreTied (nodes : Nodes) (numbers : Numbers) : Type 0 where
  pub members : AreMembers nodes numbers
  pub linked : AreLinked nodes numbers
  pub counted : AreCounted nodes numbers

-- what is always true stays so, but for what the block's own lists say
pub record KeepsOrder (block : ℕ) (old new : Nodes) (numbers now : Numbers) : Type 0 where
  pub tied : AreTied old numbers → AreTied new now
  pub aside : (other : ℕ) (of : OfBlock) → other ≢ block → IsListed other old of → IsListed other new of
  pub below : (made : ℕ) → AreBelow made old → AreBelow made new

-- the node with the other one's patches and followers, where so many of what they waited for was each other
pub record IsAbsorbed (x y z : Node) (inner : ℕ) : Type 0 where
  pub class : z.class ≡ joined_class x.class y.class
  pub followers : z.followers ≡ x.followers ++ y.followers
  pub ready : z.ready ≡ x.ready
  pub waits : z.waits + inner ≡ x.waits + y.waits

-- the same of the node at the key
pub record HasAbsorbed (key : ℕ) (y : Node) (inner : ℕ) (old new : Nodes) : Type 0 where
  pub here : (x : Node) → node_at old key ≡ Some x → (z : Node) × (node_at new key ≡ Some z) × IsAbsorbed x y z inner
  pub others : (k : ℕ) → k ≢ key → node_at new k ≡ node_at old k

abbrev pub AreNodesJoined : ℕ → ℕ → Numbers → Nodes → Nodes → Type 0
AreNodesJoined keep gone numbers old new = (x y : Node) → node_at old keep ≡ Some x → node_at old gone ≡ Some y → IsNodeJoined keep gone x y numbers old new

-- the numbers of the class that was at the one key lead to the other
abbrev pub AreMoved : ℕ → ℕ → Nodes → Numbers → Numbers → Type 0
AreMoved keep gone nodes old new = (y : Node) → node_at nodes gone ≡ Some y → AreRedirected y.class.members keep old new

-- the same of classes
abbrev pub AreClassesJoined : ℕ → ℕ → Slots → Slots → Numbers → Numbers → Type 0
AreClassesJoined keep gone old new numbers now = (c d : Class) → class_at old keep ≡ Some c → class_at old gone ≡ Some d → IsJoined keep gone c d old new numbers now

-- the same where the two may be made one
abbrev pub AreClassesJoinedIf : ℕ → ℕ → Slots → Slots → Numbers → Numbers → Type 0
AreClassesJoinedIf keep gone old new numbers now = may_join_at keep gone old ≡ true → AreClassesJoined keep gone old new numbers now

-- two classes of the block that may be made one
pub record IsPair (block keep gone : ℕ) (nodes : Nodes) : Type 0 where
  pub apart : keep ≢ gone
  pub one : Node
  pub other : Node
  pub at_keep : node_at nodes keep ≡ Some one
  pub at_gone : node_at nodes gone ≡ Some other
  pub may : may_join one.class other.class ≡ true
  pub of : one.class.block ≡ block

-- both are in the ready set, or neither is
abbrev pub AreLevel : ℕ → ℕ → ℕ → Nodes → Type 0
AreLevel block keep gone nodes = is_at (ready_in block) nodes keep ≡ is_at (ready_in block) nodes gone

-- where the class is in the ready set, that has all that nothing keeps out
abbrev pub IsSettledFor : ℕ → ℕ → Nodes → OfBlock → Type 0
IsSettledFor block key nodes of = is_at (ready_in block) nodes key ≡ true → IsSettled of

-- the two classes are one, and the lists are those of before
pub record IsRelisting (block keep gone : ℕ) (ready : Bool) (nodes : Nodes) (of : OfBlock) : Type 0 where
  pub before : Nodes
  pub numbers : Numbers
  pub pair : IsPair block keep gone before
  pub level : AreLevel block keep gone before
  pub joined : AreNodesJoined keep gone numbers before nodes
  pub listed : IsListed block before of
  pub settled : IsSettledFor block keep before of
  pub flag : ready ≡ is_at (ready_in block) before keep

-- the class at the key and the other one wait for no fewer
abbrev pub FitsAt : Nodes → ℕ → Node → ℕ → Type 0
FitsAt nodes key other inner = (x : Node) → node_at nodes key ≡ Some x → inner ≤ x.waits + other.waits

abbrev pub may_join_with : Nodes → ℕ → Class → Bool
may_join_with nodes key c = is_at (λ y. may_join c y.class) nodes key

-- the same as of the classes of the nodes
abbrev pub may_join_both : ℕ → ℕ → Nodes → Bool
may_join_both keep gone nodes = is_at (λ x. not (keep == gone) && may_join_with nodes gone x.class) nodes keep
