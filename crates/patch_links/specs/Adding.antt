-- What one more class adds.
use Rattle.std.specs.Prelude.{ℕ, zero, suc, false, count_by, ◌≡◌, ◌≢◌, ◌<◌, ◌≤◌, ◌+◌, [], ◌∷◌, ◌++◌, List, length, take, Some, None}
use Rattle.patch_model.specs.declared.patches.Mark.TheVariants.{Memory}
use Rattle.patch_model.specs.Member.{In}
use Rattle.patch_links.specs.State.{Class, Links, Node, Nodes, Slots, Numbers, find, class_at, leads_at, node_at, slots_of, changed_at}
use Rattle.patch_links.specs.Lists.{OfBlock, Blocks, of_at, IsListed, AreListed, AreSettled}
use Rattle.std.specs.Option.{option_map, option_map_or}

-- the class is of one new patch in memory, which depends on earlier ones
pub record IsNew (made : ℕ) (c : Class) : Type 0 where
  pub fresh : made ≤ c.name
  pub members : c.members ≡ c.name ∷ []
  pub memory : c.mark ≡ Memory
  pub after : (n : ℕ) → In c.after n → n < c.name

-- one more class
pub record IsAdded (old new : Links) (key : ℕ) (c : Class) : Type 0 where
  pub made : new.made ≡ c.name + 1
  pub next : key ≡ old.next
  pub vacant : class_at old.slots key ≡ None
  pub here : class_at new.slots key ≡ Some c
  pub others : (k : ℕ) → k ≢ key → class_at new.slots k ≡ class_at old.slots k
  pub number : find new.numbers c.name ≡ Some key
  pub rest : (n : ℕ) → n ≢ c.name → find new.numbers n ≡ find old.numbers n

-- the class is of one patch in memory, which depends on earlier ones
pub record IsNewClass (c : Class) : Type 0 where
  pub members : c.members ≡ c.name ∷ []
  pub memory : c.mark ≡ Memory
  pub after : (n : ℕ) → In c.after n → n < c.name

abbrev pub with_room : ℕ → Node → Node
with_room room x = record x { room = room }

-- nothing has changed but for which followers there is room, and that is no less
pub record IsRoomier (old new : Nodes) : Type 0 where
  pub slots : slots_of new ≡ slots_of old
  pub same : (k : ℕ) → option_map (with_room 0) (node_at new k) ≡ option_map (with_room 0) (node_at old k)
  pub grows : (k : ℕ) (x y : Node) → node_at old k ≡ Some x → node_at new k ≡ Some y → x.room ≤ y.room

-- so many of these numbers, from the first on, lead to no class
pub record LeadNowhere (numbers : Numbers) (after : List ℕ) (count : ℕ) : Type 0 where
  pub within : count ≤ length after
  pub gone : (n : ℕ) → In (take count after) n → find numbers n ≡ None

-- there is room for so many more followers of the class at the key
abbrev pub HasRoom : ℕ → ℕ → Nodes → Type 0
HasRoom more key nodes = (x : Node) → node_at nodes key ≡ Some x → length x.followers + more ≤ x.room

-- the same of the class that the number leads to
abbrev pub HasRoomTo : Numbers → ℕ → ℕ → Nodes → Type 0
HasRoomTo numbers more n nodes = (key : ℕ) → find numbers n ≡ Some key → HasRoom more key nodes

-- the same of the classes that these numbers lead to
abbrev pub HasRoomForAll : Numbers → ℕ → List ℕ → Nodes → Type 0
HasRoomForAll numbers more after nodes = (n : ℕ) → In after n → HasRoomTo numbers more n nodes

abbrev pub followed : ℕ → Node → Node
followed n x = record x { followers = x.followers ++ n ∷ [] }

-- with one more follower of the class that the number leads to
abbrev pub followed_to : Numbers → ℕ → Nodes → ℕ → Nodes
followed_to numbers follower nodes n = option_map_or (changed_at (followed follower) nodes) (find numbers n) nodes

-- the numbers with another one behind them, so many times
abbrev pub told : ℕ → ℕ → List ℕ → List ℕ
told n zero xs = xs
told n (suc count) xs = told n count xs ++ n ∷ []

abbrev pub retold : ℕ → ℕ → Node → Node
retold n count x = record x { followers = told n count x.followers }

-- of each class the number is a follower, for each time that it is led to
pub record AreFollowed (numbers : Numbers) (follower : ℕ) (after : List ℕ) (old new : Nodes) : Type 0 where
  pub long : length new ≡ length old
  pub at : (k : ℕ) → node_at new k ≡ option_map (retold follower (count_by (leads_at numbers k) after)) (node_at old k)

-- the same keys, and room for no fewer
pub record IsRoomierOf (old new : OfBlock) : Type 0 where
  pub same : new ≡ record old { room_ready = new.room_ready; room_flying = new.room_flying }
  pub ready : old.room_ready ≤ new.room_ready
  pub flying : old.room_flying ≤ new.room_flying

abbrev pub KeepsLists : Blocks → Blocks → Type 0
KeepsLists old new = (block : ℕ) → IsRoomierOf (of_at old block) (of_at new block)

-- the block's lists have room for one more class
abbrev pub HasLists : ℕ → Blocks → Type 0
HasLists block blocks = ((of_at blocks block).count < (of_at blocks block).room_ready) × ((of_at blocks block).count < (of_at blocks block).room_flying)

-- a node, but for its followers
abbrev pub unfollowed : Node → Node
unfollowed x = record x { followers = []; room = 0 }

-- one more class of the block, in no list yet; of the others only followers have changed
pub record IsNewcomer (block key : ℕ) (old new : Nodes) : Type 0 where
  pub vacant : node_at old key ≡ None
  pub node : Node
  pub here : node_at new key ≡ Some node
  pub of : node.class.block ≡ block
  pub ready : node.ready ≡ false
  pub memory : node.class.mark ≡ Memory
  pub others : (k : ℕ) → k ≢ key → option_map unfollowed (node_at new k) ≡ option_map unfollowed (node_at old k)

pub record IsJoining (block key : ℕ) (nodes : Nodes) (of : OfBlock) : Type 0 where
  pub before : Nodes
  pub listed : IsListed block before of
  pub newcomer : IsNewcomer block key before nodes
  pub room : (of.count < of.room_ready) × (of.count < of.room_flying)

pub record IsEnlisting (block key : ℕ) (nodes : Nodes) (blocks : Blocks) : Type 0 where
  pub before : Nodes
  pub listed : AreListed before blocks
  pub settled : AreSettled blocks
  pub newcomer : IsNewcomer block key before nodes
  pub room : HasLists block blocks

-- one more class, at the key
pub record HasPut (old new : Slots) (numbers now : Numbers) (key : ℕ) (c : Class) : Type 0 where
  pub vacant : class_at old key ≡ None
  pub here : class_at new key ≡ Some c
  pub others : (k : ℕ) → k ≢ key → class_at new k ≡ class_at old k
  pub number : find now c.name ≡ Some key
  pub rest : (n : ℕ) → n ≢ c.name → find now n ≡ find numbers n
