-- What is always true of links, and what their steps keep.
use Rattle.std.specs.Prelude.{ℕ, Bool, true, false, ◌≡◌, ◌<◌, ◌+◌, ◌==◌, ◌||◌, if◌then◌else◌, List, length}
use Rattle.std.specs.Option.{option_map}
use Rattle.patch_model.specs.Entry.{is_among}
use Rattle.patch_model.specs.declared.patches.Mark.TheVariants.{Memory}
use Rattle.patch_links.specs.State.{Class, Node, Nodes, Numbers, leads_at, node_at, is_at}
use Rattle.patch_links.specs.Waiting.{of_block, ready_in, AreCounted, AreLinked, AreOwed, passed_by}
use Rattle.patch_links.specs.Lists.{Blocks, AreListed, AreSettled}

abbrev pub has_member : ℕ → Node → Bool
has_member n x = is_among x.class.members n

-- a number leads to a key just where it is that of a member of the class there
abbrev pub AreMembers : Nodes → Numbers → Type 0
AreMembers nodes numbers = (n key : ℕ) → leads_at numbers key n ≡ is_at (has_member n) nodes key

-- the number is that of a member, or named by the class, or by one that depends on it
abbrev pub names : ℕ → Node → Bool
names n x = has_member n x || is_among x.class.after n || is_among x.followers n

-- all numbers are below this one
abbrev pub AreBelow : ℕ → Nodes → Type 0
AreBelow made nodes = (key n : ℕ) → is_at (names n) nodes key ≡ true → n < made

-- members, followers, counts and lists agree
pub record Stands (nodes : Nodes) (numbers : Numbers) (blocks : Blocks) : Type 0 where
  pub members : AreMembers nodes numbers
  pub linked : AreLinked nodes numbers
  pub counted : AreCounted nodes numbers
  pub listed : AreListed nodes blocks
  pub settled : AreSettled blocks

-- a node, but for its part in the ready set
abbrev pub bare : Node → Node
bare x = record x { ready = false; waits = 0 }

-- all but ready sets and counts is as it was
pub record KeepsBare (old new : Nodes) : Type 0 where
  pub long : length new ≡ length old
  pub bare : (key : ℕ) → option_map bare (node_at new key) ≡ option_map bare (node_at old key)

-- nothing but ready set and counts of this block has changed
pub record KeepsRest (block : ℕ) (old new : Nodes) : Type 0 where
  pub all : KeepsBare old new
  pub others : (key : ℕ) → is_at (of_block block) old key ≡ false → node_at new key ≡ node_at old key

-- what classes wait for stays as counted, whatever else they wait for
abbrev pub KeepsOwed : Numbers → Nodes → Nodes → Type 0
KeepsOwed numbers old new = (debt : ℕ → Class → ℕ) → AreOwed old numbers debt → AreOwed new numbers debt

-- the classes wait no more for what these followers led to
abbrev pub PaysOwed : Numbers → ℕ → ℕ → List ℕ → Nodes → Nodes → Type 0
PaysOwed numbers from block followers old new =
    (debt : ℕ → Class → ℕ) → AreOwed old numbers (λ key c. debt key c + passed_by numbers from block followers key c) → AreOwed new numbers debt

-- the class at the key waits no more for one of the numbers that it was to be told of
abbrev pub PaysOne : Numbers → ℕ → Nodes → Nodes → Type 0
PaysOne numbers key old new =
    (debt : ℕ → Class → ℕ) → AreOwed old numbers (λ k c. debt k c + (if k == key then 1 else 0)) → AreOwed new numbers debt

-- a node, but for its mark and its part in the ready set
abbrev pub plain : Node → Node
plain x = record (bare x) { class = record x.class { mark = Memory } }

-- all but marks, ready sets and counts is as it was
pub record KeepsPlain (old new : Nodes) : Type 0 where
  pub long : length new ≡ length old
  pub plain : (key : ℕ) → option_map plain (node_at new key) ≡ option_map plain (node_at old key)

-- each ready set is as it was
abbrev pub KeepsMarks : Nodes → Nodes → Type 0
KeepsMarks old new = (block key : ℕ) → is_at (ready_in block) new key ≡ is_at (ready_in block) old key
