-- Classes made durable, and so forgotten.
use Rattle.std.specs.Prelude.{ℕ, Bool, true, false, ◌≡◌, ◌≢◌, ◌<◌, ◌+◌, ◌==◌, ◌&&◌, if◌then◌else◌, List, length, count_by, Some, None, slice_index_or}
use Rattle.std.specs.Option.{option_map, option_map_or}
use Rattle.patch_model.specs.Entry.{marks_flight, is_among}
use Rattle.patch_links.specs.State.{Class, Links, Nodes, Slots, Numbers, find, class_at, leads_at, node_at}
use Rattle.patch_links.specs.Waiting.{AreOwed, AreCounted}
use Rattle.patch_links.specs.Lists.{OfBlock, Blocks, of_at, once, ChangesOf, LosesFlying}
use Rattle.patch_links.specs.Invariants.{bare, Stands}

-- the class is in flight of the block
abbrev pub lands : ℕ → Class → Bool
lands block c = marks_flight c.mark && c.block == block

abbrev pub lands_at : Slots → ℕ → ℕ → Bool
lands_at slots block key = option_map_or (lands block) (class_at slots key) false

-- the numbers of the list up to this place are found no more, and the others as before
pub record AreForgotten (members : List ℕ) (old new : Numbers) (upto : ℕ) : Type 0 where
  pub gone : (i : ℕ) → i < upto → find new (slice_index_or members i 0) ≡ None
  pub kept : (n : ℕ) → ((i : ℕ) → i < upto → slice_index_or members i 0 ≢ n) → find new n ≡ find old n

-- of the keys in the set, the classes in flight of the block are forgotten, with their members
pub record AreLanded (old_slots new_slots : Slots) (old new : Numbers) (block : ℕ) (set : ℕ → Bool) : Type 0 where
  pub slots : (key : ℕ) → class_at new_slots key ≡ (if set key && lands_at old_slots block key then None else class_at old_slots key)
  pub gone : (key n : ℕ) (c : Class) → set key ≡ true → class_at old_slots key ≡ Some c → lands block c ≡ true → is_among c.members n ≡ true → find new n ≡ None
  pub kept : (n : ℕ) → ((key : ℕ) (c : Class) → set key ≡ true → class_at old_slots key ≡ Some c → lands block c ≡ true → is_among c.members n ≡ false) → find new n ≡ find old n
  pub long : length new_slots ≡ length old_slots

-- the classes in flight of the block are forgotten
abbrev pub HasLanded : ℕ → Links → Links → Type 0
HasLanded block old new = AreLanded old.slots new.slots old.numbers new.numbers block (λ key. true)

-- a class in flight was taken out of the block's lists
pub record HasPopped (block : ℕ) (old new : Blocks) (key : ℕ) : Type 0 where
  pub left : OfBlock
  pub loses : LosesFlying (of_at old block) left key
  pub changed : ChangesOf block old new left

-- a class in flight was taken out of the block's lists, and is in its slot still
pub record IsLanding (block : ℕ) (nodes : Nodes) (numbers : Numbers) (blocks : Blocks) (key : ℕ) : Type 0 where
  pub before : Blocks
  pub stands : Stands nodes numbers before
  pub popped : HasPopped block before blocks key

-- the class at the key is forgotten, and else nothing but ready sets and counts has changed
pub record IsForgotten (key : ℕ) (old_nodes new_nodes : Nodes) (old new : Numbers) : Type 0 where
  pub none : node_at new_nodes key ≡ None
  pub others : (k : ℕ) → k ≢ key → option_map bare (node_at new_nodes k) ≡ option_map bare (node_at old_nodes k)
  pub numbers : (n : ℕ) → find new n ≡ (if leads_at old key n then None else find old n)
  pub long : length new_nodes ≡ length old_nodes

-- the classes are told of what these numbers led to
abbrev pub AreTold : Numbers → List ℕ → Nodes → Nodes → Type 0
AreTold numbers followers old new = AreOwed old numbers (λ key c. count_by (leads_at numbers key) followers) → AreCounted new numbers

-- the class that the number leads to waits no more for it
abbrev pub PaysLed : Numbers → ℕ → Nodes → Nodes → Type 0
PaysLed numbers n old new = (debt : ℕ → Class → ℕ) → AreOwed old numbers (λ key c. debt key c + once (leads_at numbers key n)) → AreOwed new numbers debt
