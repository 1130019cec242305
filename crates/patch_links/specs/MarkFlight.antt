-- Classes put in flight.
use Rattle.std.specs.Prelude.{ℕ, Bool, false, ◌≡◌, if◌then◌else◌}
use Rattle.std.specs.Option.{option_map}
use Rattle.patch_model.specs.declared.patches.Mark.TheVariants.{Flight}
use Rattle.patch_links.specs.State.{Class, Node, Nodes, Links, Slots, class_at, node_at, is_at, slots_of}
use Rattle.patch_links.specs.Waiting.{of_block}
use Rattle.patch_links.specs.Invariants.{KeepsPlain}
use Rattle.patch_links.specs.Ready.{IsReadySet}

abbrev pub flown : Class → Class
flown c = record c { mark = Flight }

-- each class in the set is in flight, and the others are as they were
abbrev pub AreFlown : (ℕ → Bool) → Slots → Slots → Type 0
AreFlown set old new = (key : ℕ) → class_at new key ≡ option_map (λ c. if set key then flown c else c) (class_at old key)

-- the classes of the block's ready set are in flight
pub record HasFlown (block : ℕ) (old new : Links) : Type 0 where
  pub set : ℕ → Bool
  pub is : IsReadySet old.slots old.numbers block set
  pub flown : AreFlown set old.slots new.slots
  pub numbers : new.numbers ≡ old.numbers
  pub made : new.made ≡ old.made

abbrev pub flown_node : Node → Node
flown_node x = record x { class = flown x.class }

-- the nodes in the set are in flight, and the others as they were
abbrev pub AreNodesFlown : (ℕ → Bool) → Nodes → Nodes → Type 0
AreNodesFlown set old new = (key : ℕ) → node_at new key ≡ option_map (λ x. if set key then flown_node x else x) (node_at old key)

-- the classes in the set are in flight, and else nothing but ready set and counts of the block has changed
pub record IsPutInFlight (block : ℕ) (set : ℕ → Bool) (old new : Nodes) : Type 0 where
  pub flown : AreFlown set (slots_of old) (slots_of new)
  pub plain : KeepsPlain old new
  pub others : (key : ℕ) → is_at (of_block block) old key ≡ false → node_at new key ≡ node_at old key
