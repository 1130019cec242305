-- The keys of a block's classes that are ready, and of those in flight.
use Rattle.std.specs.Prelude.{ℕ, Bool, true, Option, None, Some, ◌≡◌, ◌≢◌, ◌<◌, ◌≤◌, ◌⊎◌, ◌-◌, ◌==◌, ◌&&◌, ◌∷◌, ◌++◌, if◌then◌else◌, not, is_some, map, slice_index_or, take, List, [], length, count_by, false}
use Rattle.std.specs.Option.{option_map_or}
use Rattle.patch_model.specs.declared.limits.TheConstants.{MAX_CACHED}
use Rattle.patch_model.specs.Entry.{marks_flight}
use Rattle.patch_numbers.specs.BlockSets.{holds, HasRoom}
use Rattle.patch_links.specs.State.{Node, Nodes, is_at}
use Rattle.patch_links.specs.Waiting.{of_block, ready_in, is_due}

-- of a block: the keys of the classes that nothing keeps out of its ready set, of which so many are in it, those of its
-- classes in flight, how many classes it has, and how many keys there is room for
pub record OfBlock : Type 0 where
  pub ready : List ℕ
  pub done : ℕ
  pub flying : List ℕ
  pub count : ℕ
  pub room_ready : ℕ
  pub room_flying : ℕ

abbrev pub Blocks : Type 0
Blocks = List OfBlock

abbrev pub nothing : OfBlock
nothing = record { ready = []; done = 0; flying = []; count = 0; room_ready = 0; room_flying = 0 }

-- what is kept of a block, of which no row may stand
abbrev pub row_or_nothing : Option OfBlock → OfBlock
row_or_nothing None = nothing
row_or_nothing (Some of) = of

-- what is kept of each block, where so many have rows
abbrev pub lists_of : List (Option OfBlock) → Blocks
lists_of rows = map row_or_nothing rows

-- those of all blocks
pub record ByBlock : Type 0 where
  pub items : Blocks

-- what is kept of the block
abbrev pub of_at : Blocks → ℕ → OfBlock
of_at blocks block = slice_index_or blocks block nothing

-- how often the key stands in the list
abbrev pub times : List ℕ → ℕ → ℕ
times keys key = count_by (λ k. k == key) keys

abbrev pub once : Bool → ℕ
once b = if b then 1 else 0

-- the list holds each key whose node passes just once, and nothing else
abbrev pub HoldsJust : (Node → Bool) → Nodes → List ℕ → Type 0
HoldsJust test nodes keys = (key : ℕ) → times keys key ≡ once (is_at test nodes key)

abbrev pub due_in : ℕ → Node → Bool
due_in block x = x.class.block == block && is_due x

abbrev pub flying_in : ℕ → Node → Bool
flying_in block x = x.class.block == block && marks_flight x.class.mark

-- how many of the block's classes there are
abbrev pub classes_of : ℕ → Nodes → ℕ
classes_of block nodes = count_by (λ o. option_map_or (of_block block) o false) nodes

-- the lists are those of the block's classes, and each has room for all of them
pub record IsListed (block : ℕ) (nodes : Nodes) (of : OfBlock) : Type 0 where
  pub due : HoldsJust (due_in block) nodes of.ready
  pub ready : HoldsJust (ready_in block) nodes (take of.done of.ready)
  pub flying : HoldsJust (flying_in block) nodes of.flying
  pub counted : of.count ≡ classes_of block nodes
  pub within : of.done ≤ length of.ready
  pub room_ready : of.count ≤ of.room_ready
  pub room_flying : of.count ≤ of.room_flying

-- each block's lists are those of its classes
abbrev pub AreListed : Nodes → Blocks → Type 0
AreListed nodes blocks = (block : ℕ) → IsListed block nodes (of_at blocks block)

-- each class that nothing keeps out is in its block's ready set
abbrev pub IsSettled : OfBlock → Type 0
IsSettled of = of.done ≡ length of.ready

abbrev pub AreSettled : Blocks → Type 0
AreSettled blocks = (block : ℕ) → IsSettled (of_at blocks block)

abbrev pub pushed : OfBlock → ℕ → OfBlock
pushed of key = record of { ready = of.ready ++ key ∷ [] }

-- one block's lists were changed
pub record ChangesOf (block : ℕ) (old new : Blocks) (of : OfBlock) : Type 0 where
  pub here : of_at new block ≡ of
  pub others : (other : ℕ) → other ≢ block → of_at new other ≡ of_at old other

-- the last of the keys in flight was taken out
pub record LosesFlying (old new : OfBlock) (key : ℕ) : Type 0 where
  pub was : old.flying ≡ new.flying ++ key ∷ []
  pub changed : new ≡ record old { flying = new.flying; count = old.count - 1 }

-- a write of the block can begin: something of it is ready, and nothing in flight
abbrev pub is_open : OfBlock → Bool
is_open of = not (length of.ready == 0) && length of.flying == 0

-- the set has just those blocks of which a write can begin
abbrev pub AreOpen : List ℕ → Blocks → Type 0
AreOpen words blocks = (block : ℕ) → block < MAX_CACHED → holds words block ≡ is_open (of_at blocks block)

-- the set has room for each block whose row stands
abbrev pub HasRooms : List ℕ → List (Option OfBlock) → Type 0
HasRooms words rows = (block : ℕ) → is_some (slice_index_or rows block None) ≡ true → block < MAX_CACHED → HasRoom words block

-- the set has just those blocks of which a write can begin, and room for each whose row stands
pub record AreNoted (words : List ℕ) (rows : List (Option OfBlock)) : Type 0 where
  pub just : AreOpen words (lists_of rows)
  pub room : HasRooms words rows

-- the lists of blocks that have no class may have gone
abbrev pub LetsGo : Blocks → Blocks → Type 0
LetsGo old new = (block : ℕ) → (of_at new block ≡ of_at old block) ⊎ (((of_at old block).count ≡ 0) × (of_at new block ≡ nothing))

-- the least block from one on of which a write can begin
abbrev pub IsLeastOpen : Blocks → ℕ → Option ℕ → Type 0
IsLeastOpen blocks from None = (block : ℕ) → from ≤ block → block < MAX_CACHED → is_open (of_at blocks block) ≡ false
IsLeastOpen blocks from (Some least) = (from ≤ least) × (least < MAX_CACHED) × (is_open (of_at blocks least) ≡ true) × ((block : ℕ) → from ≤ block → block < least → is_open (of_at blocks block) ≡ false)
