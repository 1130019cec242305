-- What a cache holds.
use Rattle.std.specs.Prelude.{ℕ, Bool, List, [], Option, None, Some, is_some, slice_index_or, slice_set}
use Rattle.patch_model.specs.Step.{Step}
use Rattle.patch_stacks.specs.State.{Block}
use Rattle.patch_graph.specs.State.{Graph}

-- a write under way: how many began before it, and the numbers of the patches in it
pub record Write : Type 0 where
  pub sequence : ℕ
  pub numbers : List ℕ

-- a resident block: its bytes and records, and its write under way
pub record Resident : Type 0 where
  pub state : Block
  pub write : Option Write

-- each block that is resident, and its write under way, the graph of the patches, how many writes began, how many patches are live,
-- and the steps since the trace was drained
pub record Contents : Type 0 where
  pub blocks : List (Option Block)
  pub writes : List (Option Write)
  pub graph : Graph
  pub sends : ℕ
  pub live : ℕ
  pub trace : List Step

-- what a row of a resident block holds
abbrev pub state_in : Option Resident → Option Block
state_in None = None
state_in (Some row) = Some row.state

abbrev pub write_in : Option Resident → Option Write
write_in None = None
write_in (Some row) = row.write

abbrev pub no_block : Block
no_block = record { bytes = []; classes = [] }

abbrev pub block_or_none : Option Block → Block
block_or_none None = no_block
block_or_none (Some block) = block

abbrev pub block_at : Contents → ℕ → Block
block_at c n = block_or_none (slice_index_or c.blocks n None)

-- the block is resident
abbrev pub is_resident : Contents → ℕ → Bool
is_resident c n = is_some (slice_index_or c.blocks n None)

abbrev pub write_at : Contents → ℕ → Option Write
write_at c n = slice_index_or c.writes n None

-- the cache with one block in another state
abbrev pub with_block : Contents → ℕ → Block → Contents
with_block c n b = record c { blocks = slice_set c.blocks n (Some b) }

-- the cache with no step in its trace
abbrev pub drained : Contents → Contents
drained c = record c { trace = [] }
