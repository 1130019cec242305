-- Which executions a cache represents.
use Rattle.std.specs.Prelude.{ℕ, Bool, true, false, ◌≡◌, ◌==◌, ◌<◌, IsTrue, IsFalse, List, [], Option, Some, None, Contains, length, count_by, if◌then◌else◌}
use Rattle.patch_model.specs.Entry.{is_live}
use Rattle.patch_model.specs.Execution.{Execution}
use Rattle.patch_model.specs.State.{entries_of, state_of, has_flight, flying_of, numbers_of}
use Rattle.patch_model.specs.Legal.{IsLegal}
use Rattle.patch_model.specs.Renewed.{is_clean}
use Rattle.patch_model.specs.History.{history_of}
use Rattle.patch_view.specs.Meaning.{IsBlockOf}
use Rattle.patch_graph.specs.Meaning.{IsGraphOf}
use Rattle.patch_cache.specs.Contents.{Contents, Write, block_at, is_resident, write_at}

-- the block's write under way, or that it has none
abbrev pub IsWriteOf : Execution → ℕ → Option Write → Type 0
IsWriteOf run block None = IsFalse (has_flight (state_of run) block)
IsWriteOf run block (Some write) = Contains (state_of run).flights (block, write.sequence) × (write.numbers ≡ numbers_of (flying_of (entries_of run) block))

-- The cache holds what a legal execution left: each resident block with its patches but for the classes that are taken back of it,
-- of no other block a live patch, the graph of its live patches, their count, the count of sends, and each write under way. It may
-- hold all of it: then each block is resident.
pub record Shows (whole : Bool) (c : Contents) (taken : ℕ → List ℕ) (run : Execution) : Type 0 where
  pub legal : IsLegal run
  pub count : length c.blocks ≡ length run.first
  pub blocks : (b : ℕ) → IsTrue (is_resident c b) → IsBlockOf (block_at c b) (taken b) (history_of run b)
  pub absent : (b : ℕ) → b < length run.first → IsFalse (is_resident c b) → IsTrue (is_clean run b)
  pub resident : IsTrue whole → (b : ℕ) → b < length run.first → IsTrue (is_resident c b)
  pub writes : (b : ℕ) → b < length run.first → IsWriteOf run b (write_at c b)
  pub graph : IsGraphOf c.graph (entries_of run)
  pub sends : c.sends ≡ (state_of run).sends
  pub live : c.live ≡ count_by is_live (entries_of run)

-- with nothing taken back
abbrev pub IsCacheBy : (whole : Bool) → Contents → Execution → Type 0
IsCacheBy whole c run = Shows whole c (λ _. []) run

-- all blocks are resident
abbrev pub IsCacheOf : Contents → Execution → Type 0
IsCacheOf c run = IsCacheBy true c run

-- some are, as the cache was handed them
abbrev pub IsPagedCacheOf : Contents → Execution → Type 0
IsPagedCacheOf c run = IsCacheBy false c run

-- the classes that are taken back are these, and all of one block
abbrev pub only_of : ℕ → List ℕ → ℕ → List ℕ
only_of block names b = if b == block then names else []

-- with these classes of one block taken back
abbrev pub ShowsBy : (whole : Bool) → Contents → ℕ → List ℕ → Execution → Type 0
ShowsBy whole c block names run = Shows whole c (only_of block names) run

abbrev pub ShowsWithout : Contents → ℕ → List ℕ → Execution → Type 0
ShowsWithout c block names run = ShowsBy true c block names run
