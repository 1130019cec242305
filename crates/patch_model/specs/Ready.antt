-- What a send of a block takes: the largest set that may be written.
use Rattle.std.specs.Prelude.{ℕ, zero, suc, Bool, ◌≡◌, ◌<◌, ◌⊎◌, ◌==◌, ◌&&◌, ◌||◌, not, IsTrue, List, [], ◌∷◌, length, filter, Contains}
use Rattle.std.specs.List.{list_any, list_all, AllByRecursion}
use Rattle.patch_model.specs.Entry.{Entry, is_durable, in_memory_of}
use Rattle.patch_model.specs.Dependency.{depends_directly}

-- whole in-memory classes of the block, each of whose direct dependencies is durable or in the set
pub record IsWritable (all : List Entry) (block : ℕ) (set : List Entry) : Type 0 where
  pub in_memory : (e : Entry) → Contains set e → Contains all e × IsTrue (in_memory_of block e)
  pub whole : (e f : Entry) → Contains set e → Contains all f → f.class ≡ e.class → Contains set f
  pub met : (e f : Entry) → Contains set e → Contains all f → IsTrue (depends_directly e.patch f.patch) → IsTrue (is_durable f) ⊎ Contains set f

-- one such set, and each other such set is inside it
pub record IsLargestWritable (all : List Entry) (block : ℕ) (set : List Entry) : Type 0 where
  pub writable : IsWritable all block set
  pub largest : (other : List Entry) → IsWritable all block other → (e : Entry) → Contains other e → Contains set e

-- the patches stand in the order of their numbers, none twice
abbrev pub IsRising : List Entry → Type 0
IsRising [] = Unit {0}
IsRising (e ∷ es) = AllByRecursion (λ f. e.patch.no < f.patch.no) es × IsRising es

-- How it is computed.

-- the patch is among these
abbrev pub has : List Entry → Entry → Bool
has set e = list_any (λ f. f.patch.no == e.patch.no) set

-- all of the patch's class is in the set
abbrev pub is_whole_in : List Entry → List Entry → Entry → Bool
is_whole_in all set e = list_all (λ f. not (f.class == e.class) || has set f) all

-- each patch that this one depends on directly is durable or in the set
abbrev pub is_met_in : List Entry → List Entry → Entry → Bool
is_met_in all set e = list_all (λ f. not (depends_directly e.patch f.patch) || is_durable f || has set f) all

abbrev pub may_stay : List Entry → List Entry → Entry → Bool
may_stay all set e = is_whole_in all set e && is_met_in all set e

-- the set, struck n times of what may not stay in it
abbrev pub struck : ℕ → (List Entry → Entry → Bool) → List Entry → List Entry
struck zero stays set = set
struck (suc n) stays set = struck n stays (filter (stays set) set)

-- of the block's patches in memory, those that are left when nothing more need be struck out
abbrev pub ready : List Entry → ℕ → List Entry
ready all block = struck (length all) (may_stay all) (filter (in_memory_of block) all)

-- no other list in the order of its numbers is a largest set
abbrev pub ReadyIsOnly : Type 0
ReadyIsOnly = (all : List Entry) (block : ℕ) (set : List Entry) → IsRising all → IsLargestWritable all block set → IsRising set → set ≡ ready all block
