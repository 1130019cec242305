-- One block: its first bytes and its patches, and what it holds without some of them.
use Rattle.std.specs.Prelude.{ℕ, Bool, ◌≡◌, ◌==◌, ◌&&◌, ◌||◌, not, IsTrue, IsFalse, List, [], ◌∷◌, map, filter, slice_index_or, Contains}
use Rattle.std.specs.List.{list_all, list_any}
use Rattle.patch_model.specs.Pile.{pile}
use Rattle.patch_model.specs.Execution.{Execution}
use Rattle.patch_model.specs.Entry.{Entry, is_memory, is_live, is_undoable, is_among}
use Rattle.patch_model.specs.Dependency.{depends_directly}
use Rattle.patch_model.specs.State.{entries_of}

-- what a block held at first, and its patches in order of making
pub record History : Type 0 where
  pub first : List ℕ
  pub entries : List Entry

-- of these patches, those of the block
abbrev pub of_block : ℕ → List Entry → List Entry
of_block block all = filter (λ e. e.patch.block == block) all

-- the history of a block of an execution
abbrev pub history_of : Execution → ℕ → History
history_of run block = record { first = slice_index_or run.first block []; entries = of_block block (entries_of run) }

-- the pile, over the first bytes, of the patches that pass
abbrev pub pile_of : History → (Entry → Bool) → List ℕ
pile_of h keeps = pile h.first (map (λ e. e.patch) (filter keeps h.entries))

-- the block without the classes of these names
abbrev pub without : History → List ℕ → List ℕ
without h names = pile_of h (λ e. not (is_among names e.class))

-- the block with all its patches
abbrev pub cached : History → List ℕ
cached h = without h []

-- the block with those of its patches that are in flight or durable
abbrev pub image : History → List ℕ
image h = pile_of h (λ e. not (is_memory e))

-- undoable classes of the block, in which stands each live class of it that depends directly on one of them
pub record HoldsDependents (h : History) (names : List ℕ) : Type 0 where
  pub undoable : (c : ℕ) → IsTrue (is_among names c) → (e : Entry) × Contains h.entries e × (e.class ≡ c) × IsTrue (is_undoable e)
  pub dependents : (e f : Entry) → Contains h.entries e → Contains h.entries f → IsTrue (is_live e) → IsTrue (depends_directly e.patch f.patch)
      → IsTrue (is_among names f.class) → IsTrue (is_among names e.class)

-- the test of it
abbrev pub holds_dependents : History → List ℕ → Bool
holds_dependents h names =
    list_all (λ c. list_any (λ e. e.class == c && is_undoable e) h.entries) names
    && list_all (λ e. list_all (λ f. not (is_live e && depends_directly e.patch f.patch && is_among names f.class) || is_among names e.class) h.entries) h.entries

-- a class is taken back, or put back
pub data Move : Type 0 where
  Take : ℕ → Move
  Back : ℕ → Move

-- the names that are taken after the move
abbrev pub moved : List ℕ → Move → List ℕ
moved names (Take c) = c ∷ names
moved names (Back c) = filter (λ n. not (n == c)) names

-- what isn't taken is taken, or what is taken is put back
abbrev pub IsMove : List ℕ → Move → Type 0
IsMove names (Take c) = IsFalse (is_among names c)
IsMove names (Back c) = IsTrue (is_among names c)

-- after each move the classes that are taken hold their dependents
abbrev pub IsPermitted : History → List ℕ → List Move → Type 0
IsPermitted h names [] = Unit {0}
IsPermitted h names (m ∷ ms) =
    IsMove names m × HoldsDependents h (moved names m) × IsPermitted h (moved names m) ms
