-- What a book keeps whenever nobody is at work on it.
use Rattle.std.specs.Prelude.{ℕ, Bool, true, false, List, [], ◌≡◌, ◌≤◌, ◌==◌, length, map, count_by, slice_index_or, replicate}
use Rattle.patch_model.specs.declared.limits.TheConstants.{MAX_WRITER}
use Rattle.patch_model.specs.Step.{Step, Complete}
use Rattle.patch_model.specs.Execution.{Execution}
use Rattle.patch_model.specs.Legal.{IsLegal}
use Rattle.patch_cache.specs.Meaning.{IsCacheOf}
use Rattle.patch_cache.specs.Waves.{is_send}
use Rattle.patch_history.specs.Command.{Command, Reply}
use Rattle.patch_history.specs.Commands.{command_of, reply_told}
use Rattle.patch_history.specs.History.{History, BookCall, steps_of, calls_of}
use Rattle.patch_store.specs.Meaning.{Store, IsStoreOf}
use Rattle.patch_store.specs.Opening.{IsOpened}
use Rattle.patch_shared.specs.declared.actors.Actor.{Actor}
use Rattle.patch_shared.specs.declared.actors.Actor.TheVariants.{Writer, Flusher, Completer}
use Rattle.patch_shared.specs.declared.actors.Counts.{Counts}
use Rattle.patch_shared.specs.declared.entries.Entry.{Entry as CodeEntry}
use Rattle.patch_shared.specs.declared.entries.Rest.{Rest}

-- a command that was answered: who gave it, and how many steps there were at its start and at its end
pub record Entry : Type 0 where
  pub actor : Actor
  pub command : Command
  pub reply : Reply
  pub before : ℕ
  pub after : ℕ

-- that of the code
abbrev pub entry_of : {A : Type 0} → CodeEntry A → Entry
entry_of e = record { actor = e.actor; command = command_of e.command; reply = reply_told e.reply; before = e.before; after = e.after }

-- and that of a call of a history
abbrev pub entry_for : BookCall → Entry
entry_for c = record { actor = Writer c.writer; command = c.command; reply = c.reply; before = c.before; after = c.after }

-- what contracts see of a book. The steps are those of the store's trace
pub record Book : Type 0 where
  pub store : Store
  pub opening : List (List ℕ)
  pub calls : List Entry
  pub counts : Counts

-- a store and the rest of its book
abbrev pub book_with : {A : Type 0} → Store → Rest A → Book
book_with s rest = record { store = s; opening = rest.opening.items; calls = map entry_of rest.calls.items; counts = rest.counts }

-- its opening blocks, and all steps since
abbrev pub run_of : Book → Execution
run_of b = record { first = b.opening; steps = b.store.cache.trace }

-- The store represents a history that began with the opening blocks. Its steps are those of the book, and its calls the
-- entries, each with the counts of steps at the start and at the end of its own.
pub record IsHistoryOf (b : Book) (h : History) : Type 0 where
  pub represents : IsStoreOf b.store h
  pub opening_is : h.opening ≡ b.opening
  pub steps_are : steps_of h ≡ b.store.cache.trace
  pub calls_are : b.calls ≡ map entry_for (calls_of h)

-- the step ends a write
abbrev pub is_completion : Step → Bool
is_completion (Complete block) = true
is_completion _ = false

abbrev pub is_writer : ℕ → Actor → Bool
is_writer n (Writer m) = m == n
is_writer n Flusher = false
is_writer n Completer = false

-- the entry is one of this writer
abbrev pub is_by : ℕ → Entry → Bool
is_by n e = is_writer n e.actor

-- each actor's count is the number of its entries, or of the steps that it makes
pub record IsCounted (calls : List Entry) (steps : List Step) (counts : Counts) : Type 0 where
  pub eight : length counts.writers ≡ 8
  pub writers : (n : ℕ) → n ≤ MAX_WRITER → slice_index_or counts.writers n 0 ≡ count_by (is_by n) calls
  pub flusher : counts.flusher ≡ count_by is_send steps
  pub completer : counts.completer ≡ count_by is_completion steps

-- What a book is at every moment: its steps are legal over its opening blocks, its store's cache represents them, its calls and
-- steps are one legal history, and each actor's calls are counted.
pub record IsKept (b : Book) : Type 0 where
  pub legal : IsLegal (run_of b)
  pub cache_is : IsCacheOf b.store.cache (run_of b)
  pub history : History
  pub is_history : IsHistoryOf b history
  pub counted : IsCounted b.calls b.store.cache.trace b.counts

-- A store that was opened on these blocks, and has done nothing since
pub record IsFresh (s : Store) (blocks : List (List ℕ)) : Type 0 where
  pub opened : IsOpened blocks s
  pub no_steps : s.cache.trace ≡ []

-- or on some blocks
abbrev pub IsNew : Store → Type 0
IsNew s = (blocks : List (List ℕ)) × IsFresh s blocks

abbrev pub no_counts : Counts
no_counts = record { writers = replicate 8 0; flusher = 0; completer = 0 }

-- A book of a fresh store: nothing stands in it.
pub record IsBegun (s : Store) (b : Book) : Type 0 where
  pub store_is : b.store ≡ s
  pub opening_is : (blocks : List (List ℕ)) → IsFresh s blocks → b.opening ≡ blocks
  pub no_calls : b.calls ≡ []
  pub none_counted : b.counts ≡ no_counts
