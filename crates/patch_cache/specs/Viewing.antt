-- What a view of one block of a cache answers.
use Rattle.std.specs.Prelude.{ℕ, Bool, true, ◌≡◌, ◌+◌, ◌==◌, not, List, [], ◌∷◌, filter, slice_get, slice_range, Option, Some, None, Result, Ok, Err, MatchResult, IsTrue, length, if◌then◌else◌}
use Rattle.std.specs.Borrow.{GName}
use Rattle.patch_model.specs.declared.refusals.Refusal.{Refusal}
use Rattle.patch_model.specs.declared.refusals.RefusalKind.TheVariants as kind
use Rattle.patch_model.specs.Entry.{is_durable}
use Rattle.patch_model.specs.Execution.{Execution}
use Rattle.patch_model.specs.State.{entries_of}
use Rattle.patch_model.specs.History.{history_of, cached}
use Rattle.patch_model.specs.Refusing.{bare, why_not_taken, why_not_put_back, why_not_shown, class_named}
use Rattle.patch_stacks.specs.State.{outline as the_outline}
use Rattle.patch_cache.specs.Contents.{Contents, block_at, is_resident, with_block}
use Rattle.patch_cache.specs.Meaning.{ShowsBy}
use Rattle.patch_cache.specs.declared.asks.Move.{Move}
use Rattle.patch_cache.specs.declared.asks.Move.TheVariants.{Take, Back}
use Rattle.patch_cache.specs.declared.views.CacheView.{CacheView}

-- why the class of a patch isn't taken back of the block, where these are taken
abbrev pub why_not_taken_of : Execution → ℕ → List ℕ → ℕ → Option Refusal
why_not_taken_of run block names number = elim (slice_get (entries_of run) number) [
  | None ↦ Some (bare kind.Unknown)
  | Some e ↦ if is_durable e then Some (bare kind.Durable) else why_not_taken (history_of run block) names number
]

abbrev pub names_unless : Option Refusal → List ℕ → Result (List ℕ) Refusal
names_unless None names = Ok names
names_unless (Some cause) names = Err cause

-- the names of the classes that are taken of the block after one more move
abbrev pub with_move : Execution → ℕ → List ℕ → Move → Result (List ℕ) Refusal
with_move run block names (Take number) = names_unless (why_not_taken_of run block names number) (class_named (history_of run block) number ∷ names)
with_move run block names (Back number) =
    names_unless (why_not_put_back (history_of run block) names number) (filter (λ n. not (n == class_named (history_of run block) number)) names)

abbrev pub go_on : {A B E : Type 0} → Result A E → (A → Result B E) → Result B E
go_on (Ok x) f = f x
go_on (Err e) f = Err e

-- and after some moves, up to the first that is refused
abbrev pub with_moves : Execution → ℕ → List ℕ → List Move → Result (List ℕ) Refusal
with_moves run block names [] = Ok names
with_moves run block names (move ∷ moves) = go_on (with_move run block names move) (λ now. with_moves run block now moves)

-- the bytes of a span
abbrev pub bytes_at : List ℕ → (start len : ℕ) → List ℕ
bytes_at bytes start len = slice_range bytes start (start + len)

-- why a span isn't shown
abbrev pub why_not_read : Execution → (block start len : ℕ) → Option Refusal
why_not_read run block start len = why_not_shown (length run.first) block start len

-- the bytes of a span that no cause stands against showing, with all patches
abbrev pub IsRead : Execution → (block start len : ℕ) → List ℕ → Type 0
IsRead run block start len bytes = (why_not_read run block start len ≡ None) × (bytes ≡ bytes_at (cached (history_of run block)) start len)

-- the cache stands where some classes of the block are taken
abbrev pub StandsBy : (whole : Bool) → Execution → ℕ → Contents → Type 0
StandsBy whole run block c = (names : List ℕ) × ShowsBy whole c block names run

abbrev pub Stands : Execution → ℕ → Contents → Type 0
Stands run block c = StandsBy true run block c

-- a move that was made, or why it wasn't
abbrev pub IsMovedBy : {E : Type 0} → (whole : Bool) → (E → Refusal) → Execution → (block : ℕ) → List ℕ → Move → Result (Unit {0}) E → Contents → Type 0
IsMovedBy whole cause run block names move result c =
    MatchResult result (λ done. (now : List ℕ) × (with_move run block names move ≡ Ok now) × ShowsBy whole c block now run) (λ refusal. with_move run block names move ≡ Err (cause refusal))

abbrev pub IsMoved : {E : Type 0} → (E → Refusal) → Execution → (block : ℕ) → List ℕ → Move → Result (Unit {0}) E → Contents → Type 0
IsMoved cause run block names move result c = IsMovedBy true cause run block names move result c

-- the cache is this one but for what a view changes of the block, which is resident: its bytes, which classes are taken, and what they keep
pub record IsViewOf (before : Contents) (block : ℕ) (c : Contents) : Type 0 where
  pub resident : IsTrue (is_resident before block)
  pub others : c ≡ with_block before block (block_at c block)
  pub outline : the_outline (block_at c block) ≡ the_outline (block_at before block)

-- what a view sees, which block it is of, and which borrow it is
abbrev pub seen_by : {A : Type 0} → CacheView A → Contents
seen_by v = v.cache.now

abbrev pub block_of : {A : Type 0} → CacheView A → ℕ
block_of v = v.block

abbrev pub borrow_of : {A : Type 0} → CacheView A → GName
borrow_of v = v.cache.ghost_name

-- what the view shows: its cache with these classes of its block taken
abbrev pub HasTakenBy : {A : Type 0} → (whole : Bool) → CacheView A → List ℕ → Execution → Type 0
HasTakenBy whole v names run = ShowsBy whole (seen_by v) (block_of v) names run

abbrev pub HasTaken : {A : Type 0} → CacheView A → List ℕ → Execution → Type 0
HasTaken v names run = HasTakenBy true v names run

-- the cache was this one when the view was lent
abbrev pub IsLentOf : {A : Type 0} → Contents → CacheView A → Type 0
IsLentOf before v = IsViewOf before (block_of v) (seen_by v)
