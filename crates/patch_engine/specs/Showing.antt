-- What is shown of a block without some of its classes.
use Rattle.std.specs.Prelude.{ℕ, false, ◌≡◌, List, [], length, map, Option, Some, None, Result, Ok, Err, MatchResult}
use Rattle.patch_model.specs.declared.refusals.Refusal.{Refusal}
use Rattle.patch_model.specs.Execution.{Execution}
use Rattle.patch_model.specs.History.{history_of, without}
use Rattle.patch_cache.specs.Contents.{Contents}
use Rattle.patch_cache.specs.Meaning.{ShowsBy}
use Rattle.patch_cache.specs.Paging.{first_cause, if_resident}
use Rattle.patch_cache.specs.Refusals.{take_cause}
use Rattle.patch_cache.specs.Viewing.{with_moves, bytes_at, why_not_read, StandsBy}
use Rattle.patch_cache.specs.declared.asks.Move.TheVariants.{Take}
use Rattle.patch_cache.specs.declared.refusals.TakeRefusal.{TakeRefusal}
use Rattle.patch_engine.specs.Refusals.{without_cause}
use Rattle.patch_engine.specs.declared.refusals.WithoutRefusal.{WithoutRefusal}

-- the names of the classes that are taken once those of these patches are taken back, one after another, behind others; or why one isn't
abbrev pub taken_behind : Execution → (block : ℕ) (names patches : List ℕ) → Result (List ℕ) Refusal
taken_behind run block names patches = with_moves run block names (map Take patches)

abbrev pub cause_in : {X : Type 0} → Result X Refusal → Option Refusal
cause_in (Ok done) = None
cause_in (Err cause) = Some cause

-- the bytes from a place on, without the classes of these patches
pub record IsShownWithout (run : Execution) (block : ℕ) (patches : List ℕ) (start : ℕ) (bytes : List ℕ) : Type 0 where
  pub allowed : why_not_read run block start (length bytes) ≡ None
  pub names : List ℕ
  pub taken : taken_behind run block [] patches ≡ Ok names
  pub bytes_are : bytes ≡ bytes_at (without (history_of run block) names) start (length bytes)

-- why they aren't shown: the span isn't read, or the class of some patch isn't taken back
abbrev pub why_not_shown_so : Execution → (block : ℕ) (patches : List ℕ) (start len : ℕ) → Option Refusal
why_not_shown_so run block patches start len = first_cause (why_not_read run block start len) (cause_in (taken_behind run block [] patches))

abbrev pub why_not_without : Contents → Execution → (block : ℕ) (patches : List ℕ) (start len : ℕ) → Option Refusal
why_not_without c run block patches start len = if_resident c block (why_not_shown_so run block patches start len)

-- they are shown, or that is why not
abbrev pub HasShown : Execution → (block : ℕ) (patches : List ℕ) (start : ℕ) (bytes : List ℕ) → Result (Unit {0}) WithoutRefusal → Type 0
HasShown run block patches start bytes result =
    MatchResult result (λ done. IsShownWithout run block patches start bytes) (λ refusal. why_not_shown_so run block patches start (length bytes) ≡ Some (without_cause refusal))

-- the classes of the patches are taken back, and the block stands so; or one isn't, and it stands where some are
abbrev pub HaveTaken : Execution → (block : ℕ) (names patches : List ℕ) → Result (Unit {0}) TakeRefusal → Contents → Type 0
HaveTaken run block names patches result c = MatchResult result
    (λ done. (now : List ℕ) × (taken_behind run block names patches ≡ Ok now) × ShowsBy false c block now run)
    (λ refusal. (taken_behind run block names patches ≡ Err (take_cause refusal)) × StandsBy false run block c)
