-- What a look at a block leaves, and shows.
use Rattle.std.specs.Prelude.{ℕ, Bool, ◌≡◌, ◌⊎◌, List, [], Result, Ok, Err}
use Rattle.patch_model.specs.declared.refusals.Refusal.{Refusal}
use Rattle.patch_model.specs.declared.refusals.RefusalKind.TheVariants as kind
use Rattle.patch_model.specs.Execution.{Execution}
use Rattle.patch_model.specs.History.{history_of, without}
use Rattle.patch_model.specs.Refusing.{bare}
use Rattle.patch_cache.specs.Contents.{Contents}
use Rattle.patch_cache.specs.Meaning.{ShowsBy}
use Rattle.patch_cache.specs.Viewing.{with_moves, bytes_at, StandsBy}
use Rattle.patch_cache.specs.declared.asks.Move.{Move}

-- what the moves gave, or the refusal that they met; wherever they ended, the block stands there
abbrev pub HasMovedBy : (whole : Bool) → Execution → ℕ → Result (List ℕ) Refusal → Result (Unit {0}) Refusal → Contents → Type 0
HasMovedBy whole run block moved (Ok done) new = (names : List ℕ) × (moved ≡ Ok names) × ShowsBy whole new block names run
HasMovedBy whole run block moved (Err refusal) new = (moved ≡ Err refusal) × StandsBy whole run block new

-- the bytes of the span without what the moves took; or the refusal that they met, or that there was no memory
abbrev pub HasLooked : Execution → ℕ → List Move → (start len : ℕ) → Result (List ℕ) Refusal → Type 0
HasLooked run block moves start len (Ok bytes) = (names : List ℕ) × (with_moves run block [] moves ≡ Ok names) × (bytes ≡ bytes_at (without (history_of run block) names) start len)
HasLooked run block moves start len (Err refusal) =
    (with_moves run block [] moves ≡ Err refusal) ⊎ ((names : List ℕ) × (with_moves run block [] moves ≡ Ok names) × (refusal ≡ bare kind.OutOfMemory))
