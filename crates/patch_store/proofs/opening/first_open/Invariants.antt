use Rattle.std.specs.Prelude.{ℕ, ◌≡◌, ◌<◌, false}
use Rattle.patch_store.specs.Opening.{is_open}
use Rattle.patch_store.proofs.opening.first_open.Given as goal

-- no extent so far is open
abbrev pub invariant-loop-extent : goal.invariant-loop-extent
invariant-loop-extent g l = (k : ℕ) → k < l.extent → is_open l.extents k ≡ false
