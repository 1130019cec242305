-- Classes of patches that are taken back, one after another.
use Rattle.std.proofs.Common.{◌≡◌, ℕ, ◌+◌, ◌<◌, ◌≤◌, ◌∙◌, false, List, ◌∷◌, Result, None, length, get_or, drop, drop-cons, add-one, suc, refl, sym, ap}
use Rattle.std.specs.Prelude.{nat_lt, nat_le}
use Rattle.std.proofs.lemmas.Bool.{lt-leb, le-ltb}
use Rattle.patch_model.specs.declared.blocks.TheConstants.{BLOCK}
use Rattle.patch_model.specs.Refusing.{why_not_shown}
use Rattle.patch_model.specs.declared.refusals.Refusal.{Refusal}
use Rattle.patch_model.specs.Execution.{Execution}
use Rattle.patch_cache.specs.Viewing.{with_move, go_on}
use Rattle.patch_cache.specs.declared.asks.Move.TheVariants.{Take}
use Rattle.patch_engine.specs.Showing.{taken_behind}

-- the rest of the patches begins with the one at i
rest_is : (patches : List ℕ) (i p d : ℕ) → i < length patches → p ≡ get_or patches i d → drop i patches ≡ p ∷ drop (i + 1) patches
rest_is patches i p d within is = rw (add-one) (drop-cons patches i d within ∙ ap (λ (m : ℕ). m ∷ drop (suc i) patches) (sym is))

-- what is left to be taken gives what all gives
pub takes_on : (run : Execution) (block : ℕ) (names now : List ℕ) (next : Result (List ℕ) Refusal) (patches : List ℕ) (i p d : ℕ) → i < length patches → p ≡ get_or patches i d
    → with_move run block now (Take p) ≡ next → taken_behind run block names patches ≡ taken_behind run block now (drop i patches)
    → taken_behind run block names patches ≡ go_on next (λ n. taken_behind run block n (drop (i + 1) patches))
takes_on run block names now next patches i p d within is gives so_far =
    so_far ∙ ap (taken_behind run block now) (rest_is patches i p d within is)
    ∙ ap (λ (r : Result (List ℕ) Refusal). go_on r (λ n. taken_behind run block n (drop (i + 1) patches))) gives

-- nothing stands against a span of a block that there is and holds it
pub fits : (blocks block start len : ℕ) → block < blocks → start + len ≤ BLOCK → why_not_shown blocks block start len ≡ None
fits blocks block start len known low =
    let there : nat_le blocks block ≡ false = lt-leb blocks block known in
    let within : nat_lt BLOCK (start + len) ≡ false = le-ltb BLOCK (start + len) low in
    rw (there, within) refl
