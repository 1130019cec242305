-- One more move of a view.
use Rattle.std.proofs.Common.{◌≡◌, ℕ, ◌+◌, ◌<◌, ◌∙◌, List, ◌∷◌, Result, length, get_or, drop, drop-cons, add-one, suc, sym, ap}
use Rattle.patch_model.specs.declared.refusals.Refusal.{Refusal}
use Rattle.patch_model.specs.Execution.{Execution}
use Rattle.patch_cache.specs.Viewing.{with_move, with_moves, go_on}
use Rattle.patch_cache.specs.declared.asks.Move.{Move}

-- the rest of the moves begins with the one at i
rest_is : (moves : List Move) (i : ℕ) (move : Move) → i < length moves → move ≡ get_or moves i move → drop i moves ≡ move ∷ drop (i + 1) moves
rest_is moves i move within is = rw (add-one) (drop-cons moves i move within ∙ ap (λ (m : Move). m ∷ drop (suc i) moves) (sym is))

-- what is left to do gives what all of it gives
pub goes_on : (run : Execution) (block : ℕ) (names now : List ℕ) (next : Result (List ℕ) Refusal) (moves : List Move) (i : ℕ) (move : Move) → i < length moves → move ≡ get_or moves i move
    → with_move run block now move ≡ next → with_moves run block names moves ≡ with_moves run block now (drop i moves)
    → with_moves run block names moves ≡ go_on next (λ n. with_moves run block n (drop (i + 1) moves))
goes_on run block names now next moves i move within is gives so_far =
    so_far ∙ ap (with_moves run block now) (rest_is moves i move within is) ∙ ap (λ (r : Result (List ℕ) Refusal). go_on r (λ n. with_moves run block n (drop (i + 1) moves))) gives
