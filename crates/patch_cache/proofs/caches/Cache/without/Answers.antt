use Rattle.std.proofs.Common.{◌≡◌, ◌∙◌, ℕ, List, [], Result, Ok, Err, inl, inr, sym, ap}
use Rattle.std.specs.Result.{IfOk, IfErr, IsErrAnd}
use Rattle.patch_model.specs.declared.refusals.Refusal.{Refusal}
use Rattle.patch_model.specs.declared.refusals.RefusalKind.TheVariants as kind
use Rattle.patch_model.specs.Execution.{Execution}
use Rattle.patch_model.specs.History.{history_of, without}
use Rattle.patch_model.specs.Refusing.{bare}
use Rattle.patch_cache.specs.Viewing.{with_moves, bytes_at}
use Rattle.patch_cache.specs.Looking.{HasLooked}
use Rattle.patch_cache.specs.declared.asks.Move.{Move}
use Rattle.patch_cache.proofs.Showing.{none_yet}
use Rattle.patch_cache.proofs.caches.Cache.without.Goals as goal

looked : (run : Execution) (block : ℕ) (moves : List Move) (start len : ℕ) (names : List ℕ) (r : Result (List ℕ) Refusal) → with_moves run block [] moves ≡ Ok names
    → IfOk r (λ bytes. bytes ≡ bytes_at (without (history_of run block) names) start len) → IfErr r (λ refusal. refusal ≡ bare kind.OutOfMemory)
    → HasLooked run block moves start len r
looked run block moves start len names (Ok bytes) moved right why = (names, moved, right)
looked run block moves start len names (Err refusal) moved right why = inr (names, moved, why)

-- the refusal of a move, as it is handed on
refused : (run : Execution) (block : ℕ) (moves : List Move) (start len : ℕ) (r : Result (List ℕ) Refusal) (e : Refusal) → IsErrAnd r (λ f. f ≡ e) → with_moves run block [] moves ≡ Err e
    → HasLooked run block moves start len r
refused run block moves start len (Ok bytes) e is gives = absurd is
refused run block moves start len (Err f) e is gives = inl (gives ∙ ap Err (sym is))

pub returns-in_err-take_moves-clause-answer : goal.returns-in_err-take_moves-clause-answer
returns-in_err-take_moves-clause-answer g c = λ whole run at.
    refused run c.args.block c.args.moves.now c.args.start c.args.len c.from_residual.result c.in_err-take_moves.field-0.0 c.from_residual.ensures.1
    (c.in_err-take_moves.ensures.answer whole run [] (none_yet whole c.args.self.now c.args.block run at)).0

pub returns-in_err-take_moves-clause-stands : goal.returns-in_err-take_moves-clause-stands
returns-in_err-take_moves-clause-stands g c = λ whole run at. (c.in_err-take_moves.ensures.answer whole run [] (none_yet whole c.args.self.now c.args.block run at)).1

pub returns-clause-answer : goal.returns-clause-answer
returns-clause-answer g c = λ whole run at.
    let moved = c.in_ok-take_moves.ensures.answer whole run [] (none_yet whole c.args.self.now c.args.block run at) in
    looked run c.args.block c.args.moves.now c.args.start c.args.len moved.0 c.copied.result moved.1 (c.copied.ensures.bytes whole run moved.0 moved.2) c.copied.ensures.refusal

pub returns-clause-stands : goal.returns-clause-stands
returns-clause-stands g c = λ whole run at.
    let moved = c.in_ok-take_moves.ensures.answer whole run [] (none_yet whole c.args.self.now c.args.block run at) in (moved.0, moved.2)
