use Rattle.std.proofs.Common.{◌≡◌, ◌∙◌, ℕ, Bool, List, Result, Ok, Err, MatchResult, OnErr, sym, ap, subst}
use Rattle.std.specs.Result.{IsErrAnd}
use Rattle.patch_model.specs.declared.refusals.Refusal.{Refusal}
use Rattle.patch_model.specs.Execution.{Execution}
use Rattle.patch_stacks.specs.Refusal.{put_back_cause}
use Rattle.patch_cache.specs.Contents.{Contents}
use Rattle.patch_cache.specs.Meaning.{ShowsBy}
use Rattle.patch_cache.specs.Refusals.{take_cause}
use Rattle.patch_cache.specs.Viewing.{with_move}
use Rattle.patch_cache.specs.Looking.{HasMovedBy}
use Rattle.patch_cache.proofs.caches.Cache.take_move.Goals as goal

-- a move of the view's, with its refusal as the cause that it tells
moved : {E : Type 0} → (cause : E → Refusal) (whole : Bool) (run : Execution) (block : ℕ) (names : List ℕ) (old new : Contents) (after : Result (List ℕ) Refusal) (made : Result (Unit {0}) E)
    (told : Result (Unit {0}) Refusal) → ShowsBy whole old block names run
    → MatchResult made (λ done. (now : List ℕ) × (after ≡ Ok now) × ShowsBy whole new block now run) (λ refusal. after ≡ Err (cause refusal)) → OnErr made (new ≡ old)
    → MatchResult made (λ done. told ≡ Ok done) (λ refusal. IsErrAnd told (λ f. f ≡ cause refusal)) → HasMovedBy whole run block after told new
moved cause whole run block names old new after (Ok x) (Ok done) at answer refused is = answer
moved cause whole run block names old new after (Ok x) (Err f) at answer refused is = absurd (cc)
moved cause whole run block names old new after (Err e) (Ok done) at answer refused is = absurd is
moved cause whole run block names old new after (Err e) (Err f) at answer refused is =
    (answer ∙ ap Err (sym is), (names, subst (λ c. ShowsBy whole c block names run) (sym refused) at))

pub returns-in-Take-clause-answer : goal.returns-in-Take-clause-answer
returns-in-Take-clause-answer g c = λ whole run names at.
    subst (λ move. HasMovedBy whole run c.args.block (with_move run c.args.block names move) c.map_err.result c.take_of.new.self) (sym c.in-Take.is)
    (moved take_cause whole run c.args.block names c.args.self.now c.take_of.new.self _ c.take_of.result c.map_err.result at (c.take_of.ensures.answer whole run names at) c.take_of.ensures.refused
    c.map_err.ensures.cases)

pub returns-in-Back-clause-answer : goal.returns-in-Back-clause-answer
returns-in-Back-clause-answer g c = λ whole run names at.
    subst (λ move. HasMovedBy whole run c.args.block (with_move run c.args.block names move) c.map_err-in-Back.result c.put_back_of.new.self) (sym c.in-Back.is)
    (moved put_back_cause whole run c.args.block names c.args.self.now c.put_back_of.new.self _ c.put_back_of.result c.map_err-in-Back.result at (c.put_back_of.ensures.answer whole run names at)
    c.put_back_of.ensures.refused c.map_err-in-Back.ensures.cases)
