use Rattle.std.proofs.Common.{◌≡◌, ◌∙◌, ℕ, List, [], None, Ok, Err, length, inl, inr, ◌⊎◌, sym, ap, refl}
use Rattle.patch_model.specs.Execution.{Execution}
use Rattle.patch_model.specs.History.{history_of, without, cached}
use Rattle.patch_model.specs.Refusing.{why_not_shown}
use Rattle.patch_model.specs.declared.refusals.Refusal.{Refusal}
use Rattle.patch_cache.specs.Asks.{Refused, Seen, View, IsAnswer, IsGivenUp, unless, seen}
use Rattle.patch_cache.specs.Looking.{HasLooked}
use Rattle.patch_cache.specs.Viewing.{with_moves, bytes_at}
use Rattle.patch_cache.specs.declared.asks.Move.{Move}
use Rattle.patch_cache.proofs.Absent.{unmissed}
use Rattle.patch_cache.proofs.Showing.{none_yet, its_own_view}
use Rattle.patch_cache.specs.Contents.{Contents}
use Rattle.patch_cache.proofs.caches.Cache.look.Goals as goal

shown : (run : Execution) (block : ℕ) (moves : List Move) (start len : ℕ) (names rest all : List ℕ) → why_not_shown (length run.first) block start len ≡ None
    → with_moves run block [] moves ≡ Ok names → rest ≡ bytes_at (without (history_of run block) names) start len → all ≡ bytes_at (cached (history_of run block)) start len
    → Seen rest all ≡ unless (why_not_shown (length run.first) block start len) (seen run block start len (with_moves run block [] moves))
shown run block moves start len names rest all none moved is_rest is_all =
    ap (λ x. Seen x all) is_rest ∙ ap (Seen (bytes_at (without (history_of run block) names) start len)) is_all
    ∙ sym (ap (λ w. unless w (seen run block start len (with_moves run block [] moves))) none ∙ ap (seen run block start len) moved)

pub returns-in-Err-clause-restored : goal.returns-in-Err-clause-restored
returns-in-Err-clause-restored g c = λ whole run at.
    let stands = c.without-without.ensures.stands whole run at in c.restore_of.ensures.answer whole run stands.0 stands.1

pub returns-in-Ok-copied-clause-answer : goal.returns-in-Ok-copied-clause-answer
returns-in-Ok-copied-clause-answer g c = λ whole run at.
    let stands = c.without-without.ensures.stands whole run at in
    let back = c.restore_of.ensures.answer whole run stands.0 stands.1 in
    let moved = c.in-Ok.ensures.answer whole run at in
    let cause = c.in_default.ensures.cause whole run at ∙ unmissed c.args.self.now c.args.block _ c.requires in
    inl (shown run c.args.block c.args.moves.now c.args.start c.args.len moved.0 _ _ (sym cause) moved.1 moved.2
    (c.in-Ok-copied.ensures.bytes whole run [] (none_yet whole c.restore_of.new.self c.args.block run back)))

pub returns-in-Ok-copied-clause-restored : goal.returns-in-Ok-copied-clause-restored
returns-in-Ok-copied-clause-restored g c = λ whole run at.
    let stands = c.without-without.ensures.stands whole run at in c.restore_of.ensures.answer whole run stands.0 stands.1

pub returns-in-Err-copied-clause-restored : goal.returns-in-Err-copied-clause-restored
returns-in-Err-copied-clause-restored g c = λ whole run at.
    let stands = c.without-without.ensures.stands whole run at in c.restore_of.ensures.answer whole run stands.0 stands.1

pub returns-in-Err-clause-same : goal.returns-in-Err-clause-same
returns-in-Err-clause-same g c = λ whole run at.
    let stands = c.without-without.ensures.stands whole run at in
    c.restore_of.ensures.as_before whole run stands.0 c.args.self.now stands.1 at (c.without-without.ensures.view c.args.self.now (its_own_view c.args.self.now c.args.block (c.in_default.ensures.resident refl)))

pub returns-in-Ok-copied-clause-same : goal.returns-in-Ok-copied-clause-same
returns-in-Ok-copied-clause-same g c = λ whole run at.
    let stands = c.without-without.ensures.stands whole run at in
    c.restore_of.ensures.as_before whole run stands.0 c.args.self.now stands.1 at (c.without-without.ensures.view c.args.self.now (its_own_view c.args.self.now c.args.block (c.in_default.ensures.resident refl)))

pub returns-in-Err-copied-clause-same : goal.returns-in-Err-copied-clause-same
returns-in-Err-copied-clause-same g c = λ whole run at.
    let stands = c.without-without.ensures.stands whole run at in
    c.restore_of.ensures.as_before whole run stands.0 c.args.self.now stands.1 at (c.without-without.ensures.view c.args.self.now (its_own_view c.args.self.now c.args.block (c.in_default.ensures.resident refl)))

pub returns-in-Some-clause-restored : goal.returns-in-Some-clause-restored
returns-in-Some-clause-restored g c = λ whole run at. at

pub returns-in-Some-clause-same : goal.returns-in-Some-clause-same
returns-in-Some-clause-same g c = λ whole run at. refl

pub returns-in-Some-clause-trace : goal.returns-in-Some-clause-trace
returns-in-Some-clause-trace g c = refl

pub returns-in-Err-clause-trace : goal.returns-in-Err-clause-trace
returns-in-Err-clause-trace g c = ap (λ (v : Contents). v.trace) c.restore_of.ensures.others ∙ c.without-without.ensures.trace

pub returns-in-Ok-copied-clause-trace : goal.returns-in-Ok-copied-clause-trace
returns-in-Ok-copied-clause-trace g c = ap (λ (v : Contents). v.trace) c.restore_of.ensures.others ∙ c.without-without.ensures.trace

pub returns-in-Err-copied-clause-trace : goal.returns-in-Err-copied-clause-trace
returns-in-Err-copied-clause-trace g c = ap (λ (v : Contents). v.trace) c.restore_of.ensures.others ∙ c.without-without.ensures.trace

pub returns-in-Some-clause-answer : goal.returns-in-Some-clause-answer
returns-in-Some-clause-answer g c = λ whole run at.
    let a = c.args in
    let told = c.in-Some.ensures.cause whole run at ∙ unmissed a.self.now a.block _ c.requires in
    inl (ap Refused c.refusal.ensures ∙ ap (λ why. unless why (seen run a.block a.start a.len (with_moves run a.block [] a.moves.now))) told)

-- a look that is refused behind the span's test
turned_down : (run : Execution) (block : ℕ) (moves : List Move) (start len : ℕ) (refusal : Refusal) → why_not_shown (length run.first) block start len ≡ None
    → HasLooked run block moves start len (Err refusal) → IsAnswer run (View block moves start len) (Refused refusal) ⊎ IsGivenUp run (View block moves start len) (Refused refusal)
turned_down run block moves start len refusal none (inl moved) =
    inl (sym (ap (λ why. unless why (seen run block start len (with_moves run block [] moves))) none ∙ ap (seen run block start len) moved))
turned_down run block moves start len refusal none (inr (names, moved, why)) = inr (record {
  done = Seen (bytes_at (without (history_of run block) names) start len) (bytes_at (cached (history_of run block)) start len);
  right = shown run block moves start len names _ _ none moved refl refl;
  not_refused = refl;
  gives_up = inl (ap Refused why, refl);
})

pub returns-in-Err-clause-answer : goal.returns-in-Err-clause-answer
returns-in-Err-clause-answer g c = λ whole run at.
    let told = c.in_default.ensures.cause whole run at ∙ unmissed c.args.self.now c.args.block _ c.requires in
    turned_down run c.args.block c.args.moves.now c.args.start c.args.len c.in-Err.refusal (sym told) (c.in-Err.ensures.answer whole run at)

pub returns-in-Err-copied-clause-answer : goal.returns-in-Err-copied-clause-answer
returns-in-Err-copied-clause-answer g c = λ whole run at.
    let a = c.args in
    let moved = c.in-Ok.ensures.answer whole run at in
    let cause = c.in_default.ensures.cause whole run at ∙ unmissed a.self.now a.block _ c.requires in
    inr (record {
      done = Seen (bytes_at (without (history_of run a.block) moved.0) a.start a.len) (bytes_at (cached (history_of run a.block)) a.start a.len);
      right = shown run a.block a.moves.now a.start a.len moved.0 _ _ (sym cause) moved.1 refl refl;
      not_refused = refl;
      gives_up = inl (ap Refused c.in-Err-copied.ensures.refusal, refl);
    })
