use Rattle.std.proofs.Common.{◌≡◌, ◌∙◌, ℕ, List, Result, Ok, Err, false, sym, ap, subst}
use Rattle.std.specs.Prelude.{IsErrAnd}
use Rattle.std.proofs.lemmas.List.{drop_all}
use Rattle.patch_model.specs.Execution.{Execution}
use Rattle.patch_cache.specs.Contents.{Contents}
use Rattle.patch_cache.specs.Meaning.{ShowsBy}
use Rattle.patch_cache.specs.Refusals.{take_cause}
use Rattle.patch_cache.specs.Viewing.{seen_by, block_of, with_move, IsViewOf, StandsBy}
use Rattle.patch_cache.specs.declared.asks.Move.TheVariants.{Take}
use Rattle.patch_cache.specs.declared.refusals.TakeRefusal.{TakeRefusal}
use Rattle.patch_engine.specs.Showing.{taken_behind, HaveTaken}
use Rattle.patch_engine.proofs.Taking.{takes_on}
use Rattle.patch_engine.proofs.reading.take_each.Goals as goal

-- the refusal of one, as it is handed on
stopped : (run : Execution) (block : ℕ) (names patches : List ℕ) (r : Result (Unit {0}) TakeRefusal) (e : TakeRefusal) (new : Contents) → IsErrAnd r (λ f. f ≡ e)
    → taken_behind run block names patches ≡ Err (take_cause e) → StandsBy false run block new → HaveTaken run block names patches r new
stopped run block names patches (Ok x) e new is gives stands = absurd is
stopped run block names patches (Err f) e new is gives stands = (gives ∙ ap (λ x. Err (take_cause x)) (sym is), stands)

pub returns-in_err-take-clause-taken : goal.returns-in_err-take-clause-taken
returns-in_err-take-clause-taken g c = λ run names at.
    let inv = c.loop-no.invariant in
    let block = block_of c.args.view.now in
    let before = inv.so_far run names at in
    let shows : ShowsBy false (seen_by c.loop-no.view) (block_of c.loop-no.view) before.0 run = subst (λ b. ShowsBy false (seen_by c.loop-no.view) b before.0 run) (sym inv.same_block) before.2 in
    let why : with_move run block before.0 (Take c.no-item.result) ≡ Err (take_cause c.in_err-take.field-0.0) =
    subst (λ b. with_move run b before.0 (Take c.no-item.result) ≡ Err (take_cause c.in_err-take.field-0.0)) inv.same_block (c.in_err-take.ensures.paged run before.0 shows) in
    let still : ShowsBy false (seen_by c.take.new.self) block before.0 run = subst (λ (v : Contents). ShowsBy false v block before.0 run) (sym c.in_err-take.ensures.refused) before.2 in
    stopped run block names c.args.patches.now c.from_residual.result c.in_err-take.field-0.0 (seen_by c.take.new.self) c.from_residual.ensures.1
    (takes_on run block names before.0 _ c.args.patches.now c.loop-no.no-index c.no-item.result c.no-item.result c.loop-no-test.true c.no-item.is why before.1) (before.0, still)

pub loop-no-preserved : goal.loop-no-preserved
loop-no-preserved g c =
    let inv = c.loop-no.invariant in
    let block = block_of c.args.view.now in
    record {
      same_reference = c.take.ensures.same_reference ∙ inv.same_reference;
      same_block = c.take.ensures.same_block ∙ inv.same_block;
      view = λ before as_view.
          let lent = inv.view before as_view in
          let here : IsViewOf before (block_of c.loop-no.view) (seen_by c.loop-no.view) = subst (λ b. IsViewOf before b (seen_by c.loop-no.view)) (sym inv.same_block) lent in
          subst (λ b. IsViewOf before b (seen_by c.take.new.self)) inv.same_block (c.take.ensures.view before here);
      so_far = λ run names at.
          let before = inv.so_far run names at in
          let shows : ShowsBy false (seen_by c.loop-no.view) (block_of c.loop-no.view) before.0 run = subst (λ b. ShowsBy false (seen_by c.loop-no.view) b before.0 run) (sym inv.same_block) before.2 in
          let done = c.in_ok-take.ensures.paged run before.0 shows in
          let moved : with_move run block before.0 (Take c.no-item.result) ≡ Ok done.0 =
          subst (λ b. with_move run b before.0 (Take c.no-item.result) ≡ Ok done.0) inv.same_block done.1 in (
            done.0,
            takes_on run block names before.0 _ c.args.patches.now c.loop-no.no-index c.no-item.result c.no-item.result c.loop-no-test.true c.no-item.is moved before.1,
            subst (λ b. ShowsBy false (seen_by c.take.new.self) b done.0 run) inv.same_block done.2,
          );
    }

pub returns-clause-taken : goal.returns-clause-taken
returns-clause-taken g c = λ run names at.
    let before = c.loop-no.invariant.so_far run names at in
    (before.0, before.1 ∙ ap (taken_behind run (block_of c.args.view.now) before.0) (drop_all _ _ c.loop-no-test.false), before.2)
