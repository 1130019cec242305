use Rattle.std.proofs.Common.{◌≡◌, ◌||◌, ◌+◌, [], false, None, Some, refl, sym, ap, subst, ◌∙◌, arith}
use Rattle.std.specs.Prelude.{count_by}
use Rattle.patch_model.specs.State.{entries_of}
use Rattle.patch_graph.specs.Ready.{TellsNextOpen}
use Rattle.patch_cache.specs.Contents.{Contents}
use Rattle.patch_cache.specs.Waves.{is_send, steps_since, Continues, HasStayed, begun}
use Rattle.patch_cache.proofs.Waving.{none_added, no_sends, since_is, since_more, continues, continues_both, gone_same}
use Rattle.patch_cache.specs.Tries.{HoldsMore}
use Rattle.patch_cache.proofs.Tries.{begun_here, more_both, more_same}
use Rattle.patch_cache.proofs.Counting.{count-append}
use Rattle.patch_cache.proofs.Passing.{LargestLaw, Passed, pass_begun, pass_more, pass_skipped, pass_ended, neither}
use Rattle.patch_cache.proofs.caches.Cache.send_all.Goals.{then-sent, else-sent}
use Rattle.patch_cache.proofs.caches.Cache.send_all.Goals as goal

pub loop-block-init : goal.loop-block-init
loop-block-init g c =
    let old = c.args.self.now in
    let none = none_added old old refl in
    record {
      so_far = λ others run runs. subst (λ s. Passed others run 0 false s old c.args.flights.now) (sym (since_is old old [] none)) (pass_begun run old c.args.flights.now runs);
      trace = continues old old [] none;
      more = λ others run block runs.
          subst (λ s. HoldsMore s c.args.flights.now c.args.flights.now block) (sym (since_is old old [] none)) (record { held = omega arith; none_ended = refl });
      count = let nothing = no_sends old old [] none refl in omega (arith, nothing);
      kept = λ e. refl;
    }

pub loop-block-preserved : goal.loop-block-preserved
loop-block-preserved g c =
    let old = c.args.self.now in
    let mid = c.loop-block.self in
    let next = c.send_if_ready.new.self in
    let before = c.loop-block.invariant in
    let told = c.in_ok-more.ensures in
    let more = begun c.in-Some.block c.in_ok-more.more in
    let is : c.if-sent.sent ≡ (c.loop-block.sent || c.in_ok-more.more) = elim c.if-sent.branch [
      | then-sent w ↦ w.sent-is ∙ sym (rw w.if-sent.true refl)
      | else-sent w ↦ w.sent-is ∙ sym (rw w.if-sent.false refl)
    ] in
    let largest : LargestLaw = λ run block. c.ready_is_largest.ensures.largest (entries_of run) block (c.ready_is_largest.ensures.made run) in
    let skipped = subst (λ (v : Contents). TellsNextOpen v.graph c.loop-block.from (Some c.in-Some.block)) c.self.view_is c.in-Some.ensures.answer in
    record {
      so_far = λ others run runs.
          let first = pass_skipped c.paths_form_no_ring.ensures.back c.patches_are_placed.ensures.flying c.pairs_merge.ensures.sent run c.loop-block.from c.in-Some.block c.loop-block.sent (steps_since old mid) mid c.loop-block.flights
          (λ all seen ring. (skipped all seen ring).3) (before.so_far others run runs) in
          subst (λ n. Passed others run (n + 1) c.if-sent.sent (steps_since old next) next c.send_if_ready.new.flights) (sym c.block.view_is)
          (subst (λ b. Passed others run (c.in-Some.block + 1) b (steps_since old next) next c.send_if_ready.new.flights) (sym is)
          (subst (λ s. Passed others run (c.in-Some.block + 1) (c.loop-block.sent || c.in_ok-more.more) s next c.send_if_ready.new.flights) (sym (since_more old mid next more before.trace told.trace))
          (pass_more c.steps_extend.ensures.state c.images_stay.ensures c.disks_stay.ensures c.executions_are_orderly.ensures.patches largest
          c.pairs_merge.ensures.sent run c.in-Some.block c.loop-block.sent c.in_ok-more.more (steps_since old mid) mid next c.loop-block.flights c.send_if_ready.new.flights first (told.sent others _ first.gone.runs))));
      trace = continues_both old mid next before.trace (continues mid next more told.trace);
      more = λ others run block runs.
          let first = (before.so_far others run runs).gone in
          subst (λ s. HoldsMore s c.args.flights.now c.send_if_ready.new.flights block) (sym (since_more old mid next more before.trace told.trace))
          (more_both (steps_since old mid) more c.args.flights.now c.loop-block.flights c.send_if_ready.new.flights (λ b. before.more others run b runs)
          (begun_here c.in-Some.block c.in_ok-more.more c.loop-block.flights c.send_if_ready.new.flights (told.more others _ first.runs)) block);
      count =
          let so_far = before.count in
          let one = told.count in
          let both = ap (λ s. count_by is_send s) (since_more old mid next more before.trace told.trace) ∙ count-append is_send (steps_since old mid) more in omega (arith, so_far, one, both);
      kept = λ e.
          let none = neither c.loop-block.sent c.in_ok-more.more (sym is ∙ e) in
          told.kept none.1 ∙ before.kept none.0;
    }

-- a write was given up
pub returns-in_err-more-clause-ran : goal.returns-in_err-more-clause-ran
returns-in_err-more-clause-ran g c others run runs =
    let first = c.loop-block.invariant.so_far others run runs in
    gone_same run c.args.self.now c.loop-block.self c.send_if_ready.new.self c.loop-block.flights c.send_if_ready.new.flights c.in_err-more.ensures.refused c.in_err-more.ensures.held first.gone

pub returns-in_err-more-clause-trace : goal.returns-in_err-more-clause-trace
returns-in_err-more-clause-trace g c = subst (λ (x : Contents). Continues c.args.self.now x) (sym c.in_err-more.ensures.refused) c.loop-block.invariant.trace

pub returns-in_err-more-clause-stays : goal.returns-in_err-more-clause-stays
returns-in_err-more-clause-stays g c others run contents runs =
    let first = c.loop-block.invariant.so_far others run runs in
    subst (λ (x : Contents). HasStayed run (steps_since c.args.self.now x) contents) (sym c.in_err-more.ensures.refused) (first.stayed contents)

pub returns-in_err-more-clause-more : goal.returns-in_err-more-clause-more
returns-in_err-more-clause-more g c others run block runs =
    more_same c.args.self.now c.loop-block.self c.send_if_ready.new.self c.args.flights.now c.loop-block.flights c.send_if_ready.new.flights c.in_err-more.ensures.refused c.in_err-more.ensures.held block
    (c.loop-block.invariant.more others run block runs)

pub returns-clause-more : goal.returns-clause-more
returns-clause-more g c = c.loop-block.invariant.more

pub returns-clause-ran : goal.returns-clause-ran
returns-clause-ran g c others run runs = (c.loop-block.invariant.so_far others run runs).gone

pub returns-clause-stays : goal.returns-clause-stays
returns-clause-stays g c others run contents runs = (c.loop-block.invariant.so_far others run runs).stayed contents

pub returns-clause-pass : goal.returns-clause-pass
returns-clause-pass g c others run runs =
    let old = c.args.self.now in
    let mid = c.loop-block.self in
    let skipped = subst (λ (v : Contents). TellsNextOpen v.graph c.loop-block.from None) c.self.view_is c.in_default.ensures.answer in
    let first = pass_skipped c.paths_form_no_ring.ensures.back c.patches_are_placed.ensures.flying c.pairs_merge.ensures.sent run c.loop-block.from 16777216 c.loop-block.sent (steps_since old mid) mid c.loop-block.flights
    skipped (c.loop-block.invariant.so_far others run runs) in
    pass_ended c.pairs_merge.ensures.sent run 16777216 c.loop-block.sent (steps_since old mid) (let few = runs.cache_is.legal.few in omega (arith, few)) first.pass
