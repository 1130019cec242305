use Rattle.std.proofs.Common.{[], false, inl, refl, sym, ◌∙◌, arith, ◌<◌, ℕ, subst}
use Rattle.std.proofs.lemmas.List.{nil_from_length}
use Rattle.patch_cache.proofs.Waving.{none_added, since_is, no_sends, continues, continues_both, gone_still, stays_by, stayed_still, went_by, went_both, stays_both, sends_since, one_ended, one_at_last, is_same, some_held, one_less}
use Rattle.patch_cache.proofs.Tries.{lost_still, lost_both}
use Rattle.patch_cache.proofs.caches.Cache.complete_held.Goals as goal

pub loop-self-init : goal.loop-self-init
loop-self-init g c =
    let old = c.args.self.now in
    let none = none_added old old refl in
    record {
      ran = λ others run runs. went_by run old old [] c.args.flights.now none (gone_still run old c.args.flights.now runs);
      trace = continues old old [] none;
      ends = no_sends old old [] none refl;
      none_lost = λ others run runs. lost_still old old c.args.flights.now c.args.flights.now none refl;
      one = λ run runs flight one. inl (one, since_is old old [] none);
      stays = λ others run contents runs images. stays_by run old old [] contents none (stayed_still run contents);
      held = λ flight inside. inside;
    }

pub loop-self-preserved : goal.loop-self-preserved
loop-self-preserved g c =
    let old = c.args.self.now in
    let mid = c.loop-self.self in
    let next = c.complete_first.new.self in
    let before = c.loop-self.invariant in
    let told = c.complete_first.ensures in
    record {
      ran = λ others run runs. let first = before.ran others run runs in went_both run old mid next _ _ before.trace told.trace first (told.ran others _ first.runs);
      trace = continues_both old mid next before.trace told.trace;
      ends = let both = sends_since old mid next before.trace told.trace in let a = before.ends in let b = told.ends in omega (arith, both, a, b);
      none_lost = λ others run runs.
          let first = before.ran others run runs in
          lost_both old mid next c.args.flights.now c.loop-self.flights c.complete_first.new.flights before.trace told.trace (before.none_lost others run runs) (told.none_lost others _ first.runs);
      one = λ run runs.
          let first = before.ran false run runs in
          one_ended c.args.flights.now c.loop-self.flights c.complete_first.new.flights old mid next before.trace told.landed (before.one run runs) (told.first _ first.runs);
      stays = λ others run contents runs images.
          let first = before.ran others run runs in
          stays_both run old mid next contents before.trace told.trace (before.stays others run contents runs images)
          (told.stays others _ contents first.runs (λ flight inside. images flight (before.held flight inside)));
      held = λ flight inside. before.held flight (told.held flight inside);
    }

-- all are completed
pub returns-clause-landed : goal.returns-clause-landed
returns-clause-landed g c =
    let held = c.loop-self.flights.held in
    let none = is_same _ 0 (sym c.is_empty.ensures ∙ c.loop-self-test.false) in
    let long = held.ok.0 in nil_from_length held.items (omega (arith, none, long))

pub returns-clause-one : goal.returns-clause-one
returns-clause-one g c run runs =
    let held = c.loop-self.flights.held in
    let none = is_same _ 0 (sym c.is_empty.ensures ∙ c.loop-self-test.false) in
    let long = held.ok.0 in
    one_at_last c.args.flights.now c.loop-self.flights c.args.self.now c.loop-self.self (nil_from_length held.items (omega (arith, none, long))) (c.loop-self.invariant.one run runs)

pub complete_first-requires : goal.complete_first-requires
complete_first-requires g c = record { some = subst (λ (n : ℕ). 0 < n) c.loop-self.flights.held.ok.0 (some_held _ (sym c.is_empty.ensures ∙ c.loop-self-test.true)) }

pub loop-self-smaller : goal.loop-self-smaller
loop-self-smaller g c = one_less _ _ c.complete_first.ensures.landed

pub returns-clause-trace : goal.returns-clause-trace
returns-clause-trace g c = c.loop-self.invariant.trace

pub returns-clause-ends : goal.returns-clause-ends
returns-clause-ends g c = c.loop-self.invariant.ends

pub returns-clause-ran : goal.returns-clause-ran
returns-clause-ran g c = c.loop-self.invariant.ran

pub returns-clause-stays : goal.returns-clause-stays
returns-clause-stays g c = c.loop-self.invariant.stays

pub returns-clause-none_lost : goal.returns-clause-none_lost
returns-clause-none_lost g c = c.loop-self.invariant.none_lost
