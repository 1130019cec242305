use Rattle.std.proofs.Common.{Bool, Err, false, ◌≡◌, ◌<◌, ◌∙◌, ◌++◌, take, length, subst, sym, ap, arith, append-nil}
use Rattle.std.proofs.lemmas.List.{take_all}
use Rattle.std.proofs.lemmas.Result.{IfOk-from_err}
use Rattle.std.specs.Prelude.{count_by}
use Rattle.patch_model.specs.Execution.{followed_by}
use Rattle.patch_model.specs.State.{entries_of}
use Rattle.patch_device.specs.SameDevice.{same_both}
use Rattle.patch_cache.specs.Refused.{given_up_later}
use Rattle.patch_cache.specs.Running.{held_by}
use Rattle.patch_cache.specs.Waves.{steps_since}
use Rattle.patch_plans.specs.Groups.{is_pending}
use Rattle.patch_group.specs.Syncing.{IsSynced}
use Rattle.patch_group.proofs.Pending.{none_still, none_pending_of}
use Rattle.patch_group.proofs.Writing.{continues_both, went_both, keeps_both, since_both, sends_both, tried_both, write_stops, stays_past, wrote_none, wrote_some, same_run}
use Rattle.patch_group.proofs.Steps.{none_fly, leads_on, leads_here, wrote_nothing}
use Rattle.patch_group.proofs.Stopping.{write_rises, write_holds}
use Rattle.patch_group.proofs.syncing.write_all_of.Goals as goal

-- all of them are on the disk
pub returns-then-at-waiting-clause-done : goal.returns-then-at-waiting-clause-done
returns-then-at-waiting-clause-done g c run r none =
    let before = c.loop.invariant in
    let now = followed_by run (steps_since c.args.cache.now c.loop.cache) in
    let waiting = c.args.waiting.now in
    let at = c.first_pending-at.result in
    let whole : at ≡ length waiting = omega (arith, c.if-at-waiting.true) in
    subst (λ ns. count_by (is_pending (entries_of now)) ns ≡ 0) (take_all at waiting (omega (arith, whole)))
    (c.first_pending-at.ensures.past now (before.ran run r).runs.cache_is (before.past run r))

pub returns-then-at-waiting-clause-steps : goal.returns-then-at-waiting-clause-steps
returns-then-at-waiting-clause-steps g c run r none =
    let before = c.loop.invariant in
    let so_far = steps_since c.args.cache.now c.loop.cache in
    let now = followed_by run so_far in
    let waiting = c.args.waiting.now in
    let at = c.first_pending-at.result in
    let whole : at ≡ length waiting = omega (arith, c.if-at-waiting.true) in
    let stands = (before.ran run r).runs in
    leads_here waiting run so_far (before.so_far run r none) (none_fly now _ stands.flights_are (before.landed none))
    (subst (λ ns. count_by (is_pending (entries_of now)) ns ≡ 0) (take_all at waiting (omega (arith, whole)))
    (c.first_pending-at.ensures.past now stands.cache_is (before.past run r)))

-- a write was given up
pub returns-in_err-write_next-clause-ran : goal.returns-in_err-write_next-clause-ran
returns-in_err-write_next-clause-ran g c run r =
    let before = c.loop.invariant in
    let told = c.write_next.ensures in
    let first = before.ran run r in
    went_both c.traces_join.ensures.joined c.stretches_join.ensures.joined run c.args.cache.now c.loop.cache c.write_next.new.self _ _ before.trace told.trace first (told.ran _ first.runs)

pub returns-in_err-write_next-clause-disk : goal.returns-in_err-write_next-clause-disk
returns-in_err-write_next-clause-disk g c honest =
    let before = c.loop.invariant in
    let told = c.write_next.ensures in
    keeps_both c.traces_join.ensures.joined g.D.Device c.stretches_join.ensures.kept c.args.cache.now c.loop.cache c.write_next.new.self c.args.flights.now c.loop.flights _ _ _ before.trace told.trace before.ran
    (before.disk honest) (told.disk (before.same.honesty.0 honest))

pub returns-in_err-write_next-clause-tries : goal.returns-in_err-write_next-clause-tries
returns-in_err-write_next-clause-tries g c none =
    let before = c.loop.invariant in
    let told = c.write_next.ensures in
    let so_far = before.tries none in
    let one = told.tries in
    let empty = ap length (before.landed none) in
    let both = sends_both c.traces_join.ensures.joined c.args.cache.now c.loop.cache c.write_next.new.self before.trace told.trace in omega (arith, so_far, one, empty, both)

pub returns-in_err-write_next-clause-refused : goal.returns-in_err-write_next-clause-refused
returns-in_err-write_next-clause-refused g c run on =
    let before = c.loop.invariant in
    let told = c.in_err-write_next.ensures.refused _ (record { runs = (before.ran run on.runs).runs; blocks = before.same.count ∙ on.blocks }) in
    write_stops Bool g.D.Device _ c.in_err-write_next.field-0.0 _ _ _ c.from_residual.ensures.1
    (given_up_later {T = Bool} g.D.Device (Err c.in_err-write_next.field-0.0) _ c.args.device.now c.loop.device c.write_next.new.device before.same told)

-- there was none to begin
pub returns-then-not-branch-clause-ran : goal.returns-then-not-branch-clause-ran
returns-then-not-branch-clause-ran g c run r =
    let before = c.loop.invariant in
    let told = c.write_next.ensures in
    let first = before.ran run r in
    went_both c.traces_join.ensures.joined c.stretches_join.ensures.joined run c.args.cache.now c.loop.cache c.write_next.new.self _ _ before.trace told.trace first (told.ran _ first.runs)

pub returns-then-not-branch-clause-disk : goal.returns-then-not-branch-clause-disk
returns-then-not-branch-clause-disk g c honest =
    let before = c.loop.invariant in
    let told = c.write_next.ensures in
    keeps_both c.traces_join.ensures.joined g.D.Device c.stretches_join.ensures.kept c.args.cache.now c.loop.cache c.write_next.new.self c.args.flights.now c.loop.flights _ _ _ before.trace told.trace before.ran
    (before.disk honest) (told.disk (before.same.honesty.0 honest))

pub returns-then-not-branch-clause-done : goal.returns-then-not-branch-clause-done
returns-then-not-branch-clause-done g c run r none =
    let before = c.loop.invariant in
    let told = c.in_ok-write_next.ensures in
    let first = before.ran run r in
    let old = c.args.cache.now in
    let mid = c.loop.cache in
    let now = c.write_next.new.self in
    let so_far = followed_by run (steps_since old mid) in
    let flushed = wrote_none so_far c.in_ok-write_next.field-0 (steps_since mid now) c.if-not-branch.true (told.wrote so_far first.runs (before.landed none)) in
    subst (λ s. count_by (is_pending (entries_of s)) c.args.waiting.now ≡ 0) (since_both c.traces_join.ensures.joined run old mid now before.trace told.trace)
    (none_pending_of (entries_of (followed_by so_far (steps_since mid now))) c.args.waiting.now flushed.none)

pub returns-then-not-branch-clause-steps : goal.returns-then-not-branch-clause-steps
returns-then-not-branch-clause-steps g c run r none =
    let before = c.loop.invariant in
    let told = c.in_ok-write_next.ensures in
    let old = c.args.cache.now in
    let mid = c.loop.cache in
    let now = c.write_next.new.self in
    let waiting = c.args.waiting.now in
    let so_far = followed_by run (steps_since old mid) in
    let stands = (before.ran run r).runs in
    let wrote = told.wrote so_far stands (before.landed none) in
    let nothing = wrote_nothing so_far c.in_ok-write_next.field-0 (steps_since mid now) c.if-not-branch.true wrote in
    let flushed = wrote_none so_far c.in_ok-write_next.field-0 (steps_since mid now) c.if-not-branch.true wrote in
    let later = ap (followed_by so_far) nothing ∙ same_run so_far in
    let joined = c.traces_join.ensures.joined old mid now before.trace told.trace in
    let same = joined.1 ∙ ap (λ s. steps_since old mid ++ s) nothing ∙ append-nil (steps_since old mid) in
    subst (λ s. IsSynced waiting run s) (sym same)
    (leads_here waiting run (steps_since old mid) (before.so_far run r none) (none_fly so_far _ stands.flights_are (before.landed none))
    (subst (λ r. count_by (is_pending (entries_of r)) waiting ≡ 0) later (none_pending_of (entries_of (followed_by so_far (steps_since mid now))) waiting flushed.none)))

pub returns-then-not-branch-clause-tries : goal.returns-then-not-branch-clause-tries
returns-then-not-branch-clause-tries g c none =
    let before = c.loop.invariant in
    let told = c.write_next.ensures in
    let so_far = before.tries none in
    let one = told.tries in
    let empty = ap length (before.landed none) in
    let both = sends_both c.traces_join.ensures.joined c.args.cache.now c.loop.cache c.write_next.new.self before.trace told.trace in omega (arith, so_far, one, empty, both)

pub loop-preserved : goal.loop-preserved
loop-preserved g c =
    let before = c.loop.invariant in
    let told = c.in_ok-write_next.ensures in
    let joins = c.traces_join.ensures.joined in
    let old = c.args.cache.now in
    let mid = c.loop.cache in
    let now = c.write_next.new.self in
    let waiting = c.args.waiting.now in
    record {
      ran = λ run r. let first = before.ran run r in went_both joins c.stretches_join.ensures.joined run old mid now _ _ before.trace told.trace first (told.ran _ first.runs);
      turns = λ run r none.
          let first = before.ran run r in
          let so_far = before.turns run r none in
          let some = wrote_some (followed_by run (steps_since old mid)) c.in_ok-write_next.field-0 (steps_since mid now) c.if-not-branch.false (told.wrote _ first.runs (before.landed none)) in
          let both = sends_both joins old mid now before.trace told.trace in omega (arith, some, both, so_far);
      so_far = λ run r none.
          let stands = (before.ran run r).runs in
          let so_far = followed_by run (steps_since old mid) in
          let wrote = told.wrote so_far stands (before.landed none) in
          let inside : c.first_pending-at.result < length waiting = omega (arith, c.first_pending-at.ensures.within, c.if-at-waiting.false) in
          leads_on joins waiting run c.in_ok-write_next.field-0 old mid now before.trace told.trace c.if-not-branch.false (before.so_far run r none) wrote
          (none_fly so_far _ stands.flights_are (before.landed none)) (c.first_pending-at.ensures.found so_far stands.cache_is inside);
      past = λ run r.
          let first = before.ran run r in
          let so_far = followed_by run (steps_since old mid) in
          let later = followed_by so_far (steps_since mid now) in
          let writes = (told.ran so_far first.runs).writes in
          subst (λ s. count_by (is_pending (entries_of s)) (take c.first_pending-at.result waiting) ≡ 0) (since_both joins run old mid now before.trace told.trace)
          (none_still (is_pending (entries_of so_far)) (is_pending (entries_of later)) (take c.first_pending-at.result waiting)
          (stays_past c.steps_extend.ensures.state (λ run block. c.ready_is_largest.ensures.largest (entries_of run) block (c.ready_is_largest.ensures.made run)) so_far (steps_since mid now) writes)
          (c.first_pending-at.ensures.past so_far first.runs.cache_is (before.past run r)));
      within = c.first_pending-at.ensures.within;
      trace = continues_both joins old mid now before.trace told.trace;
      disk = λ honest.
          keeps_both joins g.D.Device c.stretches_join.ensures.kept old mid now c.args.flights.now c.loop.flights _ _ _ before.trace told.trace before.ran (before.disk honest) (told.disk (before.same.honesty.0 honest));
      each = λ run r none.
          tried_both joins g.D.Device c.tries_join.ensures.joined old mid now (held_by c.args.flights.now) (held_by c.loop.flights) c.args.device.now c.loop.device c.write_next.new.device before.trace told.trace
          (before.each run r none) (before.landed none) (told.each false _ (before.ran run r).runs);
      tries = λ none.
          let so_far = before.tries none in
          let one = told.tries in
          let empty = ap length (before.landed none) in
          let both = sends_both joins old mid now before.trace told.trace in omega (arith, so_far, one, empty, both);
      landed = λ none. told.landed (before.landed none);
      same = same_both g.D.Device _ _ _ before.same told.device;
      lasts = λ honest lasts. told.lasts (before.same.honesty.0 honest) (before.lasts honest lasts);
    }

-- what a write that was given up leaves
pub returns-in_err-write_next-clause-gave_up : goal.returns-in_err-write_next-clause-gave_up
returns-in_err-write_next-clause-gave_up g c run on =
    let before = c.loop.invariant in
    let told = c.in_err-write_next.ensures.gave_up _ (record { runs = (before.ran run on.runs).runs; blocks = before.same.count ∙ on.blocks }) in
    write_rises Bool c.from_residual.result c.in_err-write_next.field-0.0 _ _ _ c.from_residual.ensures.1 before.same.faults (g.met.D.Device.faults_fit c.write_next.new.device) told

pub returns-in_err-write_next-clause-held : goal.returns-in_err-write_next-clause-held
returns-in_err-write_next-clause-held g c = write_holds Bool c.from_residual.result c.in_err-write_next.field-0.0 c.write_next.new.flights c.from_residual.ensures.1 c.in_err-write_next.ensures.held

pub returns-in_err-write_next-clause-trace : goal.returns-in_err-write_next-clause-trace
returns-in_err-write_next-clause-trace g c = continues_both c.traces_join.ensures.joined c.args.cache.now c.loop.cache c.write_next.new.self c.loop.invariant.trace c.write_next.ensures.trace

pub returns-in_err-write_next-clause-device : goal.returns-in_err-write_next-clause-device
returns-in_err-write_next-clause-device g c = same_both g.D.Device c.args.device.now c.loop.device c.write_next.new.device c.loop.invariant.same c.write_next.ensures.device

pub returns-then-not-branch-clause-trace : goal.returns-then-not-branch-clause-trace
returns-then-not-branch-clause-trace g c = continues_both c.traces_join.ensures.joined c.args.cache.now c.loop.cache c.write_next.new.self c.loop.invariant.trace c.write_next.ensures.trace

pub returns-then-not-branch-clause-device : goal.returns-then-not-branch-clause-device
returns-then-not-branch-clause-device g c = same_both g.D.Device c.args.device.now c.loop.device c.write_next.new.device c.loop.invariant.same c.write_next.ensures.device

pub returns-in_err-write_next-clause-lasts : goal.returns-in_err-write_next-clause-lasts
returns-in_err-write_next-clause-lasts g c honest = IfOk-from_err c.from_residual.result _ c.from_residual.ensures.0

pub returns-then-not-branch-clause-lasts : goal.returns-then-not-branch-clause-lasts
returns-then-not-branch-clause-lasts g c honest lasts =
    let before = c.loop.invariant in c.in_ok-write_next.ensures.lasts (before.same.honesty.0 honest) (before.lasts honest lasts)

pub returns-in_err-write_next-clause-each : goal.returns-in_err-write_next-clause-each
returns-in_err-write_next-clause-each g c run r none =
    let before = c.loop.invariant in
    let told = c.write_next.ensures in
    tried_both c.traces_join.ensures.joined g.D.Device c.tries_join.ensures.joined c.args.cache.now c.loop.cache c.write_next.new.self (held_by c.args.flights.now) (held_by c.loop.flights) c.args.device.now c.loop.device c.write_next.new.device before.trace told.trace
    (before.each run r none) (before.landed none) (told.each false _ (before.ran run r).runs)

pub returns-then-not-branch-clause-each : goal.returns-then-not-branch-clause-each
returns-then-not-branch-clause-each g c run r none =
    let before = c.loop.invariant in
    let told = c.write_next.ensures in
    tried_both c.traces_join.ensures.joined g.D.Device c.tries_join.ensures.joined c.args.cache.now c.loop.cache c.write_next.new.self (held_by c.args.flights.now) (held_by c.loop.flights) c.args.device.now c.loop.device c.write_next.new.device before.trace told.trace
    (before.each run r none) (before.landed none) (told.each false _ (before.ran run r).runs)

pub returns-then-at-waiting-clause-each : goal.returns-then-at-waiting-clause-each
returns-then-at-waiting-clause-each g c = c.loop.invariant.each

pub returns-clause-each : goal.returns-clause-each
returns-clause-each g c = c.loop.invariant.each
