use Rattle.std.proofs.Common.{Bool, false, ◌∙◌, length, sym, ap, subst, arith}
use Rattle.patch_model.specs.Execution.{Execution, followed_by}
use Rattle.patch_model.specs.State.{entries_of}
use Rattle.patch_device.specs.SameDevice.{same_both}
use Rattle.patch_cache.specs.Running.{Runs, RunsBeside, held_by}
use Rattle.patch_cache.specs.Waves.{steps_since, HasGoneOnBeside, NoneCanBegin, IsFlushed, RisesIfGivenUp, IsHeldIfGivenUp}
use Rattle.patch_cache.specs.Refused.{IfGivenUp, given_up_later}
use Rattle.patch_cache.proofs.Waving.{continues_both, since_both, went_both, keeps_both, keeps_aside, sends_since}
use Rattle.patch_cache.proofs.GivenUp.{rises_on, rises_later, held_on, given_on, no_device_gave_up}
use Rattle.patch_cache.proofs.Passing.{passed_none, passed_some, flushed_after, few_classes}
use Rattle.patch_cache.proofs.Tries.{begins_none, each_wave, each_since, each_begun, each_untried, kept_more, lost_both, none_of, none_after}
use Rattle.std.proofs.lemmas.Result.{IfOk-from_err}
use Rattle.patch_cache.proofs.caches.Cache.flush.Goals as goal

pub loop-init : goal.loop-init
loop-init g c =
    let told = c.land.ensures in
    record {
      ran = told.ran;
      waves = λ others run runs. omega arith;
      none_lost = told.none_lost;
      each = λ others run runs. each_wave g.D.Device (steps_since c.args.self.now c.land.new.self) (held_by c.args.flights.now) c.args.device.now c.land.new.device (begins_none (steps_since c.args.self.now c.land.new.self) told.ends) told.wave;
      trace = told.trace;
      disk = told.disk;
      tries = let tried = told.tries in let ends = told.ends in omega (arith, tried, ends);
      landed = c.in_ok-land.ensures.landed;
      same = told.device;
      lasts = c.in_ok-land.ensures.lasts;
    }

-- a wave can't begin
pub returns-in_err-send_all-clause-ran : goal.returns-in_err-send_all-clause-ran
returns-in_err-send_all-clause-ran g c others run runs =
    let told = c.send_all.ensures in
    let first = c.loop.invariant.ran others run runs in
    went_both run c.args.self.now c.loop.self c.send_all.new.self _ _ c.loop.invariant.trace told.trace first (told.ran others _ first.runs)

pub returns-in_err-send_all-clause-trace : goal.returns-in_err-send_all-clause-trace
returns-in_err-send_all-clause-trace g c = continues_both c.args.self.now c.loop.self c.send_all.new.self c.loop.invariant.trace c.send_all.ensures.trace

pub returns-in_err-send_all-clause-disk : goal.returns-in_err-send_all-clause-disk
returns-in_err-send_all-clause-disk g c honest others =
    let device = g.D.Device in
    let before = c.loop.invariant in
    keeps_both device c.args.self.now c.loop.self c.send_all.new.self c.args.flights.now c.loop.flights _ _ _ before.trace c.send_all.ensures.trace (before.ran others) (before.disk honest others)
    (keeps_aside device c.loop.self c.send_all.new.self c.loop.flights c.loop.device (c.send_all.ensures.stays others))

-- there was none to begin
pub returns-then-not-branch-clause-flushed : goal.returns-then-not-branch-clause-flushed
returns-then-not-branch-clause-flushed g c run runs =
    let old = c.args.self.now in
    let mid = c.loop.self in
    let now = c.send_all.new.self in
    let before = c.loop.invariant in
    let told = c.in_ok-send_all.ensures in
    let first = before.ran false run runs in
    let parts = since_both old mid now before.trace told.trace in
    let pass = passed_none (followed_by run (steps_since old mid)) c.in_ok-send_all.field-0 (steps_since mid now) c.if-not-branch.true (told.pass false _ first.runs) in
    let both = went_both run old mid now _ _ before.trace told.trace first (told.ran false _ first.runs) in
    subst (λ s. IsFlushed (followed_by run s)) (sym parts)
    (flushed_after c.some_is_ready.ensures c.patches_are_placed.ensures.flying c.pairs_merge.ensures.sent run (steps_since old mid) (steps_since mid now) now _
    (subst (λ s. Runs now c.send_all.new.flights (followed_by run s)) parts both.runs) (told.kept c.if-not-branch.true ∙ before.landed) pass.0 pass.1)

pub returns-then-not-branch-clause-disk : goal.returns-then-not-branch-clause-disk
returns-then-not-branch-clause-disk g c honest others =
    let device = g.D.Device in
    let before = c.loop.invariant in
    keeps_both device c.args.self.now c.loop.self c.send_all.new.self c.args.flights.now c.loop.flights _ _ _ before.trace c.send_all.ensures.trace (before.ran others) (before.disk honest others)
    (keeps_aside device c.loop.self c.send_all.new.self c.loop.flights c.loop.device (c.send_all.ensures.stays others))

-- a flight of the wave was given up
pub returns-in_err-land-2-clause-ran : goal.returns-in_err-land-2-clause-ran
returns-in_err-land-2-clause-ran g c others run runs =
    let old = c.args.self.now in
    let mid = c.loop.self in
    let sent = c.send_all.new.self in
    let before = c.loop.invariant in
    let told = c.in_ok-send_all.ensures in
    let first = before.ran others run runs in
    let both = went_both run old mid sent _ _ before.trace told.trace first (told.ran others _ first.runs) in
    went_both run old sent c.land-in-loop.new.self _ _ (continues_both old mid sent before.trace told.trace) c.land-in-loop.ensures.trace both (c.land-in-loop.ensures.ran others _ both.runs)

pub returns-in_err-land-2-clause-disk : goal.returns-in_err-land-2-clause-disk
returns-in_err-land-2-clause-disk g c honest others =
    let device = g.D.Device in
    let old = c.args.self.now in
    let mid = c.loop.self in
    let sent = c.send_all.new.self in
    let before = c.loop.invariant in
    let told = c.in_ok-send_all.ensures in
    let ran : (run : Execution) → RunsBeside others old c.args.flights.now run → HasGoneOnBeside others run (steps_since old sent) sent c.send_all.new.flights =
    λ run runs. let first = before.ran others run runs in went_both run old mid sent c.loop.flights c.send_all.new.flights before.trace told.trace first (told.ran others _ first.runs) in
    keeps_both device old sent c.land-in-loop.new.self c.args.flights.now c.send_all.new.flights _ _ _ (continues_both old mid sent before.trace told.trace) c.land-in-loop.ensures.trace ran
    (keeps_both device old mid sent c.args.flights.now c.loop.flights _ _ _ before.trace told.trace (before.ran others) (before.disk honest others)
    (keeps_aside device mid sent c.loop.flights c.loop.device (c.send_all.ensures.stays others)))
    (c.land-in-loop.ensures.disk (before.same.honesty.0 honest) others)

pub loop-preserved : goal.loop-preserved
loop-preserved g c =
    let device = g.D.Device in
    let old = c.args.self.now in
    let mid = c.loop.self in
    let sent = c.send_all.new.self in
    let now = c.land-in-loop.new.self in
    let before = c.loop.invariant in
    let wave = c.in_ok-send_all.ensures in
    let told = c.land-in-loop.ensures in
    let trace = continues_both old mid sent before.trace wave.trace in
    let ran : (others : Bool) (run : Execution) → RunsBeside others old c.args.flights.now run → HasGoneOnBeside others run (steps_since old sent) sent c.send_all.new.flights =
    λ others run runs. let first = before.ran others run runs in went_both run old mid sent c.loop.flights c.send_all.new.flights before.trace wave.trace first (wave.ran others _ first.runs) in
    record {
      ran = λ others run runs. let both = ran others run runs in went_both run old sent now _ _ trace told.trace both (told.ran others _ both.runs);
      waves = λ others run runs.
          let first = before.ran others run runs in
          let some = passed_some (followed_by run (steps_since old mid)) c.in_ok-send_all.field-0 (steps_since mid sent) c.if-not-branch.false (wave.pass others _ first.runs) in
          let so_far = before.waves others run runs in
          let inner = sends_since old mid sent before.trace wave.trace in
          let outer = sends_since old sent now trace told.trace in omega (arith, some, so_far, inner, outer);
      none_lost = λ others run runs.
          let first = before.ran others run runs in
          lost_both old sent now c.args.flights.now c.send_all.new.flights c.land-in-loop.new.flights trace told.trace
          (lost_both old mid sent c.args.flights.now c.loop.flights c.send_all.new.flights before.trace wave.trace (before.none_lost others run runs)
          (kept_more (steps_since mid sent) c.loop.flights c.send_all.new.flights (λ b. wave.more others _ b first.runs)))
          (told.none_lost others _ (ran others run runs).runs);
      each = λ others run runs.
          let first = before.ran others run runs in
          each_since device old mid now (held_by c.args.flights.now) (held_by c.loop.flights) c.args.device.now c.loop.device c.land-in-loop.new.device before.trace (continues_both mid sent now wave.trace told.trace)
          (before.each others run runs) (none_of (held_by c.loop.flights) before.landed)
          (each_begun device mid sent now c.loop.flights c.send_all.new.flights c.loop.device c.land-in-loop.new.device wave.trace told.trace (λ b. wave.more others _ b first.runs) told.ends told.wave);
      trace = continues_both old sent now trace told.trace;
      disk = λ honest others.
          keeps_both device old sent now c.args.flights.now c.send_all.new.flights _ _ _ trace told.trace (ran others)
          (keeps_both device old mid sent c.args.flights.now c.loop.flights _ _ _ before.trace wave.trace (before.ran others) (before.disk honest others)
          (keeps_aside device mid sent c.loop.flights c.loop.device (c.send_all.ensures.stays others)))
          (told.disk (before.same.honesty.0 honest) others);
      tries =
          let so_far = before.tries in
          let wave_tried = told.tries in
          let held = wave.count in
          let none = ap length before.landed in
          let sends = sends_since old mid sent before.trace wave.trace in
          let lands = sends_since old sent now trace told.trace in
          let ends = told.ends in omega (arith, so_far, wave_tried, held, none, sends, lands, ends);
      landed = c.in_ok-land-2.ensures.landed;
      same = same_both g.D.Device c.args.device.now c.loop.device c.land-in-loop.new.device before.same told.device;
      lasts = λ honest lasts. c.in_ok-land-2.ensures.lasts (before.same.honesty.0 honest) (before.lasts honest lasts);
    }

pub returns-in_err-land-2-clause-refused : goal.returns-in_err-land-2-clause-refused
returns-in_err-land-2-clause-refused g c others run on =
    let before = c.loop.invariant in
    let first = before.ran others run on.runs in
    let sent = c.send_all.ensures.ran others _ first.runs in
    let told = c.in_err-land-2.ensures.refused others _ (record { runs = sent.runs; blocks = before.same.count ∙ on.blocks }) in
    given_up_later g.D.Device _ _ c.args.device.now c.loop.device c.land-in-loop.new.device before.same
    (given_on (Unit {0}) g.D.Device _ c.in_err-land-2.field-0.0 _ _ _ c.from_residual-in_err-land-2.ensures.1 told)

-- there are no more waves than classes in memory at first
pub returns-clause-flushed : goal.returns-clause-flushed
returns-clause-flushed g c run runs =
    let first = c.loop.invariant.ran false run runs in
    let live = c.live.ensures.answer run runs.cache_is in
    let some = few_classes (entries_of run) in
    let sends = first.sends in
    let turns = c.loop.invariant.waves false run runs in
    let past = c.loop-test.false in
    let wide = c.from-turns.ensures in absurd (omega (arith, live, some, sends, turns, past, wide))

-- how often
pub returns-in_err-land-clause-tries : goal.returns-in_err-land-clause-tries
returns-in_err-land-clause-tries g c = let told = c.land.ensures.tries in omega (arith, told)

pub returns-in_err-send_all-clause-tries : goal.returns-in_err-send_all-clause-tries
returns-in_err-send_all-clause-tries g c =
    let before = c.loop.invariant in
    let so_far = before.tries in
    let sends = sends_since c.args.self.now c.loop.self c.send_all.new.self before.trace c.send_all.ensures.trace in omega (arith, so_far, sends)

pub returns-then-not-branch-clause-tries : goal.returns-then-not-branch-clause-tries
returns-then-not-branch-clause-tries g c =
    let before = c.loop.invariant in
    let so_far = before.tries in
    let sends = sends_since c.args.self.now c.loop.self c.send_all.new.self before.trace c.send_all.ensures.trace in omega (arith, so_far, sends)

pub returns-in_err-land-2-clause-tries : goal.returns-in_err-land-2-clause-tries
returns-in_err-land-2-clause-tries g c =
    let old = c.args.self.now in
    let mid = c.loop.self in
    let sent = c.send_all.new.self in
    let before = c.loop.invariant in
    let wave = c.in_ok-send_all.ensures in
    let told = c.land-in-loop.ensures in
    let so_far = before.tries in
    let wave_tried = told.tries in
    let held = wave.count in
    let none = ap length before.landed in
    let sends = sends_since old mid sent before.trace wave.trace in
    let lands = sends_since old sent c.land-in-loop.new.self (continues_both old mid sent before.trace wave.trace) told.trace in
    let ends = told.ends in omega (arith, so_far, wave_tried, held, none, sends, lands, ends)

-- which device was given up
pub returns-in_err-land-clause-gave_up : goal.returns-in_err-land-clause-gave_up
returns-in_err-land-clause-gave_up g c others run on =
    rises_on (Unit {0}) c.from_residual.result c.in_err-land.field-0.0 _ _ c.from_residual.ensures.1 (c.in_err-land.ensures.gave_up others run on)

pub returns-in_err-land-clause-refused : goal.returns-in_err-land-clause-refused
returns-in_err-land-clause-refused g c others run on =
    given_on (Unit {0}) g.D.Device c.from_residual.result c.in_err-land.field-0.0 _ _ _ c.from_residual.ensures.1 (c.in_err-land.ensures.refused others run on)

pub returns-in_err-land-clause-held : goal.returns-in_err-land-clause-held
returns-in_err-land-clause-held g c = held_on (Unit {0}) c.from_residual.result c.in_err-land.field-0.0 c.land.new.flights c.from_residual.ensures.1 c.in_err-land.ensures.held

pub returns-in_err-land-clause-lasts : goal.returns-in_err-land-clause-lasts
returns-in_err-land-clause-lasts g c honest = IfOk-from_err c.from_residual.result _ c.from_residual.ensures.0

pub returns-in_err-send_all-clause-lasts : goal.returns-in_err-send_all-clause-lasts
returns-in_err-send_all-clause-lasts g c honest = IfOk-from_err c.from_residual-in_err-send_all.result _ c.from_residual-in_err-send_all.ensures.0

pub returns-in_err-land-2-clause-lasts : goal.returns-in_err-land-2-clause-lasts
returns-in_err-land-2-clause-lasts g c honest = IfOk-from_err c.from_residual-in_err-land-2.result _ c.from_residual-in_err-land-2.ensures.0

pub returns-then-not-branch-clause-lasts : goal.returns-then-not-branch-clause-lasts
returns-then-not-branch-clause-lasts g c = c.loop.invariant.lasts

pub returns-clause-lasts : goal.returns-clause-lasts
returns-clause-lasts g c = c.loop.invariant.lasts

pub returns-in_err-send_all-clause-gave_up : goal.returns-in_err-send_all-clause-gave_up
returns-in_err-send_all-clause-gave_up g c others run on =
    no_device_gave_up c.from_residual-in_err-send_all.result (λ r. RisesIfGivenUp r (g.D.Device.fault_count c.args.device.now) (g.D.Device.fault_count c.loop.device)) c.from_residual-in_err-send_all.ensures.1 tt

pub returns-in_err-send_all-clause-refused : goal.returns-in_err-send_all-clause-refused
returns-in_err-send_all-clause-refused g c others run on =
    no_device_gave_up c.from_residual-in_err-send_all.result (λ r. IfGivenUp g.D.Device r c.send_all.new.flights c.args.device.now c.loop.device) c.from_residual-in_err-send_all.ensures.1 tt

pub returns-in_err-send_all-clause-held : goal.returns-in_err-send_all-clause-held
returns-in_err-send_all-clause-held g c =
    no_device_gave_up c.from_residual-in_err-send_all.result (λ r. IsHeldIfGivenUp r c.send_all.new.flights) c.from_residual-in_err-send_all.ensures.1 tt

pub returns-in_err-land-2-clause-gave_up : goal.returns-in_err-land-2-clause-gave_up
returns-in_err-land-2-clause-gave_up g c others run on =
    let before = c.loop.invariant in
    let first = before.ran others run on.runs in
    let sent = c.send_all.ensures.ran others _ first.runs in
    let told = c.in_err-land-2.ensures.gave_up others _ (record { runs = sent.runs; blocks = before.same.count ∙ on.blocks }) in
    rises_later c.from_residual-in_err-land-2.result _ _ _ before.same.faults (g.met.D.Device.faults_fit c.land-in-loop.new.device)
    (rises_on (Unit {0}) c.from_residual-in_err-land-2.result c.in_err-land-2.field-0.0 _ _ c.from_residual-in_err-land-2.ensures.1 told)

pub returns-in_err-land-2-clause-held : goal.returns-in_err-land-2-clause-held
returns-in_err-land-2-clause-held g c =
    held_on (Unit {0}) c.from_residual-in_err-land-2.result c.in_err-land-2.field-0.0 c.land-in-loop.new.flights c.from_residual-in_err-land-2.ensures.1 c.in_err-land-2.ensures.held

-- what the way to each exit adds to the trace, and leaves of the device
pub returns-then-not-branch-clause-ran : goal.returns-then-not-branch-clause-ran
returns-then-not-branch-clause-ran g c others run runs =
    let told = c.send_all.ensures in
    let first = c.loop.invariant.ran others run runs in
    went_both run c.args.self.now c.loop.self c.send_all.new.self _ _ c.loop.invariant.trace told.trace first (told.ran others _ first.runs)

pub returns-then-not-branch-clause-trace : goal.returns-then-not-branch-clause-trace
returns-then-not-branch-clause-trace g c = continues_both c.args.self.now c.loop.self c.send_all.new.self c.loop.invariant.trace c.send_all.ensures.trace

pub returns-in_err-land-2-clause-trace : goal.returns-in_err-land-2-clause-trace
returns-in_err-land-2-clause-trace g c =
    let old = c.args.self.now in
    let sent = c.send_all.new.self in
    continues_both old sent c.land-in-loop.new.self (continues_both old c.loop.self sent c.loop.invariant.trace c.send_all.ensures.trace) c.land-in-loop.ensures.trace

pub returns-in_err-land-2-clause-device : goal.returns-in_err-land-2-clause-device
returns-in_err-land-2-clause-device g c = same_both g.D.Device c.args.device.now c.loop.device c.land-in-loop.new.device c.loop.invariant.same c.land-in-loop.ensures.device

-- what is told where the held flights are given up
pub returns-in_err-land-clause-ran : goal.returns-in_err-land-clause-ran
returns-in_err-land-clause-ran g c = c.land.ensures.ran

pub returns-in_err-land-clause-trace : goal.returns-in_err-land-clause-trace
returns-in_err-land-clause-trace g c = c.land.ensures.trace

pub returns-in_err-land-clause-disk : goal.returns-in_err-land-clause-disk
returns-in_err-land-clause-disk g c = c.land.ensures.disk

pub returns-in_err-land-clause-device : goal.returns-in_err-land-clause-device
returns-in_err-land-clause-device g c = c.land.ensures.device

pub returns-in_err-land-clause-flushed : goal.returns-in_err-land-clause-flushed
returns-in_err-land-clause-flushed g c = λ run runs. IfOk-from_err c.from_residual.result _ c.from_residual.ensures.0

pub returns-in_err-land-clause-landed : goal.returns-in_err-land-clause-landed
returns-in_err-land-clause-landed g c = IfOk-from_err c.from_residual.result _ c.from_residual.ensures.0

pub returns-in_err-send_all-clause-flushed : goal.returns-in_err-send_all-clause-flushed
returns-in_err-send_all-clause-flushed g c = λ run runs. IfOk-from_err c.from_residual-in_err-send_all.result _ c.from_residual-in_err-send_all.ensures.0

pub returns-in_err-send_all-clause-landed : goal.returns-in_err-send_all-clause-landed
returns-in_err-send_all-clause-landed g c = IfOk-from_err c.from_residual-in_err-send_all.result _ c.from_residual-in_err-send_all.ensures.0

pub returns-in_err-land-2-clause-flushed : goal.returns-in_err-land-2-clause-flushed
returns-in_err-land-2-clause-flushed g c = λ run runs. IfOk-from_err c.from_residual-in_err-land-2.result _ c.from_residual-in_err-land-2.ensures.0

pub returns-in_err-land-2-clause-landed : goal.returns-in_err-land-2-clause-landed
returns-in_err-land-2-clause-landed g c = IfOk-from_err c.from_residual-in_err-land-2.result _ c.from_residual-in_err-land-2.ensures.0

pub returns-in_err-send_all-clause-device : goal.returns-in_err-send_all-clause-device
returns-in_err-send_all-clause-device g c = c.loop.invariant.same

pub returns-then-not-branch-clause-gave_up : goal.returns-then-not-branch-clause-gave_up
returns-then-not-branch-clause-gave_up g c = λ others run on. tt

pub returns-then-not-branch-clause-refused : goal.returns-then-not-branch-clause-refused
returns-then-not-branch-clause-refused g c = λ others run on. tt

pub returns-then-not-branch-clause-held : goal.returns-then-not-branch-clause-held
returns-then-not-branch-clause-held g c = tt

pub returns-then-not-branch-clause-device : goal.returns-then-not-branch-clause-device
returns-then-not-branch-clause-device g c = c.loop.invariant.same

pub returns-clause-gave_up : goal.returns-clause-gave_up
returns-clause-gave_up g c = λ others run on. tt

pub returns-clause-refused : goal.returns-clause-refused
returns-clause-refused g c = λ others run on. tt

pub returns-clause-held : goal.returns-clause-held
returns-clause-held g c = tt

pub returns-clause-device : goal.returns-clause-device
returns-clause-device g c = c.loop.invariant.same

pub returns-then-not-branch-clause-landed : goal.returns-then-not-branch-clause-landed
returns-then-not-branch-clause-landed g c = c.in_ok-send_all.ensures.kept c.if-not-branch.true ∙ c.loop.invariant.landed

pub returns-clause-landed : goal.returns-clause-landed
returns-clause-landed g c = c.loop.invariant.landed

pub returns-clause-ran : goal.returns-clause-ran
returns-clause-ran g c = c.loop.invariant.ran

pub returns-clause-trace : goal.returns-clause-trace
returns-clause-trace g c = c.loop.invariant.trace

pub returns-clause-disk : goal.returns-clause-disk
returns-clause-disk g c = c.loop.invariant.disk

pub returns-clause-tries : goal.returns-clause-tries
returns-clause-tries g c = c.loop.invariant.tries

-- what became of each flight, and that none can begin at the end

pub returns-in_err-land-clause-each : goal.returns-in_err-land-clause-each
returns-in_err-land-clause-each g c others run runs =
    let told = c.land.ensures in each_wave g.D.Device (steps_since c.args.self.now c.land.new.self) (held_by c.args.flights.now) c.args.device.now c.land.new.device (begins_none (steps_since c.args.self.now c.land.new.self) told.ends) told.wave

pub returns-in_err-land-clause-none_lost : goal.returns-in_err-land-clause-none_lost
returns-in_err-land-clause-none_lost g c = c.land.ensures.none_lost

pub returns-in_err-land-clause-done : goal.returns-in_err-land-clause-done
returns-in_err-land-clause-done g c others run runs = IfOk-from_err c.from_residual.result _ c.from_residual.ensures.0

pub returns-in_err-send_all-clause-done : goal.returns-in_err-send_all-clause-done
returns-in_err-send_all-clause-done g c others run runs = IfOk-from_err c.from_residual-in_err-send_all.result _ c.from_residual-in_err-send_all.ensures.0

pub returns-in_err-land-2-clause-done : goal.returns-in_err-land-2-clause-done
returns-in_err-land-2-clause-done g c others run runs = IfOk-from_err c.from_residual-in_err-land-2.result _ c.from_residual-in_err-land-2.ensures.0

pub returns-then-not-branch-clause-done : goal.returns-then-not-branch-clause-done
returns-then-not-branch-clause-done g c others run runs =
    let old = c.args.self.now in
    let mid = c.loop.self in
    let now = c.send_all.new.self in
    let before = c.loop.invariant in
    let told = c.in_ok-send_all.ensures in
    let first = before.ran others run runs in
    let pass = passed_none (followed_by run (steps_since old mid)) c.in_ok-send_all.field-0 (steps_since mid now) c.if-not-branch.true (told.pass others _ first.runs) in
    subst (λ s. NoneCanBegin (followed_by run s)) (sym (since_both old mid now before.trace told.trace)) (none_after run (steps_since old mid) (steps_since mid now) pass.0 pass.1)

pub returns-clause-done : goal.returns-clause-done
returns-clause-done g c others run runs =
    let first = c.loop.invariant.ran others run runs in
    let live = c.live.ensures.answer run runs.cache_is in
    let some = few_classes (entries_of run) in
    let sends = first.sends in
    let turns = c.loop.invariant.waves others run runs in
    let past = c.loop-test.false in
    let wide = c.from-turns.ensures in absurd (omega (arith, live, some, sends, turns, past, wide))

pub returns-clause-none_lost : goal.returns-clause-none_lost
returns-clause-none_lost g c = c.loop.invariant.none_lost

pub returns-clause-each : goal.returns-clause-each
returns-clause-each g c = c.loop.invariant.each

pub returns-in_err-send_all-clause-none_lost : goal.returns-in_err-send_all-clause-none_lost
returns-in_err-send_all-clause-none_lost g c others run runs =
    let mid = c.loop.self in
    let now = c.send_all.new.self in
    let before = c.loop.invariant in
    let told = c.send_all.ensures in
    let first = before.ran others run runs in
    lost_both c.args.self.now mid now c.args.flights.now c.loop.flights c.send_all.new.flights before.trace told.trace (before.none_lost others run runs)
    (kept_more (steps_since mid now) c.loop.flights c.send_all.new.flights (λ b. told.more others _ b first.runs))

pub returns-in_err-send_all-clause-each : goal.returns-in_err-send_all-clause-each
returns-in_err-send_all-clause-each g c others run runs =
    let mid = c.loop.self in
    let now = c.send_all.new.self in
    let before = c.loop.invariant in
    let told = c.send_all.ensures in
    let first = before.ran others run runs in
    each_since g.D.Device c.args.self.now mid now (held_by c.args.flights.now) (held_by c.loop.flights) c.args.device.now c.loop.device c.loop.device before.trace told.trace (before.each others run runs)
    (none_of (held_by c.loop.flights) before.landed) (each_untried g.D.Device (steps_since mid now) c.loop.flights c.send_all.new.flights c.loop.device (λ b. told.more others _ b first.runs))

pub returns-then-not-branch-clause-none_lost : goal.returns-then-not-branch-clause-none_lost
returns-then-not-branch-clause-none_lost g c others run runs =
    let mid = c.loop.self in
    let now = c.send_all.new.self in
    let before = c.loop.invariant in
    let told = c.send_all.ensures in
    let first = before.ran others run runs in
    lost_both c.args.self.now mid now c.args.flights.now c.loop.flights c.send_all.new.flights before.trace told.trace (before.none_lost others run runs)
    (kept_more (steps_since mid now) c.loop.flights c.send_all.new.flights (λ b. told.more others _ b first.runs))

pub returns-then-not-branch-clause-each : goal.returns-then-not-branch-clause-each
returns-then-not-branch-clause-each g c others run runs =
    let mid = c.loop.self in
    let now = c.send_all.new.self in
    let before = c.loop.invariant in
    let told = c.send_all.ensures in
    let first = before.ran others run runs in
    each_since g.D.Device c.args.self.now mid now (held_by c.args.flights.now) (held_by c.loop.flights) c.args.device.now c.loop.device c.loop.device before.trace told.trace (before.each others run runs)
    (none_of (held_by c.loop.flights) before.landed) (each_untried g.D.Device (steps_since mid now) c.loop.flights c.send_all.new.flights c.loop.device (λ b. told.more others _ b first.runs))

pub returns-in_err-land-2-clause-none_lost : goal.returns-in_err-land-2-clause-none_lost
returns-in_err-land-2-clause-none_lost g c others run runs =
    let old = c.args.self.now in
    let mid = c.loop.self in
    let sent = c.send_all.new.self in
    let before = c.loop.invariant in
    let wave = c.in_ok-send_all.ensures in
    let first = before.ran others run runs in
    let both = went_both run old mid sent c.loop.flights c.send_all.new.flights before.trace wave.trace first (wave.ran others _ first.runs) in
    lost_both old sent c.land-in-loop.new.self c.args.flights.now c.send_all.new.flights c.land-in-loop.new.flights (continues_both old mid sent before.trace wave.trace) c.land-in-loop.ensures.trace
    (lost_both old mid sent c.args.flights.now c.loop.flights c.send_all.new.flights before.trace wave.trace (before.none_lost others run runs)
    (kept_more (steps_since mid sent) c.loop.flights c.send_all.new.flights (λ b. wave.more others _ b first.runs)))
    (c.land-in-loop.ensures.none_lost others _ both.runs)

pub returns-in_err-land-2-clause-each : goal.returns-in_err-land-2-clause-each
returns-in_err-land-2-clause-each g c others run runs =
    let mid = c.loop.self in
    let sent = c.send_all.new.self in
    let now = c.land-in-loop.new.self in
    let before = c.loop.invariant in
    let wave = c.in_ok-send_all.ensures in
    let told = c.land-in-loop.ensures in
    let first = before.ran others run runs in
    each_since g.D.Device c.args.self.now mid now (held_by c.args.flights.now) (held_by c.loop.flights) c.args.device.now c.loop.device c.land-in-loop.new.device before.trace (continues_both mid sent now wave.trace told.trace)
    (before.each others run runs) (none_of (held_by c.loop.flights) before.landed)
    (each_begun g.D.Device mid sent now c.loop.flights c.send_all.new.flights c.loop.device c.land-in-loop.new.device wave.trace told.trace (λ b. wave.more others _ b first.runs) told.ends told.wave)
