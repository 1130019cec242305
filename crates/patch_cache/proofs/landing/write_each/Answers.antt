use Rattle.std.proofs.Common.{◌≡◌, ◌∙◌, ◌<◌, ℕ, length, take, slice_set, refl, sym, ap, subst, arith}
use Rattle.std.proofs.Math.Seq.{take-length}
use Rattle.patch_cache.proofs.HeldFlights.{inside_at}
use Rattle.patch_device.specs.SameDevice.{same_still, same_both}
use Rattle.patch_cache.specs.Waves.{with_flights}
use Rattle.patch_cache.specs.Tries.{AreTried}
use Rattle.patch_cache.proofs.Tries.{tried_more, tried_so_far}
use Rattle.patch_cache.proofs.Answering.{on_err, on_ok}
use Rattle.patch_cache.proofs.GivenUp.{risen_later}
use Rattle.patch_cache.proofs.Waving.{kept_still, kept_unmoved, kept_more, with_one_more, next_taken, images_either}
use Rattle.patch_cache.proofs.landing.write_each.Goals as goal

pub loop-flight-init : goal.loop-flight-init
loop-flight-init g c = record {
  same = same_still g.D.Device c.args.device.now;
  tries = omega arith;
  each = refl;
  written = λ honest. refl;
  crash = λ honest run images. kept_unmoved g.D.Device run c.args.device.now;
}

pub loop-flight-preserved : goal.loop-flight-preserved
loop-flight-preserved g c =
    let device = g.D.Device in
    let before = c.loop-flight.invariant in
    let told = c.write_tried.ensures in
    let held = c.args.held.now in
    let flight = c.flight-item.result in
    let old = c.args.device.now in
    let mid = c.loop-flight.device in
    let next = c.write_tried.new.device in
    let within : c.loop-flight.flight-index < length held = c.loop-flight-test.true in
    let passed = sym c.is_err.ensures.value ∙ c.if-is_err.false in
    record {
      same = same_both device old mid next before.same told.device;
      tries = let so_far = before.tries in let one = told.tries in omega (arith, so_far, one);
      each = subst (λ xs. AreTried device xs old next) (sym (next_taken held c.loop-flight.flight-index flight within c.flight-item.is))
          (tried_more device (take c.loop-flight.flight-index held) flight old mid next before.each (record { same = told.device; tries = told.tries; either = told.either }));
      written = λ honest.
          on_ok c.write_tried.result _ passed (told.written (before.same.honesty.0 honest)) ∙ ap (λ d. slice_set d flight.block flight.image) (before.written honest)
          ∙ sym (with_one_more (device.contents old) (take c.loop-flight.flight-index held) flight)
          ∙ sym (ap (with_flights (device.contents old)) (next_taken held c.loop-flight.flight-index flight within c.flight-item.is));
      crash = λ honest run images.
          let is = images flight (inside_at held flight c.loop-flight.flight-index within c.flight-item.is) in
          let here = before.same.honesty.0 honest in
          kept_more device run old mid next (before.crash honest run images)
          (kept_still device run mid next (λ left. told.crash here run is.0 is.2 left) (λ holds. images_either run flight.block flight.image (device.contents mid) (device.contents next) is.1 (told.either here) holds));
    }

-- the device gave up
pub returns-then-is_err-clause-device : goal.returns-then-is_err-clause-device
returns-then-is_err-clause-device g c = same_both g.D.Device c.args.device.now c.loop-flight.device c.write_tried.new.device c.loop-flight.invariant.same c.write_tried.ensures.device

pub returns-then-is_err-clause-tries : goal.returns-then-is_err-clause-tries
returns-then-is_err-clause-tries g c =
    let so_far = c.loop-flight.invariant.tries in
    let one = c.write_tried.ensures.tries in
    let within = c.loop-flight-test.true in
    let long = c.loop-flight.auto.flight-index-end in omega (arith, so_far, one, within, long)

pub returns-then-is_err-clause-each : goal.returns-then-is_err-clause-each
returns-then-is_err-clause-each g c =
    let device = g.D.Device in
    let before = c.loop-flight.invariant in
    let told = c.write_tried.ensures in
    let held = c.args.held.now in
    let flight = c.flight-item.result in
    let at = c.loop-flight.flight-index in
    let old = c.args.device.now in
    let mid = c.loop-flight.device in
    let next = c.write_tried.new.device in
    tried_so_far device held at old next
    (subst (λ xs. AreTried device xs old next) (sym (next_taken held at flight c.loop-flight-test.true c.flight-item.is))
    (tried_more device (take at held) flight old mid next before.each (record { same = told.device; tries = told.tries; either = told.either })))

pub returns-then-is_err-clause-cause : goal.returns-then-is_err-clause-cause
returns-then-is_err-clause-cause g c known =
    let held = c.args.held.now in
    let before = c.loop-flight.invariant in
    let flight = c.flight-item.result in
    let there = known flight (inside_at held flight c.loop-flight.flight-index c.loop-flight-test.true c.flight-item.is) in
    let failed = sym c.is_err.ensures.value ∙ c.if-is_err.true in
    risen_later _ _ _ _ before.same.faults (on_err c.write_tried.result _ failed (c.write_tried.ensures.cause (subst (λ (n : ℕ). flight.block < n) (sym before.same.count) there)))

pub returns-then-is_err-clause-refused : goal.returns-then-is_err-clause-refused
returns-then-is_err-clause-refused g c known =
    let held = c.args.held.now in
    let before = c.loop-flight.invariant in
    let flight = c.flight-item.result in
    let inside = inside_at held flight c.loop-flight.flight-index c.loop-flight-test.true c.flight-item.is in
    let failed = sym c.is_err.ensures.value ∙ c.if-is_err.true in
    record {
      flight = flight;
      inside = inside;
      of = refl;
      refused = record {
        mid = c.loop-flight.device;
        same = before.same;
        tries = on_err c.write_tried.result _ failed (c.write_tried.ensures.refused (subst (λ (n : ℕ). flight.block < n) (sym before.same.count) (known flight inside)));
      };
    }

pub returns-then-is_err-clause-block : goal.returns-then-is_err-clause-block
returns-then-is_err-clause-block g c =
    let flight = c.flight-item.result in (flight, inside_at c.args.held.now flight c.loop-flight.flight-index c.loop-flight-test.true c.flight-item.is, refl)

pub returns-then-is_err-clause-crash : goal.returns-then-is_err-clause-crash
returns-then-is_err-clause-crash g c honest run images =
    let device = g.D.Device in
    let before = c.loop-flight.invariant in
    let told = c.write_tried.ensures in
    let flight = c.flight-item.result in
    let mid = c.loop-flight.device in
    let next = c.write_tried.new.device in
    let is = images flight (inside_at c.args.held.now flight c.loop-flight.flight-index c.loop-flight-test.true c.flight-item.is) in
    let here = before.same.honesty.0 honest in
    kept_more device run c.args.device.now mid next (before.crash honest run images)
    (kept_still device run mid next (λ left. told.crash here run is.0 is.2 left) (λ holds. images_either run flight.block flight.image (device.contents mid) (device.contents next) is.1 (told.either here) holds))

-- all are written
pub returns-clause-device : goal.returns-clause-device
returns-clause-device g c = c.loop-flight.invariant.same

pub returns-clause-tries : goal.returns-clause-tries
returns-clause-tries g c =
    let so_far = c.loop-flight.invariant.tries in
    let past = c.loop-flight-test.false in
    let long = c.loop-flight.auto.flight-index-end in omega (arith, so_far, past, long)

pub returns-clause-each : goal.returns-clause-each
returns-clause-each g c =
    let held = c.args.held.now in
    let past = c.loop-flight-test.false in
    let long = c.loop-flight.auto.flight-index-end in
    let all : c.loop-flight.flight-index ≡ length held = omega (arith, past, long) in
    subst (λ xs. AreTried g.D.Device xs c.args.device.now c.loop-flight.device) (ap (λ n. take n held) all ∙ take-length held) c.loop-flight.invariant.each

pub returns-clause-written : goal.returns-clause-written
returns-clause-written g c honest =
    let held = c.args.held.now in
    let past = c.loop-flight-test.false in
    let long = c.loop-flight.auto.flight-index-end in
    let all : c.loop-flight.flight-index ≡ length held = omega (arith, past, long) in
    c.loop-flight.invariant.written honest ∙ ap (with_flights (g.D.Device.contents c.args.device.now)) (ap (λ n. take n held) all ∙ take-length held)

pub returns-clause-crash : goal.returns-clause-crash
returns-clause-crash g c = c.loop-flight.invariant.crash
