use Rattle.std.proofs.Common.{inl, inr, refl, sym, subst, ◌∙◌, ◌<◌, arith}
use Rattle.patch_device.specs.Device.{IsOldOrNew}
use Rattle.patch_device.specs.SameDevice.{same_still, same_both}
use Rattle.patch_cache.proofs.Crashing.{unmoved, write_lands}
use Rattle.patch_cache.proofs.Waving.{written_again, either_again, risen_again, refused_again, joined_still, is_ok_on, is_ok_off}
use Rattle.patch_cache.proofs.landing.write_tried.Goals as goal

pub loop-init : goal.loop-init
loop-init g c = record {
  same = same_still g.D.Device c.args.device.now;
  cause = λ known. inl (omega arith);
  refused = λ known. refl;
  either = λ honest. inl refl;
  tries = omega arith;
  crash = λ honest run known is left. unmoved g.D.Device run c.args.device.now left;
}

pub returns-then-is_ok-clause-written : goal.returns-then-is_ok-clause-written
returns-then-is_ok-clause-written g c honest =
    let device = g.D.Device in
    let before = c.loop.invariant in
    let flight = c.args.flight.now in
    written_again (device.contents c.args.device.now) (device.contents c.loop.device) (device.contents c.write_image.new.device) flight.block flight.image (before.either honest)
    (is_ok_on c.write_image.result _ (sym c.is_ok.ensures.value ∙ c.if-is_ok.true) (c.write_image.ensures.written (before.same.honesty.0 honest)))

pub returns-then-is_ok-clause-either : goal.returns-then-is_ok-clause-either
returns-then-is_ok-clause-either g c honest =
    let device = g.D.Device in
    let before = c.loop.invariant in
    let flight = c.args.flight.now in
    inr (written_again (device.contents c.args.device.now) (device.contents c.loop.device) (device.contents c.write_image.new.device) flight.block flight.image (before.either honest)
    (is_ok_on c.write_image.result _ (sym c.is_ok.ensures.value ∙ c.if-is_ok.true) (c.write_image.ensures.written (before.same.honesty.0 honest))))

pub returns-then-is_ok-clause-crash : goal.returns-then-is_ok-clause-crash
returns-then-is_ok-clause-crash g c honest run known is left =
    let before = c.loop.invariant in
    let told = c.write_image.ensures in
    let flight = c.args.flight.now in
    let so_far = before.crash honest run known is left in
    joined_still g.D.Device run run c.args.device.now c.loop.device c.write_image.new.device so_far
    (write_lands c.images_land.ensures g.D.Device run flight.block flight.image c.loop.device c.write_image.new.device known is told.device.time told.moment (told.left (before.same.honesty.0 honest)) so_far.left)

pub returns-then-is_ok-clause-tries : goal.returns-then-is_ok-clause-tries
returns-then-is_ok-clause-tries g c =
    let one = c.write_image.ensures.moment in
    let so_far = c.loop.invariant.tries in
    let within = c.loop-test.true in omega (arith, one, so_far, within)

pub loop-preserved : goal.loop-preserved
loop-preserved g c =
    let device = g.D.Device in
    let before = c.loop.invariant in
    let told = c.write_image.ensures in
    let flight = c.args.flight.now in
    let next = c.write_image.new.device in
    let again : device.is_honest c.args.device.now → IsOldOrNew (device.contents c.loop.device) flight.block flight.image (device.contents next) =
    λ honest. is_ok_off c.write_image.result _ (sym c.is_ok.ensures.value ∙ c.if-is_ok.false) (told.refused (before.same.honesty.0 honest)) in
    record {
      same = same_both g.D.Device c.args.device.now c.loop.device next before.same told.device;
      cause = λ known.
          risen_again c.loop.counter (device.fault_count c.args.device.now) (device.fault_count c.loop.device) (device.fault_count next) (before.cause known)
          (is_ok_off c.write_image.result _ (sym c.is_ok.ensures.value ∙ c.if-is_ok.false) (told.cause (subst (λ n. flight.block < n) (sym before.same.count) known))) (g.met.D.Device.faults_fit next);
      refused = λ known.
          refused_again g.D.Device flight.block c.loop.counter flight.image c.args.device.now c.loop.device next (before.refused known) (record {
            same = told.device;
            fault = is_ok_off c.write_image.result _ (sym c.is_ok.ensures.value ∙ c.if-is_ok.false) (told.cause (subst (λ n. flight.block < n) (sym before.same.count) known));
            either = λ honest. is_ok_off c.write_image.result _ (sym c.is_ok.ensures.value ∙ c.if-is_ok.false) (told.refused honest);
            moment = told.moment;
            left = told.left;
          });
      either = λ honest. either_again (device.contents c.args.device.now) (device.contents c.loop.device) (device.contents next) flight.block flight.image (before.either honest) (again honest);
      tries = let one = told.moment in let so_far = before.tries in omega (arith, one, so_far);
      crash = λ honest run known is left.
          let so_far = before.crash honest run known is left in
          joined_still g.D.Device run run c.args.device.now c.loop.device next so_far
          (write_lands c.images_land.ensures g.D.Device run flight.block flight.image c.loop.device next known is told.device.time told.moment (told.left (before.same.honesty.0 honest)) so_far.left);
    }
