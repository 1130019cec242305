use Rattle.std.proofs.Common.{◌≡◌, ◌<◌, ◌∙◌, Some, length, refl, sym, subst, arith}
use Rattle.std.specs.Prelude.{slice_get}
use Rattle.std.proofs.lemmas.Result.{IfOk-from_err}
use Rattle.patch_device.specs.SameDevice.{same_still, same_both}
use Rattle.patch_model.specs.History.{cached, history_of}
use borrow.Author.Count.{below_more}
use Rattle.patch_shared.specs.Serving.{IfReadBack}
use Rattle.patch_shared.proofs.Resting.{fault_later, lasts_on, cause_so}
use Rattle.patch_shared.proofs.reading_back.read_back.Goals as goal

pub compare_block-requires : goal.compare_block-requires
compare_block-requires g c =
    let same = c.loop-n.invariant.same.count in
    record { known = omega (arith, same) }

pub loop-n-init : goal.loop-n-init
loop-n-init g c = record {
  same = same_still g.D.Device c.args.device.now;
  moment = refl;
  contents_are = λ _. refl;
  hold = λ honest run stands count b none. absurd (omega (arith, none));
}

pub returns-in_err-compare_block-clause-device : goal.returns-in_err-compare_block-clause-device
returns-in_err-compare_block-clause-device g c =
    same_both g.D.Device c.args.device.now c.loop-n.device c.compare_block.new.device c.loop-n.invariant.same c.in_err-compare_block.ensures.device

pub returns-in_err-compare_block-clause-holds : goal.returns-in_err-compare_block-clause-holds
returns-in_err-compare_block-clause-holds g c honest run stands count = IfOk-from_err c.from_residual.result _ c.from_residual.ensures.0

pub returns-clause-device : goal.returns-clause-device
returns-clause-device g c = c.loop-n.invariant.same

pub loop-n-preserved : goal.loop-n-preserved
loop-n-preserved g c =
    let d = g.D.Device in
    let so_far = c.loop-n.invariant in
    record {
      same = same_both d c.args.device.now c.loop-n.device c.compare_block.new.device so_far.same c.in_ok-compare_block.ensures.device;
      moment = c.in_ok-compare_block.ensures.moment ∙ so_far.moment;
      contents_are = λ honest. c.in_ok-compare_block.ensures.same (so_far.same.honesty.0 honest) ∙ so_far.contents_are honest;
      hold = λ honest run stands count.
          let there : c.loop-n.n < length run.first = omega (arith, count) in
          below_more (λ b. slice_get (d.contents c.args.device.now) b ≡ Some (cached (history_of run b))) c.loop-n.n (so_far.hold honest run stands count)
          (subst (λ x. slice_get x c.loop-n.n ≡ Some (cached (history_of run c.loop-n.n))) (so_far.contents_are honest)
          (c.in_ok-compare_block.ensures.holds (so_far.same.honesty.0 honest) run stands there));
    }

pub returns-in_err-compare_block-clause-gave_up : goal.returns-in_err-compare_block-clause-gave_up
returns-in_err-compare_block-clause-gave_up g c =
    fault_later g.D.Device c.from_residual.result _ c.args.device.now c.loop-n.device c.compare_block.new.device c.from_residual.ensures.1 c.loop-n.invariant.same
    c.in_err-compare_block.ensures.gave_up

pub returns-clause-lasts : goal.returns-clause-lasts
returns-clause-lasts g c = λ honest. lasts_on g.D.Device c.args.device.now c.loop-n.device c.loop-n.invariant.same c.loop-n.invariant.moment (c.loop-n.invariant.contents_are honest)

pub returns-in_err-compare_block-clause-lasts : goal.returns-in_err-compare_block-clause-lasts
returns-in_err-compare_block-clause-lasts g c = λ honest.
    let d = g.D.Device in
    let so_far = c.loop-n.invariant in
    lasts_on d c.args.device.now c.compare_block.new.device
    (same_both d c.args.device.now c.loop-n.device c.compare_block.new.device so_far.same c.in_err-compare_block.ensures.device)
    (c.in_err-compare_block.ensures.moment ∙ so_far.moment) (c.in_err-compare_block.ensures.same (so_far.same.honesty.0 honest) ∙ so_far.contents_are honest)

pub returns-in_err-compare_block-clause-differs : goal.returns-in_err-compare_block-clause-differs
returns-in_err-compare_block-clause-differs g c honest run stands count =
    let d = g.D.Device in
    let so_far = c.loop-n.invariant in
    let told = c.in_err-compare_block.ensures in
    let here = so_far.same.honesty.0 honest in
    let there : c.loop-n.n < length run.first = omega (arith, count) in
    cause_so c.from_residual.result c.in_err-compare_block.field-0.0 (IfReadBack run (d.contents c.compare_block.new.device)) c.from_residual.ensures.1
    (subst (λ x. IfReadBack run x c.in_err-compare_block.field-0.0) (sym (told.same here)) (told.differs here run stands there))
