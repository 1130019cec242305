use Rattle.std.proofs.Common.{inl, inr, subst, sym}
use Rattle.patch_disks.specs.Running.{StandsOn}
use Rattle.patch_disks.specs.Stopping.{IsBroken}
use Rattle.patch_store.specs.Opening.{at_opening}
use Rattle.patch_disks.proofs.Calling.{opened_so}
use Rattle.patch_disks.proofs.Coming.{each_run_so}
use Rattle.patch_disks.proofs.Going.{ends_behind}
use Rattle.patch_disks.proofs.Stopping.{written_some, err_so, each_stop_for, risen_behind}
use Rattle.patch_disks.proofs.running.answer_and_save.Goals as goal

pub returns-clause-run : goal.returns-clause-run
returns-clause-run g c honest contents is opened =
    let h = at_opening contents opened.ledger in
    let stands = subst (StandsOn _ h) is (opened_so _ _ opened) in
    let come = c.in_ok-answer_lines.ensures.come honest h stands in
    let still = c.answer_lines.ensures.device.honesty.0 honest in
    each_run_so g.D.Device c.crashes_join.ensures.joined c.args.reclaims c.save.result c.args.lines.items _ _ contents _ _ _ opened c.args.device.now c.answer_lines.new.device c.save.new.device come
    (c.in_ok-answer_lines.ensures.lasts honest) (c.save.ensures.lasts still) (c.save.ensures.saved still come.last come.stands)

pub returns-in_err-answer_lines-clause-safe : goal.returns-in_err-answer_lines-clause-safe
returns-in_err-answer_lines-clause-safe g c honest contents is opened =
    let h = at_opening contents opened.ledger in
    c.answer_lines.ensures.safe honest h (subst (StandsOn _ h) is (opened_so _ _ opened))

pub returns-clause-safe : goal.returns-clause-safe
returns-clause-safe g c honest contents is opened =
    let h = at_opening contents opened.ledger in
    let stands = subst (StandsOn _ h) is (opened_so _ _ opened) in
    let come = c.in_ok-answer_lines.ensures.come honest h stands in
    let still = c.answer_lines.ensures.device.honesty.0 honest in
    ends_behind g.D.Device c.crashes_join.ensures.joined h come.last c.args.device.now c.answer_lines.new.device c.save.new.device come.goes
    (c.save.ensures.safe still come.last come.stands)

pub returns-in_err-answer_lines-clause-some : goal.returns-in_err-answer_lines-clause-some
returns-in_err-answer_lines-clause-some g c honest contents is opened fine =
    let h = at_opening contents opened.ledger in
    written_some c.args.reclaims c.args.lines.items _ _ contents _ opened (c.answer_lines.ensures.some honest h (subst (StandsOn _ h) is (opened_so _ _ opened)) fine)

pub returns-clause-some : goal.returns-clause-some
returns-clause-some g c honest contents is opened fine =
    let h = at_opening contents opened.ledger in
    written_some c.args.reclaims c.args.lines.items _ _ contents _ opened (c.answer_lines.ensures.some honest h (subst (StandsOn _ h) is (opened_so _ _ opened)) fine)

pub returns-in_err-answer_lines-clause-stops : goal.returns-in_err-answer_lines-clause-stops
returns-in_err-answer_lines-clause-stops g c honest contents is opened =
    let h = at_opening contents opened.ledger in
    let stands = subst (StandsOn _ h) is (opened_so _ _ opened) in
    err_so c.from_residual.result c.in_err-answer_lines.field-0.0 _ _ c.from_residual.ensures.1
    (λ broken. subst (IsBroken _ _ _) (sym is) broken) (c.in_err-answer_lines.ensures.stops honest h stands)

pub returns-clause-stops : goal.returns-clause-stops
returns-clause-stops g c honest contents is opened =
    let h = at_opening contents opened.ledger in
    let stands = subst (StandsOn _ h) is (opened_so _ _ opened) in
    let come = c.in_ok-answer_lines.ensures.come honest h stands in
    each_stop_for c.save.result _ _ (λ risen. inr (inl (risen_behind g.D.Device _ _ _ (g.met.D.Device.faults_fit c.save.new.device) c.answer_lines.ensures.device risen)))
    (c.save.ensures.stops (c.answer_lines.ensures.device.honesty.0 honest) come.last come.stands)
