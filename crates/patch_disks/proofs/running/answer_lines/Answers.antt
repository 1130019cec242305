use Rattle.std.proofs.Common.{inl, inr, ◌++◌, ◌∷◌, ◌∙◌, ◌≡◌, [], ap, sym, subst, append_assoc}
use Rattle.std.proofs.lemmas.List.{append-nil, nil_from_length}
use Rattle.patch_device.specs.Device.{HasRisen}
use Rattle.patch_device.specs.SameDevice.{same_still, same_both}
use Rattle.patch_disks.specs.Running.{HasCome}
use Rattle.patch_disks.specs.Stopping.{IsBroken}
use Rattle.patch_disks.proofs.Coming.{at_first, one_more_line}
use Rattle.patch_disks.proofs.Going.{ends_at, ends_behind, lasts_both}
use Rattle.patch_disks.proofs.Stopping.{come_some, err_so, broken_write, risen_behind, no_fault}
use Rattle.patch_disks.proofs.running.answer_lines.Goals as goal

pub loop-line-init : goal.loop-line-init
loop-line-init g c = (
  tt,
  tt,
  same_still g.D.Device c.args.device.now,
  λ honest h stands.
      ([], c.into_iter-line-iterator.ensures.into_iter_gives.0, at_first g.D.Device c.args.reclaims h (g.W.Write.contents c.args.writer.now.inner) c.args.store.now c.args.device.now stands),
  λ honest lasting. lasting,
)

pub returns-in_err-text-clause-device : goal.returns-in_err-text-clause-device
returns-in_err-text-clause-device g c = same_both g.D.Device _ _ _ c.loop-line.invariant.2 c.answer.ensures.device

pub returns-in_err-write_all-clause-device : goal.returns-in_err-write_all-clause-device
returns-in_err-write_all-clause-device g c = same_both g.D.Device _ _ _ c.loop-line.invariant.2 c.answer.ensures.device

pub loop-line-preserved : goal.loop-line-preserved
loop-line-preserved g c = (
  tt,
  tt,
  same_both g.D.Device _ _ _ c.loop-line.invariant.2 c.answer.ensures.device,
  λ honest h stands.
      let before = c.loop-line.invariant.3 honest h stands in
      let now = c.in_ok-text.ensures.answered (c.loop-line.invariant.2.honesty.0 honest) _ before.2.stands in (
        before.0 ++ c.in-Some.line ∷ [],
        append_assoc before.0 (c.in-Some.line ∷ []) _ ∙ ap (λ xs. before.0 ++ xs) (sym c.in-Some.ensures.steps.0) ∙ before.1,
        one_more_line g.D.Device c.crashes_join.ensures.joined c.args.reclaims h before.0 c.in-Some.line _ _ _ _ _ _ _ _ _ _ c.as_bytes.ensures.value before.2 now
            c.in_ok-write_all.ensures.bytes,
      ),
  λ honest.
      lasts_both g.D.Device c.args.device.now c.loop-line.device c.answer.new.device (c.loop-line.invariant.4 honest)
      (c.in_ok-text.ensures.lasts (c.loop-line.invariant.2.honesty.0 honest)),
)

pub returns-clause-device : goal.returns-clause-device
returns-clause-device g c = c.loop-line.invariant.2

pub returns-clause-come : goal.returns-clause-come
returns-clause-come g c honest h stands =
    let before = c.loop-line.invariant.3 honest h stands in
    let none : c.loop-line.line-iterator.rest.items ≡ [] = nil_from_length _ (sym c.loop-line.line-iterator.rest.ok.0 ∙ c.in-None.ensures.steps.0) in
    subst
    (λ lines.
    HasCome g.D.Device c.args.reclaims h lines (g.W.Write.contents c.args.writer.now.inner) (g.W.Write.contents c.loop-line.writer.inner) c.loop-line.store c.args.device.now c.loop-line.device)
    (sym (append-nil before.0) ∙ ap (λ xs. before.0 ++ xs) (sym none) ∙ before.1) before.2

pub returns-in_err-text-clause-some : goal.returns-in_err-text-clause-some
returns-in_err-text-clause-some g c honest h stands fine =
    let before = c.loop-line.invariant.3 honest h stands in
    come_some g.D.Device c.args.reclaims h c.args.lines.items before.0 _ _ _ _ _ _ before.1 before.2

pub returns-in_err-write_all-clause-some : goal.returns-in_err-write_all-clause-some
returns-in_err-write_all-clause-some g c honest h stands fine = absurd (no_fault c.write_all.new.self.failed fine c.in_err-write_all.ensures.noted)

pub returns-clause-some : goal.returns-clause-some
returns-clause-some g c honest h stands fine =
    let before = c.loop-line.invariant.3 honest h stands in
    come_some g.D.Device c.args.reclaims h c.args.lines.items before.0 _ _ _ _ _ _ before.1 before.2

pub returns-clause-lasts : goal.returns-clause-lasts
returns-clause-lasts g c honest = c.loop-line.invariant.4 honest

pub returns-in_err-text-clause-safe : goal.returns-in_err-text-clause-safe
returns-in_err-text-clause-safe g c honest h stands =
    let before = c.loop-line.invariant.3 honest h stands in
    ends_behind g.D.Device c.crashes_join.ensures.joined h before.2.last c.args.device.now c.loop-line.device c.answer.new.device before.2.goes
    (c.answer.ensures.safe (c.loop-line.invariant.2.honesty.0 honest) before.2.last before.2.stands)

pub returns-in_err-write_all-clause-safe : goal.returns-in_err-write_all-clause-safe
returns-in_err-write_all-clause-safe g c honest h stands =
    let before = c.loop-line.invariant.3 honest h stands in
    ends_behind g.D.Device c.crashes_join.ensures.joined h before.2.last c.args.device.now c.loop-line.device c.answer.new.device before.2.goes
    (c.answer.ensures.safe (c.loop-line.invariant.2.honesty.0 honest) before.2.last before.2.stands)

pub returns-clause-safe : goal.returns-clause-safe
returns-clause-safe g c honest h stands =
    let before = c.loop-line.invariant.3 honest h stands in
    ends_at g.D.Device h before.2.last _ _ c.args.device.now c.loop-line.device before.2.stands before.2.goes

pub returns-in_err-text-clause-stops : goal.returns-in_err-text-clause-stops
returns-in_err-text-clause-stops g c honest h stands =
    let before = c.loop-line.invariant.3 honest h stands in
    let still = c.loop-line.invariant.2.honesty.0 honest in
    let faults = g.D.Device.fault_count in
    let old = c.args.device.now in
    let mid = c.loop-line.device in
    let new = c.answer.new.device in
    err_so c.from_residual.result c.in_err-text.field-0.0 (HasRisen (faults mid) (faults new))
    (IsBroken c.loop-line.writer.failed (faults old) (faults new) (g.D.Device.contents old)) c.from_residual.ensures.1
    (λ risen. inr (inl (risen_behind g.D.Device old mid new (g.met.D.Device.faults_fit new) c.loop-line.invariant.2 risen)))
    (c.in_err-text.ensures.stops still before.2.last before.2.stands)

pub returns-in_err-write_all-clause-stops : goal.returns-in_err-write_all-clause-stops
returns-in_err-write_all-clause-stops g c honest h stands =
    broken_write c.from_residual-in_err-write_all.result c.in_err-write_all.field-0.0 c.write_all.new.self.failed _ c.from_residual-in_err-write_all.ensures.1 c.in_err-write_all.ensures.failed c.in_err-write_all.ensures.noted
