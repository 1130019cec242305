use Rattle.std.proofs.Common.{refl, ◌≡◌, ◌∷◌, false, [], sym, subst, ◌∙◌, arith}
use Rattle.patch_model.specs.State.{entries_of}
use Rattle.patch_model.specs.Execution.{followed_by}
use Rattle.patch_model.specs.Step.{Send}
use Rattle.patch_cache.specs.Contents.{Contents}
use Rattle.patch_cache.specs.Running.{Runs, RunsBeside}
use Rattle.patch_cache.specs.Waves.{steps_since, IsFlushed, RisesIfGivenUp, IsHeldIfGivenUp}
use Rattle.patch_cache.proofs.Waving.{none_added, no_sends, since_is, continues, runs_same, gone_still, kept_unmoved, went_by, went_both, keeps_by, keeps_both, tries_begun, continues_both, tries_none}
use Rattle.patch_cache.proofs.Passing.{sent_still, one_written, begun_by, begun_few, begun_sends, begun_gone, begun_kept, flushed, flushed_still, none_begun, unsent_still}
use Rattle.patch_cache.proofs.Tries.{each_still, each_begun, begun_since, begun_one, kept_more, lost_still, lost_both}
use Rattle.std.proofs.lemmas.Result.{IfOk-from_err}
use Rattle.patch_device.specs.SameDevice.{same_still}
use Rattle.patch_cache.specs.Refused.{IfGivenUp}
use Rattle.patch_cache.proofs.GivenUp.{rises_on, held_on, given_on, no_device_gave_up}
use Rattle.patch_cache.proofs.caches.Cache.write_next.Goals as goal

-- no write can begin
pub returns-in_default-clause-disk : goal.returns-in_default-clause-disk
returns-in_default-clause-disk g c honest run runs =
    let old = c.args.self.now in
    let now = c.next_ready.new.self in keeps_by g.D.Device run old now [] _ _ (none_added old now c.next_ready.ensures.same) (kept_unmoved g.D.Device run c.args.device.now)

pub returns-in_default-clause-wrote : goal.returns-in_default-clause-wrote
returns-in_default-clause-wrote g c run runs empty =
    let old = c.args.self.now in
    let now = c.next_ready.new.self in
    let none = since_is old now [] (none_added old now c.next_ready.ensures.same) in
    let still = subst (λ (x : Contents). Runs x c.args.flights.now run) (sym c.next_ready.ensures.same) runs in (
      none,
      subst (λ s. IsFlushed (followed_by run s)) (sym none)
          (flushed_still run (flushed c.some_is_ready.ensures c.patches_are_placed.ensures.flying c.pairs_merge.ensures.sent run now c.args.flights.now still empty (c.in_default.ensures.answer run runs.cache_is))),
    )

-- it was given up
pub returns-in_err-send_if_ready-clause-ran : goal.returns-in_err-send_if_ready-clause-ran
returns-in_err-send_if_ready-clause-ran g c run runs =
    let old = c.args.self.now in
    let now = c.send_if_ready.new.self in
    let same : now ≡ old = c.in_err-send_if_ready.ensures.refused ∙ c.next_ready.ensures.same in
    went_by run old now [] _ (none_added old now same) (gone_still run now _ (runs_same run old now c.args.flights.now c.send_if_ready.new.flights same c.in_err-send_if_ready.ensures.held runs))

pub returns-in_err-send_if_ready-clause-disk : goal.returns-in_err-send_if_ready-clause-disk
returns-in_err-send_if_ready-clause-disk g c honest run runs =
    let old = c.args.self.now in
    let now = c.send_if_ready.new.self in
    keeps_by g.D.Device run old now [] _ _ (none_added old now (c.in_err-send_if_ready.ensures.refused ∙ c.next_ready.ensures.same)) (kept_unmoved g.D.Device run c.args.device.now)

-- it was begun, and the flights written out
pub returns-in_err-land-clause-ran : goal.returns-in_err-land-clause-ran
returns-in_err-land-clause-ran g c run runs =
    let old = c.args.self.now in
    let still = c.next_ready.new.self in
    let mid = c.send_if_ready.new.self in
    let block = c.in-Some.block in
    let sent = c.in_ok-send_if_ready in
    let one = begun_gone c.steps_extend.ensures.state c.executions_are_orderly.ensures.patches (λ run block. c.ready_is_largest.ensures.largest (entries_of run) block (c.ready_is_largest.ensures.made run)) c.pairs_merge.ensures.sent run block old still mid sent.field-0
    c.args.flights.now c.send_if_ready.new.flights c.next_ready.ensures.same c.if-not-branch.false sent.ensures.trace (sent.ensures.sent false run) runs in
    went_both run old mid c.land.new.self _ _ (continues old mid (Send block ∷ []) (begun_by old still mid block sent.field-0 c.next_ready.ensures.same c.if-not-branch.false sent.ensures.trace))
    c.land.ensures.trace one (c.land.ensures.ran false _ one.runs)

pub returns-in_err-land-clause-disk : goal.returns-in_err-land-clause-disk
returns-in_err-land-clause-disk g c honest =
    let device = g.D.Device in
    let at = c.args.device.now in
    let old = c.args.self.now in
    let still = c.next_ready.new.self in
    let mid = c.send_if_ready.new.self in
    let block = c.in-Some.block in
    let sent = c.in_ok-send_if_ready in
    keeps_both device old mid c.land.new.self c.args.flights.now c.send_if_ready.new.flights at at c.land.new.device
    (continues old mid (Send block ∷ []) (begun_by old still mid block sent.field-0 c.next_ready.ensures.same c.if-not-branch.false sent.ensures.trace)) c.land.ensures.trace
    (λ run runs.
    begun_gone c.steps_extend.ensures.state c.executions_are_orderly.ensures.patches (λ run block. c.ready_is_largest.ensures.largest (entries_of run) block (c.ready_is_largest.ensures.made run)) c.pairs_merge.ensures.sent run block old still mid sent.field-0
    c.args.flights.now c.send_if_ready.new.flights c.next_ready.ensures.same c.if-not-branch.false sent.ensures.trace (sent.ensures.sent false run) runs)
    (λ run runs.
    begun_kept c.steps_extend.ensures.state c.images_stay.ensures c.disks_stay.ensures device run block old still mid sent.field-0
    c.args.flights.now c.send_if_ready.new.flights at c.next_ready.ensures.same c.if-not-branch.false sent.ensures.trace (sent.ensures.sent false run) runs)
    (c.land.ensures.disk honest false)

-- all of them
pub returns-clause-ran : goal.returns-clause-ran
returns-clause-ran g c run runs =
    let old = c.args.self.now in
    let still = c.next_ready.new.self in
    let mid = c.send_if_ready.new.self in
    let block = c.in-Some.block in
    let sent = c.in_ok-send_if_ready in
    let one = begun_gone c.steps_extend.ensures.state c.executions_are_orderly.ensures.patches (λ run block. c.ready_is_largest.ensures.largest (entries_of run) block (c.ready_is_largest.ensures.made run)) c.pairs_merge.ensures.sent run block old still mid sent.field-0
    c.args.flights.now c.send_if_ready.new.flights c.next_ready.ensures.same c.if-not-branch.false sent.ensures.trace (sent.ensures.sent false run) runs in
    went_both run old mid c.land.new.self _ _ (continues old mid (Send block ∷ []) (begun_by old still mid block sent.field-0 c.next_ready.ensures.same c.if-not-branch.false sent.ensures.trace))
    c.land.ensures.trace one (c.land.ensures.ran false _ one.runs)

pub returns-clause-disk : goal.returns-clause-disk
returns-clause-disk g c honest =
    let device = g.D.Device in
    let at = c.args.device.now in
    let old = c.args.self.now in
    let still = c.next_ready.new.self in
    let mid = c.send_if_ready.new.self in
    let block = c.in-Some.block in
    let sent = c.in_ok-send_if_ready in
    keeps_both device old mid c.land.new.self c.args.flights.now c.send_if_ready.new.flights at at c.land.new.device
    (continues old mid (Send block ∷ []) (begun_by old still mid block sent.field-0 c.next_ready.ensures.same c.if-not-branch.false sent.ensures.trace)) c.land.ensures.trace
    (λ run runs.
    begun_gone c.steps_extend.ensures.state c.executions_are_orderly.ensures.patches (λ run block. c.ready_is_largest.ensures.largest (entries_of run) block (c.ready_is_largest.ensures.made run)) c.pairs_merge.ensures.sent run block old still mid sent.field-0
    c.args.flights.now c.send_if_ready.new.flights c.next_ready.ensures.same c.if-not-branch.false sent.ensures.trace (sent.ensures.sent false run) runs)
    (λ run runs.
    begun_kept c.steps_extend.ensures.state c.images_stay.ensures c.disks_stay.ensures device run block old still mid sent.field-0
    c.args.flights.now c.send_if_ready.new.flights at c.next_ready.ensures.same c.if-not-branch.false sent.ensures.trace (sent.ensures.sent false run) runs)
    (c.land.ensures.disk honest false)

pub returns-clause-wrote : goal.returns-clause-wrote
returns-clause-wrote g c run runs empty =
    let old = c.args.self.now in
    let still = c.next_ready.new.self in
    let mid = c.send_if_ready.new.self in
    let block = c.in-Some.block in
    let sent = c.in_ok-send_if_ready in
    let begun = sent_still run block old still mid sent.field-0 c.args.flights.now c.send_if_ready.new.flights c.next_ready.ensures.same c.if-not-branch.false (sent.ensures.sent false run) runs in
    let more = sent.ensures.more false run (subst (λ (x : Contents). Runs x c.args.flights.now run) (sym c.next_ready.ensures.same) runs) in (
      block,
      c.in-Some.ensures.answer run runs.cache_is,
      one_written block sent.field-0 old still mid c.land.new.self c.args.flights.now c.send_if_ready.new.flights c.next_ready.ensures.same c.if-not-branch.false sent.ensures.trace empty more
          c.land.ensures.trace (c.in_ok-land.ensures.one _ begun.1),
    )

-- how often
pub returns-in_default-clause-one : goal.returns-in_default-clause-one
returns-in_default-clause-one g c =
    let none = no_sends c.args.self.now c.next_ready.new.self [] (none_added c.args.self.now c.next_ready.new.self c.next_ready.ensures.same) refl in omega (arith, none)

pub returns-in_default-clause-tries : goal.returns-in_default-clause-tries
returns-in_default-clause-tries g c = tries_none _ _

pub returns-in_err-send_if_ready-clause-one : goal.returns-in_err-send_if_ready-clause-one
returns-in_err-send_if_ready-clause-one g c =
    let none = no_sends c.args.self.now c.send_if_ready.new.self [] (none_added c.args.self.now c.send_if_ready.new.self (c.in_err-send_if_ready.ensures.refused ∙ c.next_ready.ensures.same)) refl in omega (arith, none)

pub returns-in_err-send_if_ready-clause-tries : goal.returns-in_err-send_if_ready-clause-tries
returns-in_err-send_if_ready-clause-tries g c = tries_none _ _

pub returns-then-not-branch-clause-one : goal.returns-then-not-branch-clause-one
returns-then-not-branch-clause-one g c =
    let mid = c.send_if_ready.new.self in
    let sent = c.in_ok-send_if_ready in
    let few = begun_few c.in-Some.block sent.field-0 in
    let still = none_added mid mid refl in
    let all = begun_sends c.args.self.now c.next_ready.new.self mid mid c.in-Some.block sent.field-0 c.next_ready.ensures.same sent.ensures.trace (continues mid mid [] still) in
    let none = no_sends mid mid [] still refl in omega (arith, few, all, none)

pub returns-in_err-land-clause-one : goal.returns-in_err-land-clause-one
returns-in_err-land-clause-one g c =
    let sent = c.in_ok-send_if_ready in
    let few = begun_few c.in-Some.block sent.field-0 in
    let all = begun_sends c.args.self.now c.next_ready.new.self c.send_if_ready.new.self c.land.new.self c.in-Some.block sent.field-0 c.next_ready.ensures.same sent.ensures.trace c.land.ensures.trace in
    let none = c.land.ensures.ends in omega (arith, few, all, none)

pub returns-in_err-land-clause-tries : goal.returns-in_err-land-clause-tries
returns-in_err-land-clause-tries g c =
    let sent = c.in_ok-send_if_ready in
    tries_begun _ _ _ _ _ _ _ c.land.ensures.tries sent.ensures.count
    (begun_sends c.args.self.now c.next_ready.new.self c.send_if_ready.new.self c.land.new.self c.in-Some.block sent.field-0 c.next_ready.ensures.same sent.ensures.trace c.land.ensures.trace)

pub returns-clause-one : goal.returns-clause-one
returns-clause-one g c =
    let sent = c.in_ok-send_if_ready in
    let few = begun_few c.in-Some.block sent.field-0 in
    let all = begun_sends c.args.self.now c.next_ready.new.self c.send_if_ready.new.self c.land.new.self c.in-Some.block sent.field-0 c.next_ready.ensures.same sent.ensures.trace c.land.ensures.trace in
    let none = c.land.ensures.ends in omega (arith, few, all, none)

pub returns-clause-tries : goal.returns-clause-tries
returns-clause-tries g c =
    let sent = c.in_ok-send_if_ready in
    tries_begun _ _ _ _ _ _ _ c.land.ensures.tries sent.ensures.count
    (begun_sends c.args.self.now c.next_ready.new.self c.send_if_ready.new.self c.land.new.self c.in-Some.block sent.field-0 c.next_ready.ensures.same sent.ensures.trace c.land.ensures.trace)

-- what is told where no write can begin
pub returns-in_default-clause-ran : goal.returns-in_default-clause-ran
returns-in_default-clause-ran g c run runs =
    let old = c.args.self.now in
    let now = c.next_ready.new.self in
    went_by run old now [] _ (none_added old now c.next_ready.ensures.same) (gone_still run now _ (subst (λ (x : Contents). Runs x c.args.flights.now run) (sym c.next_ready.ensures.same) runs))

pub returns-in_default-clause-trace : goal.returns-in_default-clause-trace
returns-in_default-clause-trace g c = continues c.args.self.now c.next_ready.new.self [] (none_added c.args.self.now c.next_ready.new.self c.next_ready.ensures.same)

pub returns-in_default-clause-device : goal.returns-in_default-clause-device
returns-in_default-clause-device g c = same_still g.D.Device c.args.device.now

pub returns-in_default-clause-gave_up : goal.returns-in_default-clause-gave_up
returns-in_default-clause-gave_up g c = λ run on. tt

pub returns-in_default-clause-refused : goal.returns-in_default-clause-refused
returns-in_default-clause-refused g c = λ run on. tt

pub returns-in_default-clause-held : goal.returns-in_default-clause-held
returns-in_default-clause-held g c = tt

pub returns-in_default-clause-landed : goal.returns-in_default-clause-landed
returns-in_default-clause-landed g c = λ empty. empty

-- what is told where it was given up
pub returns-in_err-send_if_ready-clause-trace : goal.returns-in_err-send_if_ready-clause-trace
returns-in_err-send_if_ready-clause-trace g c = continues c.args.self.now c.send_if_ready.new.self [] (none_added c.args.self.now c.send_if_ready.new.self (c.in_err-send_if_ready.ensures.refused ∙ c.next_ready.ensures.same))

pub returns-in_err-send_if_ready-clause-device : goal.returns-in_err-send_if_ready-clause-device
returns-in_err-send_if_ready-clause-device g c = same_still g.D.Device c.args.device.now

pub returns-in_err-send_if_ready-clause-wrote : goal.returns-in_err-send_if_ready-clause-wrote
returns-in_err-send_if_ready-clause-wrote g c = λ run runs empty. IfOk-from_err c.from_residual.result _ c.from_residual.ensures.0

pub returns-in_err-send_if_ready-clause-landed : goal.returns-in_err-send_if_ready-clause-landed
returns-in_err-send_if_ready-clause-landed g c = IfOk-from_err c.from_residual.result _ c.from_residual.ensures.0

pub returns-in_err-send_if_ready-clause-gave_up : goal.returns-in_err-send_if_ready-clause-gave_up
returns-in_err-send_if_ready-clause-gave_up g c run on =
    let faults = g.D.Device.fault_count c.args.device.now in no_device_gave_up c.from_residual.result (λ r. RisesIfGivenUp r faults faults) c.from_residual.ensures.1 tt

pub returns-in_err-send_if_ready-clause-refused : goal.returns-in_err-send_if_ready-clause-refused
returns-in_err-send_if_ready-clause-refused g c run on =
    let device = c.args.device.now in no_device_gave_up c.from_residual.result (λ r. IfGivenUp g.D.Device r c.send_if_ready.new.flights device device) c.from_residual.ensures.1 tt

pub returns-in_err-send_if_ready-clause-held : goal.returns-in_err-send_if_ready-clause-held
returns-in_err-send_if_ready-clause-held g c = no_device_gave_up c.from_residual.result (λ r. IsHeldIfGivenUp r c.send_if_ready.new.flights) c.from_residual.ensures.1 tt

-- what is told where none was begun
pub returns-then-not-branch-clause-ran : goal.returns-then-not-branch-clause-ran
returns-then-not-branch-clause-ran g c run runs =
    let old = c.args.self.now in
    let now = c.send_if_ready.new.self in
    let unsent = unsent_still run c.in-Some.block old c.next_ready.new.self now c.in_ok-send_if_ready.field-0 c.args.flights.now c.send_if_ready.new.flights c.next_ready.ensures.same c.if-not-branch.true (c.in_ok-send_if_ready.ensures.sent false run) runs in
    went_by run old now [] _ (none_begun old c.next_ready.new.self now c.in-Some.block c.in_ok-send_if_ready.field-0 c.next_ready.ensures.same c.if-not-branch.true c.in_ok-send_if_ready.ensures.trace) (gone_still run now _ unsent.1)

pub returns-then-not-branch-clause-trace : goal.returns-then-not-branch-clause-trace
returns-then-not-branch-clause-trace g c = continues c.args.self.now c.send_if_ready.new.self [] (none_begun c.args.self.now c.next_ready.new.self c.send_if_ready.new.self c.in-Some.block c.in_ok-send_if_ready.field-0 c.next_ready.ensures.same c.if-not-branch.true c.in_ok-send_if_ready.ensures.trace)

pub returns-then-not-branch-clause-disk : goal.returns-then-not-branch-clause-disk
returns-then-not-branch-clause-disk g c honest run runs =
    let old = c.args.self.now in
    let now = c.send_if_ready.new.self in keeps_by g.D.Device run old now [] _ _ (none_begun old c.next_ready.new.self now c.in-Some.block c.in_ok-send_if_ready.field-0 c.next_ready.ensures.same c.if-not-branch.true c.in_ok-send_if_ready.ensures.trace) (kept_unmoved g.D.Device run c.args.device.now)

pub returns-then-not-branch-clause-wrote : goal.returns-then-not-branch-clause-wrote
returns-then-not-branch-clause-wrote g c run runs empty =
    let unsent = unsent_still run c.in-Some.block c.args.self.now c.next_ready.new.self c.send_if_ready.new.self c.in_ok-send_if_ready.field-0 c.args.flights.now c.send_if_ready.new.flights c.next_ready.ensures.same c.if-not-branch.true (c.in_ok-send_if_ready.ensures.sent false run) runs in
    absurd (unsent.0 (c.in-Some.ensures.answer run runs.cache_is).0)

pub returns-then-not-branch-clause-tries : goal.returns-then-not-branch-clause-tries
returns-then-not-branch-clause-tries g c = tries_none _ _

pub returns-then-not-branch-clause-device : goal.returns-then-not-branch-clause-device
returns-then-not-branch-clause-device g c = same_still g.D.Device c.args.device.now

pub returns-then-not-branch-clause-gave_up : goal.returns-then-not-branch-clause-gave_up
returns-then-not-branch-clause-gave_up g c = λ run on. tt

pub returns-then-not-branch-clause-refused : goal.returns-then-not-branch-clause-refused
returns-then-not-branch-clause-refused g c = λ run on. tt

pub returns-then-not-branch-clause-held : goal.returns-then-not-branch-clause-held
returns-then-not-branch-clause-held g c = tt

pub returns-then-not-branch-clause-landed : goal.returns-then-not-branch-clause-landed
returns-then-not-branch-clause-landed g c = λ empty. c.in_ok-send_if_ready.ensures.kept c.if-not-branch.true ∙ empty

-- what is told where a flight was given up, and where all were written out
pub returns-in_err-land-clause-trace : goal.returns-in_err-land-clause-trace
returns-in_err-land-clause-trace g c =
    let old = c.args.self.now in
    let mid = c.send_if_ready.new.self in
    let begun = begun_by old c.next_ready.new.self mid c.in-Some.block c.in_ok-send_if_ready.field-0 c.next_ready.ensures.same c.if-not-branch.false c.in_ok-send_if_ready.ensures.trace in
    continues_both old mid c.land.new.self (continues old mid (Send c.in-Some.block ∷ []) begun) c.land.ensures.trace

pub returns-in_err-land-clause-device : goal.returns-in_err-land-clause-device
returns-in_err-land-clause-device g c = c.land.ensures.device

pub returns-clause-trace : goal.returns-clause-trace
returns-clause-trace g c =
    let old = c.args.self.now in
    let mid = c.send_if_ready.new.self in
    let begun = begun_by old c.next_ready.new.self mid c.in-Some.block c.in_ok-send_if_ready.field-0 c.next_ready.ensures.same c.if-not-branch.false c.in_ok-send_if_ready.ensures.trace in
    continues_both old mid c.land.new.self (continues old mid (Send c.in-Some.block ∷ []) begun) c.land.ensures.trace

pub returns-clause-device : goal.returns-clause-device
returns-clause-device g c = c.land.ensures.device

pub returns-in_err-land-clause-wrote : goal.returns-in_err-land-clause-wrote
returns-in_err-land-clause-wrote g c = λ run runs empty. IfOk-from_err c.from_residual-in_err-land.result _ c.from_residual-in_err-land.ensures.0

pub returns-in_err-land-clause-landed : goal.returns-in_err-land-clause-landed
returns-in_err-land-clause-landed g c = IfOk-from_err c.from_residual-in_err-land.result _ c.from_residual-in_err-land.ensures.0

pub returns-in_err-land-clause-gave_up : goal.returns-in_err-land-clause-gave_up
returns-in_err-land-clause-gave_up g c run on =
    let sent = sent_still run c.in-Some.block c.args.self.now c.next_ready.new.self c.send_if_ready.new.self c.in_ok-send_if_ready.field-0 c.args.flights.now c.send_if_ready.new.flights c.next_ready.ensures.same c.if-not-branch.false (c.in_ok-send_if_ready.ensures.sent false run) on.runs in
    rises_on (Unit {0}) c.from_residual-in_err-land.result c.in_err-land.field-0.0 _ _ c.from_residual-in_err-land.ensures.1 (c.in_err-land.ensures.gave_up false _ (record { runs = sent.1; blocks = on.blocks }))

pub returns-in_err-land-clause-refused : goal.returns-in_err-land-clause-refused
returns-in_err-land-clause-refused g c run on =
    let sent = sent_still run c.in-Some.block c.args.self.now c.next_ready.new.self c.send_if_ready.new.self c.in_ok-send_if_ready.field-0 c.args.flights.now c.send_if_ready.new.flights c.next_ready.ensures.same c.if-not-branch.false (c.in_ok-send_if_ready.ensures.sent false run) on.runs in
    given_on (Unit {0}) g.D.Device c.from_residual-in_err-land.result c.in_err-land.field-0.0 _ _ _ c.from_residual-in_err-land.ensures.1 (c.in_err-land.ensures.refused false _ (record { runs = sent.1; blocks = on.blocks }))

pub returns-in_err-land-clause-held : goal.returns-in_err-land-clause-held
returns-in_err-land-clause-held g c = held_on (Unit {0}) c.from_residual-in_err-land.result c.in_err-land.field-0.0 c.land.new.flights c.from_residual-in_err-land.ensures.1 c.in_err-land.ensures.held

pub returns-in_err-land-clause-lasts : goal.returns-in_err-land-clause-lasts
returns-in_err-land-clause-lasts g c honest = IfOk-from_err c.from_residual-in_err-land.result _ c.from_residual-in_err-land.ensures.0

pub returns-in_err-send_if_ready-clause-lasts : goal.returns-in_err-send_if_ready-clause-lasts
returns-in_err-send_if_ready-clause-lasts g c honest = IfOk-from_err c.from_residual.result _ c.from_residual.ensures.0

pub returns-in_default-clause-lasts : goal.returns-in_default-clause-lasts
returns-in_default-clause-lasts g c = λ honest lasts. lasts

pub returns-then-not-branch-clause-lasts : goal.returns-then-not-branch-clause-lasts
returns-then-not-branch-clause-lasts g c = λ honest lasts. lasts

pub returns-clause-lasts : goal.returns-clause-lasts
returns-clause-lasts g c honest = c.in_ok-land.ensures.lasts honest

pub returns-clause-gave_up : goal.returns-clause-gave_up
returns-clause-gave_up g c = λ run on. tt

pub returns-clause-refused : goal.returns-clause-refused
returns-clause-refused g c = λ run on. tt

pub returns-clause-held : goal.returns-clause-held
returns-clause-held g c = tt

pub returns-clause-landed : goal.returns-clause-landed
returns-clause-landed g c = λ empty. c.in_ok-land.ensures.landed

-- which write was begun, and what became of each flight

pub returns-in_default-clause-pass : goal.returns-in_default-clause-pass
returns-in_default-clause-pass g c others run runs =
    let old = c.args.self.now in
    let now = c.next_ready.new.self in (since_is old now [] (none_added old now c.next_ready.ensures.same), c.in_default.ensures.answer run runs.cache_is)

pub returns-in_default-clause-none_lost : goal.returns-in_default-clause-none_lost
returns-in_default-clause-none_lost g c others run runs =
    let old = c.args.self.now in
    let now = c.next_ready.new.self in lost_still old now c.args.flights.now c.args.flights.now (none_added old now c.next_ready.ensures.same) refl

pub returns-in_default-clause-each : goal.returns-in_default-clause-each
returns-in_default-clause-each g c others run runs =
    let old = c.args.self.now in
    let now = c.next_ready.new.self in
    each_still g.D.Device old now c.args.flights.now.held.items c.args.device.now (none_added old now c.next_ready.ensures.same)

pub returns-in_err-send_if_ready-clause-pass : goal.returns-in_err-send_if_ready-clause-pass
returns-in_err-send_if_ready-clause-pass g c = λ others run runs. IfOk-from_err c.from_residual.result _ c.from_residual.ensures.0

pub returns-in_err-send_if_ready-clause-none_lost : goal.returns-in_err-send_if_ready-clause-none_lost
returns-in_err-send_if_ready-clause-none_lost g c others run runs =
    let old = c.args.self.now in
    let now = c.send_if_ready.new.self in
    lost_still old now c.args.flights.now c.send_if_ready.new.flights (none_added old now (c.in_err-send_if_ready.ensures.refused ∙ c.next_ready.ensures.same)) c.in_err-send_if_ready.ensures.held

pub returns-in_err-send_if_ready-clause-each : goal.returns-in_err-send_if_ready-clause-each
returns-in_err-send_if_ready-clause-each g c others run runs =
    let old = c.args.self.now in
    let now = c.send_if_ready.new.self in
    each_still g.D.Device old now c.args.flights.now.held.items c.args.device.now (none_added old now (c.in_err-send_if_ready.ensures.refused ∙ c.next_ready.ensures.same))

pub returns-then-not-branch-clause-pass : goal.returns-then-not-branch-clause-pass
returns-then-not-branch-clause-pass g c others run runs =
    let unsent = unsent_still run c.in-Some.block c.args.self.now c.next_ready.new.self c.send_if_ready.new.self c.in_ok-send_if_ready.field-0 c.args.flights.now c.send_if_ready.new.flights c.next_ready.ensures.same c.if-not-branch.true (c.in_ok-send_if_ready.ensures.sent others run) runs in
    absurd (unsent.0 (c.in-Some.ensures.answer run runs.cache_is).0)

pub returns-then-not-branch-clause-none_lost : goal.returns-then-not-branch-clause-none_lost
returns-then-not-branch-clause-none_lost g c others run runs =
    let unsent = unsent_still run c.in-Some.block c.args.self.now c.next_ready.new.self c.send_if_ready.new.self c.in_ok-send_if_ready.field-0 c.args.flights.now c.send_if_ready.new.flights c.next_ready.ensures.same c.if-not-branch.true (c.in_ok-send_if_ready.ensures.sent others run) runs in
    absurd (unsent.0 (c.in-Some.ensures.answer run runs.cache_is).0)

pub returns-then-not-branch-clause-each : goal.returns-then-not-branch-clause-each
returns-then-not-branch-clause-each g c others run runs =
    let unsent = unsent_still run c.in-Some.block c.args.self.now c.next_ready.new.self c.send_if_ready.new.self c.in_ok-send_if_ready.field-0 c.args.flights.now c.send_if_ready.new.flights c.next_ready.ensures.same c.if-not-branch.true (c.in_ok-send_if_ready.ensures.sent others run) runs in
    absurd (unsent.0 (c.in-Some.ensures.answer run runs.cache_is).0)

pub returns-in_err-land-clause-pass : goal.returns-in_err-land-clause-pass
returns-in_err-land-clause-pass g c = λ others run runs. IfOk-from_err c.from_residual-in_err-land.result _ c.from_residual-in_err-land.ensures.0

pub returns-clause-pass : goal.returns-clause-pass
returns-clause-pass g c others run runs =
    let sent = c.in_ok-send_if_ready in
    let one = begun_one c.in-Some.block sent.field-0 c.if-not-branch.false in
    let all = begun_sends c.args.self.now c.next_ready.new.self c.send_if_ready.new.self c.land.new.self c.in-Some.block sent.field-0 c.next_ready.ensures.same sent.ensures.trace c.land.ensures.trace in omega (arith, one, all)

pub returns-in_err-land-clause-none_lost : goal.returns-in_err-land-clause-none_lost
returns-in_err-land-clause-none_lost g c others run runs =
    let old = c.args.self.now in
    let still = c.next_ready.new.self in
    let mid = c.send_if_ready.new.self in
    let block = c.in-Some.block in
    let sent = c.in_ok-send_if_ready in
    let begun = sent_still run block old still mid sent.field-0 c.args.flights.now c.send_if_ready.new.flights c.next_ready.ensures.same c.if-not-branch.false (sent.ensures.sent others run) runs in
    let more = sent.ensures.more others run (subst (λ (x : Contents). RunsBeside others x c.args.flights.now run) (sym c.next_ready.ensures.same) runs) in
    lost_both old mid c.land.new.self c.args.flights.now c.send_if_ready.new.flights c.land.new.flights
    (continues old mid (Send block ∷ []) (begun_by old still mid block sent.field-0 c.next_ready.ensures.same c.if-not-branch.false sent.ensures.trace)) c.land.ensures.trace
    (kept_more (steps_since old mid) c.args.flights.now c.send_if_ready.new.flights (begun_since block sent.field-0 old still mid c.args.flights.now c.send_if_ready.new.flights c.next_ready.ensures.same sent.ensures.trace more))
    (c.land.ensures.none_lost others _ begun.1)

pub returns-in_err-land-clause-each : goal.returns-in_err-land-clause-each
returns-in_err-land-clause-each g c others run runs =
    let old = c.args.self.now in
    let still = c.next_ready.new.self in
    let mid = c.send_if_ready.new.self in
    let block = c.in-Some.block in
    let sent = c.in_ok-send_if_ready in
    let more = sent.ensures.more others run (subst (λ (x : Contents). RunsBeside others x c.args.flights.now run) (sym c.next_ready.ensures.same) runs) in
    each_begun g.D.Device old mid c.land.new.self c.args.flights.now c.send_if_ready.new.flights c.args.device.now c.land.new.device
    (continues old mid (Send block ∷ []) (begun_by old still mid block sent.field-0 c.next_ready.ensures.same c.if-not-branch.false sent.ensures.trace)) c.land.ensures.trace
    (begun_since block sent.field-0 old still mid c.args.flights.now c.send_if_ready.new.flights c.next_ready.ensures.same sent.ensures.trace more) c.land.ensures.ends c.land.ensures.wave

pub returns-clause-none_lost : goal.returns-clause-none_lost
returns-clause-none_lost g c others run runs =
    let old = c.args.self.now in
    let still = c.next_ready.new.self in
    let mid = c.send_if_ready.new.self in
    let block = c.in-Some.block in
    let sent = c.in_ok-send_if_ready in
    let begun = sent_still run block old still mid sent.field-0 c.args.flights.now c.send_if_ready.new.flights c.next_ready.ensures.same c.if-not-branch.false (sent.ensures.sent others run) runs in
    let more = sent.ensures.more others run (subst (λ (x : Contents). RunsBeside others x c.args.flights.now run) (sym c.next_ready.ensures.same) runs) in
    lost_both old mid c.land.new.self c.args.flights.now c.send_if_ready.new.flights c.land.new.flights
    (continues old mid (Send block ∷ []) (begun_by old still mid block sent.field-0 c.next_ready.ensures.same c.if-not-branch.false sent.ensures.trace)) c.land.ensures.trace
    (kept_more (steps_since old mid) c.args.flights.now c.send_if_ready.new.flights (begun_since block sent.field-0 old still mid c.args.flights.now c.send_if_ready.new.flights c.next_ready.ensures.same sent.ensures.trace more))
    (c.land.ensures.none_lost others _ begun.1)

pub returns-clause-each : goal.returns-clause-each
returns-clause-each g c others run runs =
    let old = c.args.self.now in
    let still = c.next_ready.new.self in
    let mid = c.send_if_ready.new.self in
    let block = c.in-Some.block in
    let sent = c.in_ok-send_if_ready in
    let more = sent.ensures.more others run (subst (λ (x : Contents). RunsBeside others x c.args.flights.now run) (sym c.next_ready.ensures.same) runs) in
    each_begun g.D.Device old mid c.land.new.self c.args.flights.now c.send_if_ready.new.flights c.args.device.now c.land.new.device
    (continues old mid (Send block ∷ []) (begun_by old still mid block sent.field-0 c.next_ready.ensures.same c.if-not-branch.false sent.ensures.trace)) c.land.ensures.trace
    (begun_since block sent.field-0 old still mid c.args.flights.now c.send_if_ready.new.flights c.next_ready.ensures.same sent.ensures.trace more) c.land.ensures.ends c.land.ensures.wave
