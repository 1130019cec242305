use Rattle.std.proofs.Common.{Err, false, arith, ◌≡◌, ◌∙◌, refl, subst, sym, ap, length}
use Rattle.std.specs.Prelude.{count_by}
use Rattle.patch_model.specs.Execution.{followed_by}
use Rattle.patch_model.specs.State.{entries_of}
use Rattle.patch_device.specs.SameDevice.{same_still, same_both}
use Rattle.patch_cache.specs.Refused.{given_up_later}
use Rattle.patch_cache.specs.Running.{held_by}
use Rattle.patch_cache.specs.Waves.{is_send, steps_since}
use Rattle.patch_plans.specs.Groups.{is_pending, patches_of}
use Rattle.patch_group.specs.Syncing.{IsSynced, RisesIfSyncStops, IfSyncStops, IsHeldIfSyncStops}
use Rattle.patch_group.specs.declared.refusals.SyncRefusal.TheVariants as refusal
use Rattle.patch_group.proofs.Outcomes.{refused-done}
use Rattle.patch_group.proofs.Pending.{none_left}
use Rattle.patch_group.proofs.Steps.{for_all, landed_first}
use Rattle.patch_group.proofs.Writing.{continues_both, went_both, keeps_both, since_both, sends_both, tried_both, sync_stops, stays_past, groups_stay}
use Rattle.patch_group.proofs.Stopping.{sync_rises, sync_holds, told_as}
use Rattle.patch_group.proofs.syncing.sync.Goals as goal

pub returns-in_err-land-clause-stands : goal.returns-in_err-land-clause-stands
returns-in_err-land-clause-stands g c run r = record {
  on = record { runs = (c.land.ensures.ran false run r.on.runs).runs; blocks = c.land.ensures.device.count ∙ r.on.blocks };
  groups_are = groups_stay c.order_is_kept.ensures.steps run c.args.groups.now (steps_since c.args.cache.now c.land.new.self) r.groups_are;
}

pub returns-in_err-waiting-clause-stands : goal.returns-in_err-waiting-clause-stands
returns-in_err-waiting-clause-stands g c run r = record {
  on = record { runs = (c.land.ensures.ran false run r.on.runs).runs; blocks = c.land.ensures.device.count ∙ r.on.blocks };
  groups_are = groups_stay c.order_is_kept.ensures.steps run c.args.groups.now (steps_since c.args.cache.now c.land.new.self) r.groups_are;
}

pub returns-in_err-write_all_of-clause-ran : goal.returns-in_err-write_all_of-clause-ran
returns-in_err-write_all_of-clause-ran g c run r =
    let first = c.land.ensures.ran false run r in
    went_both c.traces_join.ensures.joined c.stretches_join.ensures.joined run c.args.cache.now c.land.new.self c.write_all_of.new.cache _ _ c.land.ensures.trace c.write_all_of.ensures.trace first (c.write_all_of.ensures.ran _ first.runs)

pub returns-in_err-write_all_of-clause-stands : goal.returns-in_err-write_all_of-clause-stands
returns-in_err-write_all_of-clause-stands g c run r =
    let first = c.land.ensures.ran false run r.on.runs in
    let whole = went_both c.traces_join.ensures.joined c.stretches_join.ensures.joined run c.args.cache.now c.land.new.self c.write_all_of.new.cache _ _ c.land.ensures.trace c.write_all_of.ensures.trace first (c.write_all_of.ensures.ran _ first.runs) in
    record {
      on = record { runs = whole.runs; blocks = c.write_all_of.ensures.device.count ∙ c.land.ensures.device.count ∙ r.on.blocks };
      groups_are = groups_stay c.order_is_kept.ensures.steps run c.args.groups.now (steps_since c.args.cache.now c.write_all_of.new.cache) r.groups_are;
    }

pub returns-in_err-write_all_of-clause-disk : goal.returns-in_err-write_all_of-clause-disk
returns-in_err-write_all_of-clause-disk g c honest =
    let first = c.land.ensures in
    let told = c.write_all_of.ensures in
    keeps_both c.traces_join.ensures.joined g.D.Device c.stretches_join.ensures.kept c.args.cache.now c.land.new.self c.write_all_of.new.cache c.args.flights.now c.land.new.flights _ _ _ first.trace told.trace (first.ran false)
    (first.disk honest false) (told.disk (first.device.honesty.0 honest))

pub returns-clause-ran : goal.returns-clause-ran
returns-clause-ran g c run r =
    let first = c.land.ensures.ran false run r in
    went_both c.traces_join.ensures.joined c.stretches_join.ensures.joined run c.args.cache.now c.land.new.self c.write_all_of.new.cache _ _ c.land.ensures.trace c.write_all_of.ensures.trace first (c.write_all_of.ensures.ran _ first.runs)

pub returns-clause-stands : goal.returns-clause-stands
returns-clause-stands g c run r =
    let first = c.land.ensures.ran false run r.on.runs in
    let whole = went_both c.traces_join.ensures.joined c.stretches_join.ensures.joined run c.args.cache.now c.land.new.self c.write_all_of.new.cache _ _ c.land.ensures.trace c.write_all_of.ensures.trace first (c.write_all_of.ensures.ran _ first.runs) in
    record {
      on = record { runs = whole.runs; blocks = c.write_all_of.ensures.device.count ∙ c.land.ensures.device.count ∙ r.on.blocks };
      groups_are = groups_stay c.order_is_kept.ensures.steps run c.args.groups.now (steps_since c.args.cache.now c.write_all_of.new.cache) r.groups_are;
    }

pub returns-clause-disk : goal.returns-clause-disk
returns-clause-disk g c honest =
    let first = c.land.ensures in
    let told = c.write_all_of.ensures in
    keeps_both c.traces_join.ensures.joined g.D.Device c.stretches_join.ensures.kept c.args.cache.now c.land.new.self c.write_all_of.new.cache c.args.flights.now c.land.new.flights _ _ _ first.trace told.trace (first.ran false)
    (first.disk honest false) (told.disk (first.device.honesty.0 honest))

pub returns-clause-steps : goal.returns-clause-steps
returns-clause-steps g c run r =
    let old = c.args.cache.now in
    let mid = c.land.new.self in
    let now = c.write_all_of.new.cache in
    let patches = patches_of c.args.groups.now c.args.group in
    let first = c.land.ensures.ran false run r in
    let told = c.in_ok-write_all_of.ensures in
    let so_far = followed_by run (steps_since old mid) in
    let ext = c.steps_extend.ensures.state in
    let waited = c.as_slice.ensures.value ∙ c.in_ok-waiting.ensures so_far first.runs.cache_is in
    let needed = subst (λ ns. IsSynced ns so_far (steps_since mid now)) waited (told.steps so_far first.runs c.in_ok-land.ensures.landed) in
    subst (λ s. IsSynced patches run s) (sym (c.traces_join.ensures.joined old mid now c.land.ensures.trace c.write_all_of.ensures.trace).1)
    (landed_first ext (length run.first) patches run (steps_since old mid) (steps_since mid now) first.writes c.land.ensures.ends first.runs.cache_is.legal.steps
    (for_all ext (λ run block. c.ready_is_largest.ensures.largest (entries_of run) block (c.ready_is_largest.ensures.made run))
    (is_pending (entries_of so_far)) patches so_far (steps_since mid now) (λ n f. f) needed))

pub returns-clause-synced : goal.returns-clause-synced
returns-clause-synced g c run r =
    let old = c.args.cache.now in
    let mid = c.land.new.self in
    let now = c.write_all_of.new.cache in
    let patches = patches_of c.args.groups.now c.args.group in
    let first = c.land.ensures.ran false run r in
    let told = c.in_ok-write_all_of.ensures in
    let so_far = followed_by run (steps_since old mid) in
    let later = followed_by so_far (steps_since mid now) in
    let waited = c.as_slice.ensures.value ∙ c.in_ok-waiting.ensures so_far first.runs.cache_is in
    subst (λ s. count_by (is_pending (entries_of s)) patches ≡ 0) (since_both c.traces_join.ensures.joined run old mid now c.land.ensures.trace c.write_all_of.ensures.trace)
    (none_left (is_pending (entries_of so_far)) (is_pending (entries_of later)) patches
    (stays_past c.steps_extend.ensures.state (λ run block. c.ready_is_largest.ensures.largest (entries_of run) block (c.ready_is_largest.ensures.made run)) so_far (steps_since mid now) (c.write_all_of.ensures.ran so_far first.runs).writes)
    (subst (λ ns. count_by (is_pending (entries_of later)) ns ≡ 0) waited (told.done so_far first.runs c.in_ok-land.ensures.landed)))

-- how often
pub returns-in_err-write_all_of-clause-tries : goal.returns-in_err-write_all_of-clause-tries
returns-in_err-write_all_of-clause-tries g c =
    let first = c.land.ensures in
    let told = c.write_all_of.ensures in
    let landed = first.tries in
    let ends = first.ends in
    let wrote = told.tries c.in_ok-land.ensures.landed in
    let both = sends_both c.traces_join.ensures.joined c.args.cache.now c.land.new.self c.write_all_of.new.cache first.trace told.trace in omega (arith, landed, ends, wrote, both)

pub returns-clause-tries : goal.returns-clause-tries
returns-clause-tries g c =
    let first = c.land.ensures in
    let told = c.write_all_of.ensures in
    let landed = first.tries in
    let ends = first.ends in
    let wrote = told.tries c.in_ok-land.ensures.landed in
    let both = sends_both c.traces_join.ensures.joined c.args.cache.now c.land.new.self c.write_all_of.new.cache first.trace told.trace in omega (arith, landed, ends, wrote, both)

pub returns-in_err-write_all_of-clause-refused : goal.returns-in_err-write_all_of-clause-refused
returns-in_err-write_all_of-clause-refused g c run on =
    let first = c.land.ensures in
    let told = c.in_err-write_all_of.ensures.refused _ (record { runs = (first.ran false run on.runs).runs; blocks = first.device.count ∙ on.blocks }) in
    sync_stops (Unit {0}) g.D.Device _ c.in_err-write_all_of.field-0.0 _ _ _ c.from_residual-in_err-write_all_of.ensures.1
    (given_up_later {T = Unit {0}} g.D.Device (Err c.in_err-write_all_of.field-0.0) _ c.args.device.now c.land.new.device c.write_all_of.new.device first.device told)

-- what a sync that stops tells
pub returns-in_err-land-clause-gave_up : goal.returns-in_err-land-clause-gave_up
returns-in_err-land-clause-gave_up g c run on =
    sync_rises (Unit {0}) c.from_residual.result c.in_err-land.field-0.0 _ _ _ c.from_residual.ensures.1 (omega arith) (g.met.D.Device.faults_fit c.land.new.device) (c.in_err-land.ensures.gave_up false run on)

pub returns-in_err-land-clause-refused : goal.returns-in_err-land-clause-refused
returns-in_err-land-clause-refused g c run on =
    sync_stops (Unit {0}) g.D.Device c.from_residual.result c.in_err-land.field-0.0 _ _ _ c.from_residual.ensures.1 (c.in_err-land.ensures.refused false run on)

pub returns-in_err-land-clause-held : goal.returns-in_err-land-clause-held
returns-in_err-land-clause-held g c = sync_holds (Unit {0}) c.from_residual.result c.in_err-land.field-0.0 c.land.new.flights c.from_residual.ensures.1 c.in_err-land.ensures.held

pub returns-in_err-land-clause-lasts : goal.returns-in_err-land-clause-lasts
returns-in_err-land-clause-lasts g c honest = refused-done c.from_residual.result _ c.from_residual.ensures.0

pub returns-in_err-waiting-clause-lasts : goal.returns-in_err-waiting-clause-lasts
returns-in_err-waiting-clause-lasts g c honest = refused-done c.from_residual-in_err-waiting.result _ c.from_residual-in_err-waiting.ensures.0

pub returns-in_err-write_all_of-clause-lasts : goal.returns-in_err-write_all_of-clause-lasts
returns-in_err-write_all_of-clause-lasts g c honest = refused-done c.from_residual-in_err-write_all_of.result _ c.from_residual-in_err-write_all_of.ensures.0

pub returns-then-not-is_open-clause-lasts : goal.returns-then-not-is_open-clause-lasts
returns-then-not-is_open-clause-lasts g c honest = tt

pub returns-clause-lasts : goal.returns-clause-lasts
returns-clause-lasts g c honest lasts =
    c.in_ok-write_all_of.ensures.lasts (c.land.ensures.device.honesty.0 honest) (c.in_ok-land.ensures.lasts honest lasts)

pub returns-in_err-waiting-clause-gave_up : goal.returns-in_err-waiting-clause-gave_up
returns-in_err-waiting-clause-gave_up g c run on =
    let device = g.D.Device in
    told_as c.from_residual-in_err-waiting.result refusal.OutOfMemory (λ r. RisesIfSyncStops r (device.fault_count c.args.device.now) (device.fault_count c.land.new.device)) c.from_residual-in_err-waiting.ensures.1 tt

pub returns-in_err-waiting-clause-refused : goal.returns-in_err-waiting-clause-refused
returns-in_err-waiting-clause-refused g c run on =
    told_as c.from_residual-in_err-waiting.result refusal.OutOfMemory (λ r. IfSyncStops g.D.Device r c.land.new.flights c.args.device.now c.land.new.device) c.from_residual-in_err-waiting.ensures.1 tt

pub returns-in_err-waiting-clause-held : goal.returns-in_err-waiting-clause-held
returns-in_err-waiting-clause-held g c =
    told_as c.from_residual-in_err-waiting.result refusal.OutOfMemory (λ r. IsHeldIfSyncStops r c.land.new.flights) c.from_residual-in_err-waiting.ensures.1 tt

pub returns-in_err-write_all_of-clause-gave_up : goal.returns-in_err-write_all_of-clause-gave_up
returns-in_err-write_all_of-clause-gave_up g c run on =
    let first = c.land.ensures in
    let told = c.in_err-write_all_of.ensures.gave_up _ (record { runs = (first.ran false run on.runs).runs; blocks = first.device.count ∙ on.blocks }) in
    sync_rises (Unit {0}) c.from_residual-in_err-write_all_of.result c.in_err-write_all_of.field-0.0 _ _ _ c.from_residual-in_err-write_all_of.ensures.1 first.device.faults (g.met.D.Device.faults_fit c.write_all_of.new.device) told

pub returns-in_err-write_all_of-clause-held : goal.returns-in_err-write_all_of-clause-held
returns-in_err-write_all_of-clause-held g c =
    sync_holds (Unit {0}) c.from_residual-in_err-write_all_of.result c.in_err-write_all_of.field-0.0 c.write_all_of.new.flights c.from_residual-in_err-write_all_of.ensures.1 c.in_err-write_all_of.ensures.held

pub returns-in_err-write_all_of-clause-trace : goal.returns-in_err-write_all_of-clause-trace
returns-in_err-write_all_of-clause-trace g c = continues_both c.traces_join.ensures.joined c.args.cache.now c.land.new.self c.write_all_of.new.cache c.land.ensures.trace c.write_all_of.ensures.trace

pub returns-in_err-write_all_of-clause-device : goal.returns-in_err-write_all_of-clause-device
returns-in_err-write_all_of-clause-device g c = same_both g.D.Device c.args.device.now c.land.new.device c.write_all_of.new.device c.land.ensures.device c.write_all_of.ensures.device

pub returns-clause-trace : goal.returns-clause-trace
returns-clause-trace g c = continues_both c.traces_join.ensures.joined c.args.cache.now c.land.new.self c.write_all_of.new.cache c.land.ensures.trace c.write_all_of.ensures.trace

pub returns-clause-device : goal.returns-clause-device
returns-clause-device g c = same_both g.D.Device c.args.device.now c.land.new.device c.write_all_of.new.device c.land.ensures.device c.write_all_of.ensures.device

pub returns-in_err-land-clause-ran : goal.returns-in_err-land-clause-ran
returns-in_err-land-clause-ran g c run r = c.land.ensures.ran false run r

pub returns-in_err-land-clause-trace : goal.returns-in_err-land-clause-trace
returns-in_err-land-clause-trace g c = c.land.ensures.trace

pub returns-in_err-land-clause-disk : goal.returns-in_err-land-clause-disk
returns-in_err-land-clause-disk g c honest = c.land.ensures.disk honest false

pub returns-in_err-land-clause-device : goal.returns-in_err-land-clause-device
returns-in_err-land-clause-device g c = c.land.ensures.device

pub returns-in_err-land-clause-steps : goal.returns-in_err-land-clause-steps
returns-in_err-land-clause-steps g c run r = refused-done c.from_residual.result _ c.from_residual.ensures.0

pub returns-in_err-land-clause-synced : goal.returns-in_err-land-clause-synced
returns-in_err-land-clause-synced g c run r = refused-done c.from_residual.result _ c.from_residual.ensures.0

pub returns-in_err-land-clause-known : goal.returns-in_err-land-clause-known
returns-in_err-land-clause-known g c = refused-done c.from_residual.result _ c.from_residual.ensures.0

pub returns-in_err-land-clause-landed : goal.returns-in_err-land-clause-landed
returns-in_err-land-clause-landed g c = refused-done c.from_residual.result _ c.from_residual.ensures.0

pub returns-in_err-waiting-clause-ran : goal.returns-in_err-waiting-clause-ran
returns-in_err-waiting-clause-ran g c run r = c.land.ensures.ran false run r

pub returns-in_err-waiting-clause-trace : goal.returns-in_err-waiting-clause-trace
returns-in_err-waiting-clause-trace g c = c.land.ensures.trace

pub returns-in_err-waiting-clause-disk : goal.returns-in_err-waiting-clause-disk
returns-in_err-waiting-clause-disk g c honest = c.land.ensures.disk honest false

pub returns-in_err-waiting-clause-device : goal.returns-in_err-waiting-clause-device
returns-in_err-waiting-clause-device g c = c.land.ensures.device

pub returns-in_err-waiting-clause-steps : goal.returns-in_err-waiting-clause-steps
returns-in_err-waiting-clause-steps g c run r = refused-done c.from_residual-in_err-waiting.result _ c.from_residual-in_err-waiting.ensures.0

pub returns-in_err-waiting-clause-synced : goal.returns-in_err-waiting-clause-synced
returns-in_err-waiting-clause-synced g c run r = refused-done c.from_residual-in_err-waiting.result _ c.from_residual-in_err-waiting.ensures.0

pub returns-in_err-waiting-clause-known : goal.returns-in_err-waiting-clause-known
returns-in_err-waiting-clause-known g c = refused-done c.from_residual-in_err-waiting.result _ c.from_residual-in_err-waiting.ensures.0

pub returns-in_err-waiting-clause-landed : goal.returns-in_err-waiting-clause-landed
returns-in_err-waiting-clause-landed g c = refused-done c.from_residual-in_err-waiting.result _ c.from_residual-in_err-waiting.ensures.0

pub returns-in_err-write_all_of-clause-steps : goal.returns-in_err-write_all_of-clause-steps
returns-in_err-write_all_of-clause-steps g c run r = refused-done c.from_residual-in_err-write_all_of.result _ c.from_residual-in_err-write_all_of.ensures.0

pub returns-in_err-write_all_of-clause-synced : goal.returns-in_err-write_all_of-clause-synced
returns-in_err-write_all_of-clause-synced g c run r = refused-done c.from_residual-in_err-write_all_of.result _ c.from_residual-in_err-write_all_of.ensures.0

pub returns-in_err-write_all_of-clause-known : goal.returns-in_err-write_all_of-clause-known
returns-in_err-write_all_of-clause-known g c = refused-done c.from_residual-in_err-write_all_of.result _ c.from_residual-in_err-write_all_of.ensures.0

pub returns-in_err-write_all_of-clause-landed : goal.returns-in_err-write_all_of-clause-landed
returns-in_err-write_all_of-clause-landed g c = refused-done c.from_residual-in_err-write_all_of.result _ c.from_residual-in_err-write_all_of.ensures.0

pub returns-clause-gave_up : goal.returns-clause-gave_up
returns-clause-gave_up g c run on = tt

pub returns-then-not-is_open-clause-gave_up : goal.returns-then-not-is_open-clause-gave_up
returns-then-not-is_open-clause-gave_up g c run on = tt

pub returns-clause-refused : goal.returns-clause-refused
returns-clause-refused g c run on = tt

pub returns-then-not-is_open-clause-refused : goal.returns-then-not-is_open-clause-refused
returns-then-not-is_open-clause-refused g c run on = tt

pub returns-clause-held : goal.returns-clause-held
returns-clause-held g c = tt

pub returns-then-not-is_open-clause-held : goal.returns-then-not-is_open-clause-held
returns-then-not-is_open-clause-held g c = tt

pub returns-then-not-is_open-clause-landed : goal.returns-then-not-is_open-clause-landed
returns-then-not-is_open-clause-landed g c = tt

pub returns-then-not-is_open-clause-known : goal.returns-then-not-is_open-clause-known
returns-then-not-is_open-clause-known g c = tt

pub returns-clause-landed : goal.returns-clause-landed
returns-clause-landed g c = c.in_ok-write_all_of.ensures.landed c.in_ok-land.ensures.landed

pub returns-then-not-is_open-clause-steps : goal.returns-then-not-is_open-clause-steps
returns-then-not-is_open-clause-steps g c run r = tt

pub returns-then-not-is_open-clause-synced : goal.returns-then-not-is_open-clause-synced
returns-then-not-is_open-clause-synced g c run r = tt

pub returns-then-not-is_open-clause-unchanged : goal.returns-then-not-is_open-clause-unchanged
returns-then-not-is_open-clause-unchanged g c is = (refl, refl, refl)

pub returns-then-not-is_open-clause-device : goal.returns-then-not-is_open-clause-device
returns-then-not-is_open-clause-device g c = same_still g.D.Device _

-- and each flight by itself
pub returns-then-not-is_open-clause-each : goal.returns-then-not-is_open-clause-each
returns-then-not-is_open-clause-each g c run r =
    let cache = c.args.cache.now in
    c.tries_join.ensures.still (steps_since cache cache) (held_by c.args.flights.now) c.args.device.now (ap (count_by is_send) (c.traces_join.ensures.none cache).1)

pub returns-in_err-land-clause-each : goal.returns-in_err-land-clause-each
returns-in_err-land-clause-each g c run r =
    c.tries_join.ensures.waves (steps_since c.args.cache.now c.land.new.self) (held_by c.args.flights.now) c.args.device.now c.land.new.device c.land.ensures.ends c.land.ensures.wave

pub returns-in_err-waiting-clause-each : goal.returns-in_err-waiting-clause-each
returns-in_err-waiting-clause-each g c run r =
    c.tries_join.ensures.waves (steps_since c.args.cache.now c.land.new.self) (held_by c.args.flights.now) c.args.device.now c.land.new.device c.land.ensures.ends c.land.ensures.wave

pub returns-in_err-write_all_of-clause-each : goal.returns-in_err-write_all_of-clause-each
returns-in_err-write_all_of-clause-each g c run r =
    let old = c.args.cache.now in
    let mid = c.land.new.self in
    let first = c.land.ensures in
    tried_both c.traces_join.ensures.joined g.D.Device c.tries_join.ensures.joined old mid c.write_all_of.new.cache (held_by c.args.flights.now) (held_by c.land.new.flights) c.args.device.now c.land.new.device c.write_all_of.new.device first.trace c.write_all_of.ensures.trace
    (c.tries_join.ensures.waves (steps_since old mid) (held_by c.args.flights.now) c.args.device.now c.land.new.device first.ends first.wave) c.in_ok-land.ensures.landed
    (c.write_all_of.ensures.each _ (first.ran false run r).runs c.in_ok-land.ensures.landed)

pub returns-clause-each : goal.returns-clause-each
returns-clause-each g c run r =
    let old = c.args.cache.now in
    let mid = c.land.new.self in
    let first = c.land.ensures in
    tried_both c.traces_join.ensures.joined g.D.Device c.tries_join.ensures.joined old mid c.write_all_of.new.cache (held_by c.args.flights.now) (held_by c.land.new.flights) c.args.device.now c.land.new.device c.write_all_of.new.device first.trace c.write_all_of.ensures.trace
    (c.tries_join.ensures.waves (steps_since old mid) (held_by c.args.flights.now) c.args.device.now c.land.new.device first.ends first.wave) c.in_ok-land.ensures.landed
    (c.write_all_of.ensures.each _ (first.ran false run r).runs c.in_ok-land.ensures.landed)
