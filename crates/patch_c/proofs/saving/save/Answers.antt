use Rattle.patch_cache.specs.Waves.{steps_since}
use Rattle.patch_c.proofs.Causes.{refused_so}
use Rattle.patch_c.proofs.Landing.{kept_so}
use Rattle.patch_c.proofs.Synced.{synced_so, saved_so, written_so}
use Rattle.patch_c.proofs.saving.save.Goals as goal

pub returns-clause-saved : goal.returns-clause-saved
returns-clause-saved g c honest h stands done =
    let contents = g.D.Device.contents in
    saved_so h (steps_since c.args.store.now.cache c.flush.new.store.cache) c.flush.new.store c.drain_trace-steps.new.self
    (contents c.flush.new.device) (c.flush.ensures.ran h stands.still.represents) (c.in_default.ensures.flushed h stands.still)
    ((c.flush.ensures.disk honest h stands.still.represents).images stands.images) (c.in_default.ensures.cached honest h stands.still stands.images)
    c.drain_trace-steps.ensures.same

pub returns-clause-synced : goal.returns-clause-synced
returns-clause-synced g c h still done =
    synced_so h (steps_since c.args.store.now.cache c.flush.new.store.cache) c.flush.new.store c.drain_trace-steps.new.self
    (c.flush.ensures.ran h still.represents) (c.in_default.ensures.flushed h still) c.drain_trace-steps.ensures.same

pub returns-clause-written : goal.returns-clause-written
returns-clause-written g c h represents =
    written_so h (steps_since c.args.store.now.cache c.flush.new.store.cache) c.flush.new.store c.drain_trace-steps.new.self
    (c.flush.ensures.ran h represents) c.drain_trace-steps.ensures.same

pub returns-in-Err-clause-cause : goal.returns-in-Err-clause-cause
returns-in-Err-clause-cause g c h represents counted =
    refused_so c.in-Err.refusal c.kind.result _ _ c.kind.ensures (c.in-Err.ensures.gave_up h represents counted) c.flush.ensures.device.faults

pub returns-clause-safe : goal.returns-clause-safe
returns-clause-safe g c honest h stands lasting =
    kept_so g.D.Device h (steps_since c.args.store.now.cache c.flush.new.store.cache) c.args.store.now c.flush.new.store c.drain_trace-steps.new.self
    c.args.device.now c.flush.new.device stands lasting (c.flush.ensures.ran h stands.still.represents) (c.flush.ensures.disk honest h stands.still.represents)
    c.drain_trace-steps.ensures.same

pub returns-in-Err-clause-safe : goal.returns-in-Err-clause-safe
returns-in-Err-clause-safe g c honest h stands lasting =
    kept_so g.D.Device h (steps_since c.args.store.now.cache c.flush.new.store.cache) c.args.store.now c.flush.new.store c.flush.new.store
    c.args.device.now c.flush.new.device stands lasting (c.flush.ensures.ran h stands.still.represents) (c.flush.ensures.disk honest h stands.still.represents)
    (λ h represents. represents)

pub returns-clause-device : goal.returns-clause-device
returns-clause-device g c = c.flush.ensures.device

pub returns-in-Err-clause-device : goal.returns-in-Err-clause-device
returns-in-Err-clause-device g c = c.flush.ensures.device

pub returns-clause-lasts : goal.returns-clause-lasts
returns-clause-lasts g c honest done lasting = c.in_default.ensures.lasts honest lasting

pub returns-in-Err-clause-written : goal.returns-in-Err-clause-written
returns-in-Err-clause-written g c h represents =
    written_so h (steps_since c.args.store.now.cache c.flush.new.store.cache) c.flush.new.store c.flush.new.store (c.flush.ensures.ran h represents) (λ h represents. represents)
