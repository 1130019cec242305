use Rattle.std.proofs.Common.{◌≡◌, ◌∙◌, true, false, Err, None, ap, sym, subst}
use Rattle.patch_cache.specs.Contents.{Contents}
use Rattle.patch_cache.specs.Meaning.{IsCacheOf}
use Rattle.patch_cache.specs.Paging.{why_not_resident}
use Rattle.patch_cache.specs.Asks.{Refused, ask_of, answer_of}
use Rattle.patch_cache.specs.Running.{IsServed}
use Rattle.patch_cache.specs.Waves.{HoldImages}
use Rattle.patch_cache.specs.Bringing.{IsServedOnImages}
use Rattle.patch_cache.proofs.Absent.{whole_missed}
use Rattle.patch_cache.proofs.Brought.{given_up, served_images, served_behind}
use Rattle.patch_cache.proofs.caches.Cache.answer.Goals as goal

pub returns-in_default-clause-served : goal.returns-in_default-clause-served
returns-in_default-clause-served g c = λ run on. c.answer_resident.ensures.served true run on

pub returns-in_default-clause-paged : goal.returns-in_default-clause-paged
returns-in_default-clause-paged g c = λ run on.
    served_images c.steps_extend.ensures.state c.images_stay.ensures g.D.Device run (ask_of c.args.ask.now) (answer_of c.answer_resident.result) c.answer_resident.new.self c.answer_resident.new.flights
    c.args.device.now c.answer_resident.new.device on.honest on.images (c.answer_resident.ensures.served false run on.on)

-- a cache that has all its blocks stays as it is, and so does the device
pub returns-in-Ok-clause-served : goal.returns-in-Ok-clause-served
returns-in-Ok-clause-served g c = λ run on.
    let none : why_not_resident c.args.self.now c.in-Some.block ≡ None = whole_missed c.args.self.now run c.in-Some.block on.runs.cache_is in
    let one = c.answer_resident-in-Ok in
    let same : c.bring.new.device ≡ c.args.device.now = c.in-Ok.ensures.unread none in
    subst (λ d. IsServed g.D.Device run (ask_of c.args.ask.now) (answer_of one.result) one.new.self one.new.flights d one.new.device) same
    (one.ensures.served true run (record {
      runs = record { cache_is = subst (λ (v : Contents). IsCacheOf v run) (sym (c.in-Ok.ensures.still none)) on.runs.cache_is; flights_are = on.runs.flights_are };
      blocks = ap (g.D.Device.block_count) same ∙ on.blocks;
    }))

pub returns-in-Ok-clause-of_completion : goal.returns-in-Ok-clause-of_completion
returns-in-Ok-clause-of_completion g c = λ run runs fault.
    let none : why_not_resident c.args.self.now c.in-Some.block ≡ None = whole_missed c.args.self.now run c.in-Some.block runs.cache_is in
    c.answer_resident-in-Ok.ensures.of_completion true run
    (record { cache_is = subst (λ (v : Contents). IsCacheOf v run) (sym (c.in-Ok.ensures.still none)) runs.cache_is; flights_are = runs.flights_are }) fault

pub returns-in-Ok-clause-paged : goal.returns-in-Ok-clause-paged
returns-in-Ok-clause-paged g c = λ run on.
    let device = g.D.Device in
    let old = c.args.device.now in
    let mid = c.bring.new.device in
    let one = c.answer_resident-in-Ok in
    let brought = c.in-Ok.ensures in
    let honest = brought.device.honesty.0 on.honest in
    let images = subst (λ contents. HoldImages run contents) (sym (brought.same on.honest)) on.images in
    served_behind device run (ask_of c.args.ask.now) (answer_of one.result) one.new.self one.new.flights old mid one.new.device (g.met.D.Device.faults_fit one.new.device) brought.device brought.same brought.no_moment
    (served_images c.steps_extend.ensures.state c.images_stay.ensures device run (ask_of c.args.ask.now) (answer_of one.result) one.new.self one.new.flights mid one.new.device honest images
    (one.ensures.served false run (record {
      runs = record { cache_is = brought.paged run on.on.runs.cache_is on.honest on.images; flights_are = on.on.runs.flights_are };
      blocks = brought.device.count ∙ on.on.blocks;
    })))

pub returns-in-Err-clause-paged : goal.returns-in-Err-clause-paged
returns-in-Err-clause-paged g c = λ run on.
    let brought = c.in-Err.ensures in
    let named = sym c.block.ensures ∙ c.in-Some.is in
    subst (λ (v : Contents). IsServedOnImages g.D.Device run (ask_of c.args.ask.now) (Refused c.refusal.result) v c.args.flights.now c.args.device.now c.bring.new.device) (sym brought.refused)
    (subst (λ cause. IsServedOnImages g.D.Device run (ask_of c.args.ask.now) (Refused cause) c.args.self.now c.args.flights.now c.args.device.now c.bring.new.device) (sym c.refusal.ensures)
    (given_up g.D.Device run (ask_of c.args.ask.now) c.in-Some.block c.in-Err.refusal c.args.self.now c.args.flights.now c.args.device.now c.bring.new.device on named
    (brought.missing run on.on.runs.cache_is) brought.device (λ is. brought.fault (ap (λ r. Err r) is)) (brought.same on.honest) brought.no_moment))
