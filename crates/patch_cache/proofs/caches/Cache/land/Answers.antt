use Rattle.std.proofs.Common.{[], refl, sym, ap, subst, ◌∙◌}
use Rattle.patch_cache.specs.Waves.{AreImages, AreOnDevice, IsOneOf, with_flights}
use Rattle.patch_cache.specs.Refused.{HasRefusedHeld}
use Rattle.patch_cache.specs.Tries.{AreTried}
use Rattle.patch_cache.proofs.Tries.{no_wave, wave_unsynced, lost_still}
use Rattle.patch_device.specs.Device.{never_fewer}
use Rattle.patch_device.specs.SameDevice.{same_both}
use Rattle.patch_cache.proofs.Answering.{on_ok}
use Rattle.patch_cache.proofs.GivenUp.{rises_so, held_so}
use Rattle.patch_cache.proofs.Waving.{none_added, went_by, keeps_by, gone_still, kept_unmoved, kept_more, kept_synced, held_images, images_on, wave_kept, given_so}
use Rattle.patch_cache.proofs.caches.Cache.land.Goals as goal

pub returns-then-is_empty-clause-disk : goal.returns-then-is_empty-clause-disk
returns-then-is_empty-clause-disk g c honest others run runs =
    let old = c.args.self.now in keeps_by g.D.Device run old old [] _ _ (none_added old old refl) (kept_unmoved g.D.Device run c.args.device.now)

pub returns-then-is_empty-clause-wave : goal.returns-then-is_empty-clause-wave
returns-then-is_empty-clause-wave g c = no_wave g.D.Device c.args.flights.now.held.items c.args.device.now

pub returns-then-is_empty-clause-none_lost : goal.returns-then-is_empty-clause-none_lost
returns-then-is_empty-clause-none_lost g c others run runs =
    let old = c.args.self.now in lost_still old old c.args.flights.now c.args.flights.now (none_added old old refl) refl

-- the device gave up
pub returns-in_err-write_each-clause-wave : goal.returns-in_err-write_each-clause-wave
returns-in_err-write_each-clause-wave g c =
    wave_unsynced g.D.Device c.args.flights.now.held.items c.args.device.now c.write_each.new.device (subst (λ xs. AreTried g.D.Device xs c.args.device.now c.write_each.new.device) c.as_slice.ensures.value c.write_each.ensures.each)

pub returns-in_err-write_each-clause-none_lost : goal.returns-in_err-write_each-clause-none_lost
returns-in_err-write_each-clause-none_lost g c others run runs =
    let old = c.args.self.now in lost_still old old c.args.flights.now c.args.flights.now (none_added old old refl) refl

pub returns-in_err-write_each-clause-ran : goal.returns-in_err-write_each-clause-ran
returns-in_err-write_each-clause-ran g c others run runs =
    let old = c.args.self.now in went_by run old old [] c.args.flights.now (none_added old old refl) (gone_still run old c.args.flights.now runs)

pub returns-in_err-write_each-clause-disk : goal.returns-in_err-write_each-clause-disk
returns-in_err-write_each-clause-disk g c honest others run runs =
    let old = c.args.self.now in
    let images = held_images c.flights_are_single.ensures.holds c.patches_are_placed.ensures.known run c.args.flights.now.held.items runs.cache_is.legal runs.flights_are in
    keeps_by g.D.Device run old old [] _ _ (none_added old old refl) (c.write_each.ensures.crash honest run (subst (AreImages run) (sym c.as_slice.ensures.value) images))

pub returns-in_err-write_each-clause-gave_up : goal.returns-in_err-write_each-clause-gave_up
returns-in_err-write_each-clause-gave_up g c others run on =
    let images = held_images c.flights_are_single.ensures.holds c.patches_are_placed.ensures.known run c.args.flights.now.held.items on.runs.cache_is.legal on.runs.flights_are in
    rises_so c.from_residual.result c.in_err-write_each.field-0.0.0 _ _ c.from_residual.ensures.1 (c.in_err-write_each.ensures.cause (subst (λ xs. AreOnDevice g.D.Device xs c.args.device.now) (sym c.as_slice.ensures.value) (images_on g.D.Device run _ c.args.device.now images on.blocks)))

pub returns-in_err-write_each-clause-refused : goal.returns-in_err-write_each-clause-refused
returns-in_err-write_each-clause-refused g c others run on =
    let images = held_images c.flights_are_single.ensures.holds c.patches_are_placed.ensures.known run c.args.flights.now.held.items on.runs.cache_is.legal on.runs.flights_are in
    given_so g.D.Device c.from_residual.result c.in_err-write_each.field-0.0.0 c.args.flights.now _ _ c.from_residual.ensures.1
    (subst (λ xs. HasRefusedHeld g.D.Device c.in_err-write_each.field-0.0.0 xs c.args.device.now c.write_each.new.device) c.as_slice.ensures.value
    (c.in_err-write_each.ensures.refused (subst (λ xs. AreOnDevice g.D.Device xs c.args.device.now) (sym c.as_slice.ensures.value) (images_on g.D.Device run _ c.args.device.now images on.blocks))))

pub returns-in_err-write_each-clause-held : goal.returns-in_err-write_each-clause-held
returns-in_err-write_each-clause-held g c = held_so c.from_residual.result c.in_err-write_each.field-0.0.0 c.args.flights.now c.from_residual.ensures.1 (subst (IsOneOf c.in_err-write_each.field-0.0.0) c.as_slice.ensures.value c.in_err-write_each.ensures.block)

-- the sync failed
pub returns-then-is_err-clause-wave : goal.returns-then-is_err-clause-wave
returns-then-is_err-clause-wave g c =
    let told = c.sync.ensures in record {
      mid = c.write_each.new.device;
      tried = subst (λ xs. AreTried g.D.Device xs c.args.device.now c.write_each.new.device) c.as_slice.ensures.value c.write_each.ensures.each;
      same = record { honesty = told.honesty; count = told.count; faults = never_fewer c.sync.result _ _ told.no_fault told.fault; spent = told.spent; time = told.time };
      sync = told.one_moment;
      contents = told.same;
    }

pub returns-then-is_err-clause-none_lost : goal.returns-then-is_err-clause-none_lost
returns-then-is_err-clause-none_lost g c others run runs =
    let old = c.args.self.now in lost_still old old c.args.flights.now c.args.flights.now (none_added old old refl) refl

pub returns-then-is_err-clause-ran : goal.returns-then-is_err-clause-ran
returns-then-is_err-clause-ran g c others run runs =
    let old = c.args.self.now in went_by run old old [] c.args.flights.now (none_added old old refl) (gone_still run old c.args.flights.now runs)

pub returns-then-is_err-clause-disk : goal.returns-then-is_err-clause-disk
returns-then-is_err-clause-disk g c honest others run runs =
    let device = g.D.Device in
    let old = c.args.self.now in
    let written = c.write_each.ensures in
    let told = c.sync.ensures in
    let here = written.device.honesty.0 honest in
    let images = held_images c.flights_are_single.ensures.holds c.patches_are_placed.ensures.known run c.args.flights.now.held.items runs.cache_is.legal runs.flights_are in
    keeps_by device run old old [] _ _ (none_added old old refl)
    (kept_more device run c.args.device.now c.write_each.new.device c.sync.new.self (written.crash honest run (subst (AreImages run) (sym c.as_slice.ensures.value) images))
    (kept_synced device run c.write_each.new.device c.sync.new.self told.time told.one_moment (told.no_more here) (told.same here)))

-- all are completed
pub returns-clause-disk : goal.returns-clause-disk
returns-clause-disk g c honest others run runs =
    let device = g.D.Device in
    let first = c.args.device.now in
    let mid = c.write_each.new.device in
    let last = c.sync.new.self in
    let written = c.write_each.ensures in
    let told = c.sync.ensures in
    let here = written.device.honesty.0 honest in
    let there = told.honesty.0 here in
    let passed = sym c.is_err.ensures.value ∙ c.if-is_err.false in
    let images = held_images c.flights_are_single.ensures.holds c.patches_are_placed.ensures.known run c.args.flights.now.held.items runs.cache_is.legal runs.flights_are in
    wave_kept device run c.args.flights.now.held.items _ first mid last runs.flights_are images (written.crash honest run (subst (AreImages run) (sym c.as_slice.ensures.value) images))
    (kept_synced device run mid last told.time told.one_moment (told.no_more here) (told.same here))
    (on_ok c.sync.result _ passed (told.lasts here)) (g.met.D.Device.all_may_land last there)
    (told.same here ∙ c.in_ok-write_each.ensures.written honest ∙ ap (with_flights (device.contents first)) c.as_slice.ensures.value)
    (g.met.D.Device.blocks_counted last there ∙ told.count ∙ written.device.count ∙ sym (g.met.D.Device.blocks_counted first honest))
    (λ contents holds. c.complete_held.ensures.stays others run contents runs holds)

pub returns-clause-device : goal.returns-clause-device
returns-clause-device g c =
    let told = c.sync.ensures in
    same_both g.D.Device c.args.device.now c.write_each.new.device c.sync.new.self c.write_each.ensures.device (record {
      honesty = told.honesty;
      count = told.count;
      faults = never_fewer c.sync.result _ _ told.no_fault told.fault;
      spent = told.spent;
      time = told.time;
    })

pub returns-clause-lasts : goal.returns-clause-lasts
returns-clause-lasts g c honest before =
    let passed = sym c.is_err.ensures.value ∙ c.if-is_err.false in
    on_ok c.sync.result _ passed (c.sync.ensures.lasts (c.write_each.ensures.device.honesty.0 honest))

pub returns-clause-wave : goal.returns-clause-wave
returns-clause-wave g c =
    let told = c.sync.ensures in record {
      mid = c.write_each.new.device;
      tried = subst (λ xs. AreTried g.D.Device xs c.args.device.now c.write_each.new.device) c.as_slice.ensures.value c.write_each.ensures.each;
      same = record { honesty = told.honesty; count = told.count; faults = never_fewer c.sync.result _ _ told.no_fault told.fault; spent = told.spent; time = told.time };
      sync = told.one_moment;
      contents = told.same;
    }

pub returns-clause-none_lost : goal.returns-clause-none_lost
returns-clause-none_lost g c = c.complete_held.ensures.none_lost
