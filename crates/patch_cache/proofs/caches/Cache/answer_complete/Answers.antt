use Rattle.std.proofs.Common.{◌≡◌, ◌<◌, ◌++◌, ◌∷◌, [], length, ap, inr, slice_set}
use Rattle.std.specs.Prelude.{Contains}
use Rattle.patch_model.specs.Execution.{extended}
use Rattle.patch_model.specs.State.{entries_of, state_of, flying_of, numbers_of}
use Rattle.patch_model.specs.Step as the
use Rattle.patch_cache.specs.Meaning.{IsCacheBy}
use Rattle.patch_cache.specs.Flights.{AreFlightsOf, IsEndedBy}
use Rattle.patch_cache.proofs.Absent.{by_whole}
use Rattle.patch_device.specs.Device.{HasRisen, IsOldOrNew}
use Rattle.patch_cache.proofs.caches.Cache.answer_complete.Goals as goal
use Rattle.std.proofs.Common.{inl, refl, sym, subst, ◌∙◌}
use Rattle.patch_cache.proofs.Answering.{found, no_stranger, on_err, on_ok, none_answered, fault_answered, landed_answered, written_or_not, written_for}
use Rattle.patch_cache.proofs.Crashing.{unmoved, unmoved_steps, write_lands, synced, joined}
use Rattle.patch_cache.proofs.Waving.{joined_still}
use Rattle.patch_cache.proofs.GivenUp.{risen_once_later}
use Rattle.patch_cache.specs.Asks.{Refused, IsFault}
use Rattle.patch_model.specs.Crash.{MayLeave}
use Rattle.patch_cache.proofs.Serving.{stranger_faultless, landed_faultless}
use Rattle.patch_cache.proofs.HeldFlights.{held_complete, none_stands, stands_at}

-- the block has no flight
pub returns-in_default-clause-served : goal.returns-in_default-clause-served
returns-in_default-clause-served g c = λ whole run on. record {
  answered = none_answered whole run c.args.block c.bare.result c.args.self.now c.args.flights.now c.bare.ensures on.runs
      (none_stands run c.args.flights.now.held.items c.args.block on.runs.flights_are (sym c.place_of.ensures ∙ c.in_default.is));
  fault = λ is. absurd (stranger_faultless c.bare.result c.bare.ensures is);
  written = λ honest. inl refl;
  crash = λ honest left. unmoved g.D.Device run c.args.device.now left;
}

-- the device refused the write
pub returns-then-is_err-clause-served : goal.returns-then-is_err-clause-served
returns-then-is_err-clause-served g c = λ whole run on.
    let s =
    found c.flights_are_single.ensures.holds c.patches_are_placed.ensures.known run c.args.flights.now.held.items c.args.block c.in-Some.at c.index.result.now on.runs.cache_is.legal
    on.runs.flights_are (sym c.place_of.ensures ∙ c.in-Some.is) c.index.ensures in
    let device = g.D.Device in
    let old = c.args.device.now in
    let new = c.write_image.new.device in
    let flight = c.index.result.now in
    let told = c.write_image.ensures in
    let failed = sym c.is_err.ensures.value ∙ c.if-is_err.true in
    let either = λ (honest : device.is_honest old).
    on_err c.write_image.result (IsOldOrNew (device.contents old) flight.block flight.image (device.contents new)) failed (told.refused honest) in
    let fault : IsFault (Refused c.bare-then-is_err.result) = inl (ap Refused c.bare-then-is_err.ensures) in record {
      answered = fault_answered whole run c.args.block c.bare-then-is_err.result c.args.self.now c.args.flights.now fault on.runs s.block_flies;
      fault = λ is.
          on_err c.write_image.result (HasRisen (device.fault_count old) (device.fault_count new)) failed
          (told.cause (subst (λ n. flight.block < n) (sym on.blocks) s.known));
      written = λ honest. written_or_not run c.args.block flight c.bare-then-is_err.result (device.contents old) (device.contents new) fault s.block_is s.is.image_is (either honest);
      crash = λ honest left.
          write_lands c.images_land.ensures device run flight.block flight.image old new s.known s.is.image_is told.device.time told.moment (told.left honest) left;
    }

-- the device refused the sync
pub returns-then-is_err-2-clause-served : goal.returns-then-is_err-2-clause-served
returns-then-is_err-2-clause-served g c = λ whole run on.
    let s =
    found c.flights_are_single.ensures.holds c.patches_are_placed.ensures.known run c.args.flights.now.held.items c.args.block c.in-Some.at c.index.result.now on.runs.cache_is.legal
    on.runs.flights_are (sym c.place_of.ensures ∙ c.in-Some.is) c.index.ensures in
    let device = g.D.Device in
    let old = c.args.device.now in
    let mid = c.write_image.new.device in
    let new = c.sync.new.self in
    let flight = c.index.result.now in
    let told = c.write_image.ensures in
    let synced_so = c.sync.ensures in
    let passed = sym c.is_err.ensures.value ∙ c.if-is_err.false in
    let failed = sym c.is_err-2.ensures.value ∙ c.if-is_err-2.true in
    let fault : IsFault (Refused c.bare-then-is_err-2.result) = inr (ap Refused c.bare-then-is_err-2.ensures) in record {
      answered = fault_answered whole run c.args.block c.bare-then-is_err-2.result c.args.self.now c.args.flights.now fault on.runs s.block_flies;
      fault = λ is.
          risen_once_later (device.fault_count old) (device.fault_count mid) (device.fault_count new) told.device.faults (g.met.D.Device.faults_fit new)
          (on_err c.sync.result (HasRisen (device.fault_count mid) (device.fault_count new)) failed synced_so.fault);
      written = λ honest.
          let wrote = on_ok c.write_image.result (device.contents mid ≡ slice_set (device.contents old) flight.block flight.image) passed (told.written honest) in
          written_or_not run c.args.block flight c.bare-then-is_err-2.result (device.contents old) (device.contents new) fault s.block_is s.is.image_is (inr (synced_so.same (told.device.honesty.0 honest) ∙ wrote));
      crash = λ honest left.
          let first = write_lands c.images_land.ensures device run flight.block flight.image old mid s.known s.is.image_is told.device.time told.moment (told.left honest) left in
          joined_still device run run old mid new first (synced device run mid new synced_so.time synced_so.one_moment (synced_so.no_more (told.device.honesty.0 honest)) first.left);
    }

-- the write is completed
pub returns-in-Ok-clause-served : goal.returns-in-Ok-clause-served
returns-in-Ok-clause-served g c = λ whole run on.
    let s =
    found c.flights_are_single.ensures.holds c.patches_are_placed.ensures.known run c.args.flights.now.held.items c.args.block c.in-Some.at c.index.result.now on.runs.cache_is.legal
    on.runs.flights_are (sym c.place_of.ensures ∙ c.in-Some.is) c.index.ensures in
    let device = g.D.Device in
    let old = c.args.device.now in
    let mid = c.write_image.new.device in
    let new = c.sync.new.self in
    let block = c.args.block in
    let flight = c.index.result.now in
    let told = c.write_image.ensures in
    let synced_so = c.sync.ensures in
    let passed = sym c.is_err.ensures.value ∙ c.if-is_err.false in
    let lasted = sym c.is_err-2.ensures.value ∙ c.if-is_err-2.false in
    let wrote = λ (honest : device.is_honest old).
    on_ok c.write_image.result (device.contents mid ≡ slice_set (device.contents old) flight.block flight.image) passed (told.written honest) in
    let holds = λ (honest : device.is_honest old). written_for run block flight (device.contents old) (device.contents new) s.block_is s.is.image_is (synced_so.same (told.device.honesty.0 honest) ∙ wrote honest) in record {
      answered =
          let taken = c.swap_remove.result in
          let t =
          found c.flights_are_single.ensures.holds c.patches_are_placed.ensures.known run c.args.flights.now.held.items block c.in-Some.at taken on.runs.cache_is.legal
          on.runs.flights_are (sym c.place_of.ensures ∙ c.in-Some.is) c.swap_remove.ensures.value in
          let done = by_whole whole (λ w. IsCacheBy w c.args.self.now run → IsEndedBy w run c.landed-landed.result c.in-Ok.done c.complete.new.self) (c.in-Ok.ensures.done run) (c.in-Ok.ensures.done_paged run) on.runs.cache_is in
          let same : c.landed-landed.result.block ≡ block = c.landed-landed.ensures.block ∙ t.block_is in
          landed_answered whole run block c.in-Ok.done.block c.in-Ok.done.numbers c.complete.new.self (record { held = c.swap_remove.new.self }) t.block_flies (done.1 ∙ same)
          (subst (λ b. c.in-Ok.done.numbers ≡ numbers_of (flying_of (entries_of run) b)) same done.2)
          (record {
            cache_is = subst (λ b. IsCacheBy whole c.complete.new.self (extended run (the.Complete b))) same done.3;
            flights_are = subst (AreFlightsOf (extended run (the.Complete block))) (sym c.swap_remove.ensures.items)
                (held_complete c.steps_extend.ensures.state c.images_stay.ensures c.flights_are_ready.ensures.landed_elsewhere run block c.args.flights.now.held.items c.in-Some.at taken taken t.stands t.block_is
                on.runs.flights_are);
          });
      fault = λ is. absurd (landed_faultless c.in-Ok.done.block c.in-Ok.done.numbers is);
      written = holds;
      crash = λ honest left.
          let there = told.device.honesty.0 honest in
          let first = write_lands c.images_land.ensures device run flight.block flight.image old mid s.known s.is.image_is told.device.time told.moment (told.left honest) left in
          let second = joined_still device run run old mid new first (synced device run mid new synced_so.time synced_so.one_moment (synced_so.no_more there) first.left) in
          let lasts = on_ok c.sync.result _ lasted (synced_so.lasts there) in
          let next = extended run (the.Complete block) in
          let ended : MayLeave next (device.contents new) =
          subst (MayLeave next) (sym (holds honest)) (c.writes_end.ensures run (device.contents old) block on.runs.cache_is.legal (subst (λ n. n < length run.first) s.block_is s.known)
          (left (device.contents old) (g.met.D.Device.all_may_land old honest))) in
          joined device run run next (the.Complete block ∷ []) old new new refl second
          (unmoved_steps device run (the.Complete block ∷ []) new (λ disk may. subst (MayLeave next) (sym (lasts disk may)) ended));
    }

-- the flight is the cache's, and can't be a stranger
pub returns-in-Err-clause-served : goal.returns-in-Err-clause-served
returns-in-Err-clause-served g c = λ whole run on.
    let s =
    found c.flights_are_single.ensures.holds c.patches_are_placed.ensures.known run c.args.flights.now.held.items c.args.block c.in-Some.at c.swap_remove.result on.runs.cache_is.legal
    on.runs.flights_are (sym c.place_of.ensures ∙ c.in-Some.is) c.swap_remove.ensures.value in
    absurd (no_stranger run c.args.flights.now.held.items c.args.block c.in-Some.at c.landed-landed.result.block c.landed-landed.result.sequence c.swap_remove.result s c.landed-landed.ensures.block
    c.landed-landed.ensures.sequence (by_whole whole (λ w. IsCacheBy w c.args.self.now run → Contains (state_of run).flights (c.landed-landed.result.block, c.landed-landed.result.sequence) → ⊥) (c.in-Err.ensures.stranger run) (c.in-Err.ensures.stranger_paged run) on.runs.cache_is))

pub returns-in-Ok-clause-trace : goal.returns-in-Ok-clause-trace
returns-in-Ok-clause-trace g c =
    let s = stands_at c.args.flights.now.held.items c.args.block c.in-Some.at c.swap_remove.result (sym c.place_of.ensures ∙ c.in-Some.is) (sym c.swap_remove.ensures.value) in
    c.in-Ok.ensures.trace ∙ ap (λ b. c.args.self.now.trace ++ the.Complete b ∷ []) (c.landed-landed.ensures.block ∙ s.1)
