use Rattle.std.proofs.Common.{◌<◌, ◌∷◌, ◌++◌, [], refl, sym, ap, subst, ◌∙◌, ℕ}
use Rattle.patch_model.specs.Execution.{extended}
use Rattle.patch_model.specs.Step as the
use Rattle.patch_cache.specs.Meaning.{IsCacheOf}
use Rattle.patch_cache.specs.Flights.{AreFlightsBeside}
use Rattle.patch_cache.proofs.HeldFlights.{held_complete, removed_inside}
use Rattle.patch_cache.proofs.Waving.{none_added, no_sends, continues, went_by, stays_by, first_stands, first_held, first_inside, its_flight, gone_complete, stayed_landed, fewer_landed, fewer_held}
use Rattle.patch_cache.proofs.Tries.{lost_first}
use Rattle.patch_model.specs.Member.{In}
use Rattle.patch_cache.proofs.caches.Cache.complete_first.Goals as goal

-- the write is completed
pub returns-in-Ok-clause-trace : goal.returns-in-Ok-clause-trace
returns-in-Ok-clause-trace g c = continues c.args.self.now c.complete.new.self (the.Complete c.landed-landed.result.block ∷ []) c.in-Ok.ensures.trace

pub returns-in-Ok-clause-ends : goal.returns-in-Ok-clause-ends
returns-in-Ok-clause-ends g c = no_sends c.args.self.now c.complete.new.self (the.Complete c.landed-landed.result.block ∷ []) c.in-Ok.ensures.trace refl

pub returns-in-Ok-clause-ran : goal.returns-in-Ok-clause-ran
returns-in-Ok-clause-ran g c others run runs =
    let flight = c.swap_remove.result in
    let held = c.args.flights.now.held.items in
    let block = flight.block in
    let s = first_stands c.flights_are_single.ensures.holds c.patches_are_placed.ensures.known run held flight runs.cache_is.legal runs.flights_are c.requires.some c.swap_remove.ensures.value in
    let stands : IsCacheOf c.complete.new.self (extended run (the.Complete c.landed-landed.result.block)) = (c.in-Ok.ensures.done run runs.cache_is).3 in
    let added = c.in-Ok.ensures.trace ∙ ap (λ b. c.args.self.now.trace ++ the.Complete b ∷ []) c.landed-landed.ensures.block in
    went_by run c.args.self.now c.complete.new.self (the.Complete block ∷ []) _ added
    (gone_complete run block _ _ (fewer_landed c.steps_extend.ensures.state run block)
    (record {
      cache_is = subst (λ b. IsCacheOf c.complete.new.self (extended run (the.Complete b))) c.landed-landed.ensures.block stands;
      flights_are = subst (AreFlightsBeside others (extended run (the.Complete block))) (sym c.swap_remove.ensures.items)
          (held_complete c.steps_extend.ensures.state c.images_stay.ensures c.flights_are_ready.ensures.landed_elsewhere run block held 0 flight flight s.stands refl runs.flights_are);
    }))

pub returns-in-Ok-clause-stays : goal.returns-in-Ok-clause-stays
returns-in-Ok-clause-stays g c others run contents runs images =
    let flight = c.swap_remove.result in
    let held = c.args.flights.now.held.items in
    let block = flight.block in
    let s = first_stands c.flights_are_single.ensures.holds c.patches_are_placed.ensures.known run held flight runs.cache_is.legal runs.flights_are c.requires.some c.swap_remove.ensures.value in
    let added = c.in-Ok.ensures.trace ∙ ap (λ b. c.args.self.now.trace ++ the.Complete b ∷ []) c.landed-landed.ensures.block in
    stays_by run c.args.self.now c.complete.new.self (the.Complete block ∷ []) contents added
    (stayed_landed c.steps_extend.ensures.state c.images_stay.ensures c.writes_end.ensures run block contents runs.cache_is.legal s.known (images flight (first_inside held flight s.stands) ∙ s.is.image_is))

pub returns-in-Ok-clause-none_lost : goal.returns-in-Ok-clause-none_lost
returns-in-Ok-clause-none_lost g c others run runs =
    lost_first c.args.self.now c.complete.new.self c.args.flights.now.held.items _ c.swap_remove.result c.landed-landed.result.block c.requires.some c.swap_remove.ensures.value c.swap_remove.ensures.items c.landed-landed.ensures.block c.in-Ok.ensures.trace

pub returns-in-Ok-clause-first : goal.returns-in-Ok-clause-first
returns-in-Ok-clause-first g c run runs flight stands =
    c.in-Ok.ensures.trace ∙ ap (λ b. c.args.self.now.trace ++ the.Complete b ∷ [])
    (c.landed-landed.ensures.block ∙ ap (λ f. f.block) (first_held c.args.flights.now.held.items c.swap_remove.result flight c.swap_remove.ensures.value stands))

-- the write isn't a stranger's
pub returns-clause-first : goal.returns-clause-first
returns-clause-first g c run runs flight stands =
    let held = c.swap_remove.result in
    let s = first_stands c.flights_are_single.ensures.holds c.patches_are_placed.ensures.known run c.args.flights.now.held.items held runs.cache_is.legal runs.flights_are c.requires.some c.swap_remove.ensures.value in
    absurd (c.in-Err.ensures.stranger run runs.cache_is (its_flight run held c.landed-landed.result c.landed-landed.ensures.block c.landed-landed.ensures.sequence s.is.known))

pub returns-clause-ran : goal.returns-clause-ran
returns-clause-ran g c others run runs =
    let flight = c.swap_remove.result in
    let s = first_stands c.flights_are_single.ensures.holds c.patches_are_placed.ensures.known run c.args.flights.now.held.items flight runs.cache_is.legal runs.flights_are c.requires.some c.swap_remove.ensures.value in
    absurd (c.in-Err.ensures.stranger run runs.cache_is (its_flight run flight c.landed-landed.result c.landed-landed.ensures.block c.landed-landed.ensures.sequence s.is.known))

pub returns-clause-none_lost : goal.returns-clause-none_lost
returns-clause-none_lost g c others run runs =
    let flight = c.swap_remove.result in
    let s = first_stands c.flights_are_single.ensures.holds c.patches_are_placed.ensures.known run c.args.flights.now.held.items flight runs.cache_is.legal runs.flights_are c.requires.some c.swap_remove.ensures.value in
    absurd (c.in-Err.ensures.stranger run runs.cache_is (its_flight run flight c.landed-landed.result c.landed-landed.ensures.block c.landed-landed.ensures.sequence s.is.known))

pub returns-clause-stays : goal.returns-clause-stays
returns-clause-stays g c others run contents runs images =
    let flight = c.swap_remove.result in
    let s = first_stands c.flights_are_single.ensures.holds c.patches_are_placed.ensures.known run c.args.flights.now.held.items flight runs.cache_is.legal runs.flights_are c.requires.some c.swap_remove.ensures.value in
    absurd (c.in-Err.ensures.stranger run runs.cache_is (its_flight run flight c.landed-landed.result c.landed-landed.ensures.block c.landed-landed.ensures.sequence s.is.known))

pub swap_remove-requires : goal.swap_remove-requires
swap_remove-requires g c = subst (λ (n : ℕ). 0 < n) (sym c.args.flights.now.held.ok.0) c.requires.some

pub returns-in-Ok-clause-landed : goal.returns-in-Ok-clause-landed
returns-in-Ok-clause-landed g c = fewer_held _ _ _ _ c.swap_remove.ensures.len c.swap_remove.new.self.ok.0 c.args.flights.now.held.ok.0

pub returns-in-Ok-clause-held : goal.returns-in-Ok-clause-held
returns-in-Ok-clause-held g c flight inside = removed_inside c.args.flights.now.held.items 0 c.swap_remove.result flight c.requires.some (subst (λ xs. In xs flight) c.swap_remove.ensures.items inside)

pub returns-clause-landed : goal.returns-clause-landed
returns-clause-landed g c = fewer_held _ _ _ _ c.swap_remove.ensures.len c.swap_remove.new.self.ok.0 c.args.flights.now.held.ok.0

pub returns-clause-held : goal.returns-clause-held
returns-clause-held g c flight inside = removed_inside c.args.flights.now.held.items 0 c.swap_remove.result flight c.requires.some (subst (λ xs. In xs flight) c.swap_remove.ensures.items inside)

pub returns-clause-trace : goal.returns-clause-trace
returns-clause-trace g c = continues c.args.self.now c.complete.new.self [] (none_added c.args.self.now c.complete.new.self c.in-Err.ensures.refused)

pub returns-clause-ends : goal.returns-clause-ends
returns-clause-ends g c = no_sends c.args.self.now c.complete.new.self [] (none_added c.args.self.now c.complete.new.self c.in-Err.ensures.refused) refl
