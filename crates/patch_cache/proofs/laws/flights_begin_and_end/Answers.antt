use Rattle.patch_cache.proofs.HeldFlights.{held_merge, held_send, held_complete}
use Rattle.patch_cache.proofs.laws.flights_begin_and_end.Goals as goal

pub returns-clause-merged : goal.returns-clause-merged
returns-clause-merged g c run a b held are = held_merge c.steps_extend.ensures.state c.flights_are_ready.ensures.merged c.images_stay.ensures run a b held are

pub returns-clause-begun : goal.returns-clause-begun
returns-clause-begun g c run block held flight legal none is are =
    held_send c.steps_extend.ensures.state c.images_stay.ensures c.flights_are_ready.ensures.sent c.flights_are_ready.ensures.sent_elsewhere run block held flight legal none is are

pub returns-clause-ended : goal.returns-clause-ended
returns-clause-ended g c run block at held flight left stands is are =
    held_complete c.steps_extend.ensures.state c.images_stay.ensures c.flights_are_ready.ensures.landed_elsewhere run block held at flight left stands is are
