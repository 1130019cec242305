use Rattle.patch_cache.proofs.HeldFlights.{held_create}
use Rattle.patch_cache.proofs.laws.flights_stay.Goals as goal

pub returns : goal.returns
returns g c run block start bytes after undo held are = held_create c.steps_extend.ensures.state c.flights_are_ready.ensures.made c.images_stay.ensures run block start bytes after undo held are
