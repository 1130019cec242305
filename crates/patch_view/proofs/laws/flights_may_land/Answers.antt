use Rattle.patch_view.proofs.Lawful as proofs
use Rattle.patch_view.proofs.laws.flights_may_land.Goals as goal

pub returns : goal.returns
returns c = proofs.flight_may_land
