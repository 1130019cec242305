use Rattle.std.proofs.Common.{◌∙◌, arith, refl}
use Rattle.patch_links.proofs.Flights.{flown-none, flown-more, flown-all}
use Rattle.patch_links.proofs.Places.{changed-long}
use Rattle.patch_links.proofs.flying.fly_each.Goals as goal

pub loop-key-init : goal.loop-key-init
loop-key-init g c = (flown-none c.args.ready.now _, refl)

pub loop-key-preserved : goal.loop-key-preserved
loop-key-preserved g c = rw c.fly_at.ensures (flown-more _ _ _ _ _ c.loop-key.invariant.0 (omega arith) refl, changed-long _ _ _ ∙ c.loop-key.invariant.1)

pub returns-clause-flown : goal.returns-clause-flown
returns-clause-flown g c = flown-all _ _ _ _ c.loop-key.invariant.0 (omega arith)
