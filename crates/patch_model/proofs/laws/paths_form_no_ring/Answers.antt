use Rattle.patch_model.proofs.Rings as rings
use Rattle.patch_model.proofs.laws.paths_form_no_ring.Goals as goal

pub returns-clause-ring : goal.returns-clause-ring
returns-clause-ring c = λ run a legal. rings.no_ring run legal a

pub returns-clause-back : goal.returns-clause-back
returns-clause-back c = λ run a b legal p q. rings.no_ring run legal a (rings.Path-append p q)

pub returns-clause-live : goal.returns-clause-live
returns-clause-live c = rings.live_paths
