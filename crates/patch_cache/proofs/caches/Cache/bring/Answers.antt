use Rattle.patch_cache.proofs.Crashing.{untouched}
use Rattle.patch_cache.proofs.caches.Cache.bring.Goals as goal

pub returns-clause-crash : goal.returns-clause-crash
returns-clause-crash g c = λ run honest left. untouched g.D.Device run c.args.device.now c.read_in.new.device c.read_in.ensures.device.time c.read_in.ensures.no_moment left
