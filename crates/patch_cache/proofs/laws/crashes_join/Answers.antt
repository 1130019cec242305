use Rattle.std.proofs.Common.{refl}
use Rattle.patch_cache.proofs.Crashing.{unmoved, joined, unwritten_step}
use Rattle.patch_cache.proofs.laws.crashes_join.Goals as goal

pub returns-clause-unmoved : goal.returns-clause-unmoved
returns-clause-unmoved g c = unmoved g.D.Device

pub returns-clause-unwritten : goal.returns-clause-unwritten
returns-clause-unwritten g c run step device legal longer other left = unwritten_step c.disks_stay.ensures g.D.Device run step device other legal longer left

pub returns-clause-joined : goal.returns-clause-joined
returns-clause-joined g c a b more before mid now first second = joined g.D.Device a b _ more before mid now refl first second
