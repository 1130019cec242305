use Rattle.std.proofs.Common.{rules}
use Rattle.patch_frame.proofs.geometries.Geometry.first_block.Goals as goal

pub returns-clause-value : goal.returns-clause-value
returns-clause-value c = search rules
