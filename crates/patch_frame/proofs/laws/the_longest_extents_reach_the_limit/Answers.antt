use Rattle.std.proofs.Common.{refl}
use Rattle.patch_frame.proofs.Limits.{largest_of_all}
use Rattle.patch_frame.proofs.laws.the_longest_extents_reach_the_limit.Goals as goal

pub returns-clause-reached : goal.returns-clause-reached
returns-clause-reached c = refl

pub returns-clause-passed_by_none : goal.returns-clause-passed_by_none
returns-clause-passed_by_none c = largest_of_all
