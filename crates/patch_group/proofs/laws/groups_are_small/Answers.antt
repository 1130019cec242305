use Rattle.patch_group.proofs.Promising.{groups_small}
use Rattle.patch_group.proofs.laws.groups_are_small.Goals as goal

pub returns : goal.returns
returns c = groups_small
