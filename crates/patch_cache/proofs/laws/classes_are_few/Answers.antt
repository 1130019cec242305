use Rattle.patch_cache.proofs.Passing.{few_classes, live_of_memory}
use Rattle.patch_cache.proofs.laws.classes_are_few.Goals as goal

pub returns-clause-classes : goal.returns-clause-classes
returns-clause-classes c = live_of_memory

pub returns-clause-patches : goal.returns-clause-patches
returns-clause-patches c = few_classes
