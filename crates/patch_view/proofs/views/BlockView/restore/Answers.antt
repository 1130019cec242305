use Rattle.std.proofs.Common.{rules}
use Rattle.patch_view.proofs.views.BlockView.restore.Goals as goal

pub returns-clause-answer : goal.returns-clause-answer
returns-clause-answer g c = search rules

pub returns-clause-outline : goal.returns-clause-outline
returns-clause-outline g c = search rules

pub returns-clause-as_before : goal.returns-clause-as_before
returns-clause-as_before g c = search rules
