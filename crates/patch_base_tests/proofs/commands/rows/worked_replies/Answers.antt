use Rattle.std.proofs.Common.{refl}
use Rattle.hex.proofs.OnLiterals.{hex_on_literals}
use Rattle.std.specs.Fmt.{digits}
use Rattle.patch_base_tests.proofs.commands.rows.worked_replies.Goals as goal

pub returns-clause-done : goal.returns-clause-done
unfolding hex_on_literals digits
returns-clause-done c = refl

pub returns-clause-value : goal.returns-clause-value
unfolding hex_on_literals digits
returns-clause-value c = refl

pub returns-clause-no_bytes : goal.returns-clause-no_bytes
unfolding hex_on_literals digits
returns-clause-no_bytes c = refl

pub returns-clause-absent : goal.returns-clause-absent
unfolding hex_on_literals digits
returns-clause-absent c = refl

pub returns-clause-group : goal.returns-clause-group
unfolding hex_on_literals digits
returns-clause-group c = refl

pub returns-clause-count : goal.returns-clause-count
unfolding hex_on_literals digits
returns-clause-count c = refl

pub returns-clause-refused : goal.returns-clause-refused
unfolding hex_on_literals digits
returns-clause-refused c = refl

pub returns-clause-numbered : goal.returns-clause-numbered
unfolding hex_on_literals digits
returns-clause-numbered c = refl
