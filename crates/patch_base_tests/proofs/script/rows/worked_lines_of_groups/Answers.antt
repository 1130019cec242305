use Rattle.std.proofs.Common.{refl}
use Rattle.std.specs.Str.{is_utf8, chars}
use Rattle.serde_json.proofs.OnLiterals.{serde_json_on_literals}
use Rattle.hex.proofs.OnLiterals.{hex_on_literals}
use Rattle.patch_script.specs.Form.{line_of, op_line, group_op_line, engage_line, disengage_line, depend_line}
use Rattle.patch_base_tests.proofs.script.rows.worked_lines_of_groups.Goals as goal

pub returns-clause-group : goal.returns-clause-group
unfolding serde_json_on_literals hex_on_literals is_utf8 chars line_of op_line group_op_line engage_line disengage_line depend_line
returns-clause-group c = refl

pub returns-clause-engage : goal.returns-clause-engage
unfolding serde_json_on_literals hex_on_literals is_utf8 chars line_of op_line group_op_line engage_line disengage_line depend_line
returns-clause-engage c = refl

pub returns-clause-engage_of_no_writer : goal.returns-clause-engage_of_no_writer
unfolding serde_json_on_literals hex_on_literals is_utf8 chars line_of op_line group_op_line engage_line disengage_line depend_line
returns-clause-engage_of_no_writer c = refl

pub returns-clause-disengage : goal.returns-clause-disengage
unfolding serde_json_on_literals hex_on_literals is_utf8 chars line_of op_line group_op_line engage_line disengage_line depend_line
returns-clause-disengage c = refl

pub returns-clause-depend : goal.returns-clause-depend
unfolding serde_json_on_literals hex_on_literals is_utf8 chars line_of op_line group_op_line engage_line disengage_line depend_line
returns-clause-depend c = refl

pub returns-clause-close : goal.returns-clause-close
unfolding serde_json_on_literals hex_on_literals is_utf8 chars line_of op_line group_op_line engage_line disengage_line depend_line
returns-clause-close c = refl

pub returns-clause-pending : goal.returns-clause-pending
unfolding serde_json_on_literals hex_on_literals is_utf8 chars line_of op_line group_op_line engage_line disengage_line depend_line
returns-clause-pending c = refl

pub returns-clause-sync : goal.returns-clause-sync
unfolding serde_json_on_literals hex_on_literals is_utf8 chars line_of op_line group_op_line engage_line disengage_line depend_line
returns-clause-sync c = refl

pub returns-clause-engage_of_no_group : goal.returns-clause-engage_of_no_group
unfolding serde_json_on_literals hex_on_literals is_utf8 chars line_of op_line group_op_line engage_line disengage_line depend_line
returns-clause-engage_of_no_group c = refl

pub returns-clause-ninth_writer : goal.returns-clause-ninth_writer
unfolding serde_json_on_literals hex_on_literals is_utf8 chars line_of op_line group_op_line engage_line disengage_line depend_line
returns-clause-ninth_writer c = refl

pub returns-clause-depend_on_none : goal.returns-clause-depend_on_none
unfolding serde_json_on_literals hex_on_literals is_utf8 chars line_of op_line group_op_line engage_line disengage_line depend_line
returns-clause-depend_on_none c = refl

pub returns-clause-close_of_text : goal.returns-clause-close_of_text
unfolding serde_json_on_literals hex_on_literals is_utf8 chars line_of op_line group_op_line engage_line disengage_line depend_line
returns-clause-close_of_text c = refl

pub returns-clause-pending_fraction : goal.returns-clause-pending_fraction
unfolding serde_json_on_literals hex_on_literals is_utf8 chars line_of op_line group_op_line engage_line disengage_line depend_line
returns-clause-pending_fraction c = refl

pub returns-clause-sync_of_a_large_group : goal.returns-clause-sync_of_a_large_group
unfolding serde_json_on_literals hex_on_literals is_utf8 chars line_of op_line group_op_line engage_line disengage_line depend_line
returns-clause-sync_of_a_large_group c = refl
