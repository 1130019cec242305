use Rattle.std.proofs.Common.{refl}
use Rattle.std.specs.Str.{is_utf8, chars}
use Rattle.serde_json.proofs.OnLiterals.{serde_json_on_literals}
use Rattle.hex.proofs.OnLiterals.{hex_on_literals}
use Rattle.patch_commands.specs.Command.{command_of, writer_command, group_command, depend_line}
use Rattle.patch_base_tests.proofs.commands.rows.worked_lines_of_groups.Goals as goal

pub returns-clause-group : goal.returns-clause-group
unfolding serde_json_on_literals hex_on_literals is_utf8 chars command_of writer_command group_command depend_line
returns-clause-group c = refl

pub returns-clause-engage : goal.returns-clause-engage
unfolding serde_json_on_literals hex_on_literals is_utf8 chars command_of writer_command group_command depend_line
returns-clause-engage c = refl

pub returns-clause-disengage : goal.returns-clause-disengage
unfolding serde_json_on_literals hex_on_literals is_utf8 chars command_of writer_command group_command depend_line
returns-clause-disengage c = refl

pub returns-clause-depend : goal.returns-clause-depend
unfolding serde_json_on_literals hex_on_literals is_utf8 chars command_of writer_command group_command depend_line
returns-clause-depend c = refl

pub returns-clause-close : goal.returns-clause-close
unfolding serde_json_on_literals hex_on_literals is_utf8 chars command_of writer_command group_command depend_line
returns-clause-close c = refl

pub returns-clause-pending : goal.returns-clause-pending
unfolding serde_json_on_literals hex_on_literals is_utf8 chars command_of writer_command group_command depend_line
returns-clause-pending c = refl

pub returns-clause-sync : goal.returns-clause-sync
unfolding serde_json_on_literals hex_on_literals is_utf8 chars command_of writer_command group_command depend_line
returns-clause-sync c = refl

pub returns-clause-ninth_writer : goal.returns-clause-ninth_writer
unfolding serde_json_on_literals hex_on_literals is_utf8 chars command_of writer_command group_command depend_line
returns-clause-ninth_writer c = refl

pub returns-clause-depend_on_none : goal.returns-clause-depend_on_none
unfolding serde_json_on_literals hex_on_literals is_utf8 chars command_of writer_command group_command depend_line
returns-clause-depend_on_none c = refl

pub returns-clause-sync_of_a_large_group : goal.returns-clause-sync_of_a_large_group
unfolding serde_json_on_literals hex_on_literals is_utf8 chars command_of writer_command group_command depend_line
returns-clause-sync_of_a_large_group c = refl

pub returns-clause-sync_of_none : goal.returns-clause-sync_of_none
unfolding serde_json_on_literals hex_on_literals is_utf8 chars command_of writer_command group_command depend_line
returns-clause-sync_of_none c = refl

pub returns-clause-sync_of_null : goal.returns-clause-sync_of_null
unfolding serde_json_on_literals hex_on_literals is_utf8 chars command_of writer_command group_command depend_line
returns-clause-sync_of_null c = refl
