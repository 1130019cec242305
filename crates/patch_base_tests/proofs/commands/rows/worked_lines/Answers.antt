use Rattle.std.proofs.Common.{refl}
use Rattle.std.specs.Str.{is_utf8, chars}
use Rattle.serde_json.proofs.OnLiterals.{serde_json_on_literals}
use Rattle.hex.proofs.OnLiterals.{hex_on_literals}
use Rattle.patch_commands.specs.Command.{command_of, writer_command, group_command, put_line}
use Rattle.patch_base_tests.proofs.commands.rows.worked_lines.Goals as goal

pub returns-clause-put : goal.returns-clause-put
unfolding serde_json_on_literals hex_on_literals is_utf8 chars command_of writer_command group_command put_line
returns-clause-put c = refl

pub returns-clause-repeated : goal.returns-clause-repeated
unfolding serde_json_on_literals hex_on_literals is_utf8 chars command_of writer_command group_command put_line
returns-clause-repeated c = refl

pub returns-clause-no_times : goal.returns-clause-no_times
unfolding serde_json_on_literals hex_on_literals is_utf8 chars command_of writer_command group_command put_line
returns-clause-no_times c = refl

pub returns-clause-get : goal.returns-clause-get
unfolding serde_json_on_literals hex_on_literals is_utf8 chars command_of writer_command group_command put_line
returns-clause-get c = refl

pub returns-clause-delete : goal.returns-clause-delete
unfolding serde_json_on_literals hex_on_literals is_utf8 chars command_of writer_command group_command put_line
returns-clause-delete c = refl

pub returns-clause-reclaim : goal.returns-clause-reclaim
unfolding serde_json_on_literals hex_on_literals is_utf8 chars command_of writer_command group_command put_line
returns-clause-reclaim c = refl

pub returns-clause-blank : goal.returns-clause-blank
unfolding serde_json_on_literals hex_on_literals is_utf8 chars command_of writer_command group_command put_line
returns-clause-blank c = refl

pub returns-clause-put_of_no_key : goal.returns-clause-put_of_no_key
unfolding serde_json_on_literals hex_on_literals is_utf8 chars command_of writer_command group_command put_line
returns-clause-put_of_no_key c = refl

pub returns-clause-put_of_no_bytes : goal.returns-clause-put_of_no_bytes
unfolding serde_json_on_literals hex_on_literals is_utf8 chars command_of writer_command group_command put_line
returns-clause-put_of_no_bytes c = refl

pub returns-clause-half_a_byte : goal.returns-clause-half_a_byte
unfolding serde_json_on_literals hex_on_literals is_utf8 chars command_of writer_command group_command put_line
returns-clause-half_a_byte c = refl

pub returns-clause-times_of_text : goal.returns-clause-times_of_text
unfolding serde_json_on_literals hex_on_literals is_utf8 chars command_of writer_command group_command put_line
returns-clause-times_of_text c = refl

pub returns-clause-ninth_writer : goal.returns-clause-ninth_writer
unfolding serde_json_on_literals hex_on_literals is_utf8 chars command_of writer_command group_command put_line
returns-clause-ninth_writer c = refl

pub returns-clause-key_of_a_number : goal.returns-clause-key_of_a_number
unfolding serde_json_on_literals hex_on_literals is_utf8 chars command_of writer_command group_command put_line
returns-clause-key_of_a_number c = refl

pub returns-clause-large_extent : goal.returns-clause-large_extent
unfolding serde_json_on_literals hex_on_literals is_utf8 chars command_of writer_command group_command put_line
returns-clause-large_extent c = refl

pub returns-clause-replay : goal.returns-clause-replay
unfolding serde_json_on_literals hex_on_literals is_utf8 chars command_of writer_command group_command put_line
returns-clause-replay c = refl
