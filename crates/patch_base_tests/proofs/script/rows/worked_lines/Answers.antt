use Rattle.std.proofs.Common.{refl}
use Rattle.std.specs.Str.{is_utf8, chars}
use Rattle.serde_json.proofs.OnLiterals.{serde_json_on_literals}
use Rattle.hex.proofs.OnLiterals.{hex_on_literals}
use Rattle.patch_script.specs.Form.{line_of, op_line, group_op_line, patch_line, merge_line, view_line}
use Rattle.patch_base_tests.proofs.script.rows.worked_lines.Goals as goal

pub returns-clause-show : goal.returns-clause-show
unfolding serde_json_on_literals hex_on_literals is_utf8 chars line_of op_line patch_line view_line
returns-clause-show c = refl

pub returns-clause-patch : goal.returns-clause-patch
unfolding serde_json_on_literals hex_on_literals is_utf8 chars line_of op_line patch_line view_line
returns-clause-patch c = refl

pub returns-clause-hard : goal.returns-clause-hard
unfolding serde_json_on_literals hex_on_literals is_utf8 chars line_of op_line patch_line view_line
returns-clause-hard c = refl

pub returns-clause-view : goal.returns-clause-view
unfolding serde_json_on_literals hex_on_literals is_utf8 chars line_of op_line patch_line view_line
returns-clause-view c = refl

pub returns-clause-merge : goal.returns-clause-merge
unfolding serde_json_on_literals hex_on_literals is_utf8 chars line_of op_line merge_line
returns-clause-merge c = refl

pub returns-clause-send : goal.returns-clause-send
unfolding serde_json_on_literals hex_on_literals is_utf8 chars line_of op_line patch_line view_line
returns-clause-send c = refl

pub returns-clause-complete : goal.returns-clause-complete
unfolding serde_json_on_literals hex_on_literals is_utf8 chars line_of op_line patch_line view_line
returns-clause-complete c = refl

pub returns-clause-disk : goal.returns-clause-disk
unfolding serde_json_on_literals hex_on_literals is_utf8 chars line_of op_line patch_line view_line
returns-clause-disk c = refl

pub returns-clause-blank : goal.returns-clause-blank
unfolding serde_json_on_literals hex_on_literals is_utf8 chars line_of op_line patch_line view_line
returns-clause-blank c = refl

pub returns-clause-fraction : goal.returns-clause-fraction
unfolding serde_json_on_literals hex_on_literals is_utf8 chars line_of op_line patch_line view_line
returns-clause-fraction c = refl

pub returns-clause-minus_zero : goal.returns-clause-minus_zero
unfolding serde_json_on_literals hex_on_literals is_utf8 chars line_of op_line patch_line view_line
returns-clause-minus_zero c = refl

pub returns-clause-leading_zero : goal.returns-clause-leading_zero
unfolding serde_json_on_literals hex_on_literals is_utf8 chars line_of op_line patch_line view_line
returns-clause-leading_zero c = refl

pub returns-clause-no_byte : goal.returns-clause-no_byte
unfolding serde_json_on_literals hex_on_literals is_utf8 chars line_of op_line patch_line view_line
returns-clause-no_byte c = refl

pub returns-clause-ninth_writer : goal.returns-clause-ninth_writer
unfolding serde_json_on_literals hex_on_literals is_utf8 chars line_of op_line patch_line view_line
returns-clause-ninth_writer c = refl

pub returns-clause-merge_of_one : goal.returns-clause-merge_of_one
unfolding serde_json_on_literals hex_on_literals is_utf8 chars line_of op_line merge_line
returns-clause-merge_of_one c = refl

pub returns-clause-merge_of_text : goal.returns-clause-merge_of_text
unfolding serde_json_on_literals hex_on_literals is_utf8 chars line_of op_line merge_line
returns-clause-merge_of_text c = refl

pub returns-clause-send_of_no_block : goal.returns-clause-send_of_no_block
unfolding serde_json_on_literals hex_on_literals is_utf8 chars line_of op_line patch_line view_line
returns-clause-send_of_no_block c = refl

pub returns-clause-send_of_a_large_block : goal.returns-clause-send_of_a_large_block
unfolding serde_json_on_literals hex_on_literals is_utf8 chars line_of op_line patch_line view_line
returns-clause-send_of_a_large_block c = refl

pub returns-clause-complete_exponent : goal.returns-clause-complete_exponent
unfolding serde_json_on_literals hex_on_literals is_utf8 chars line_of op_line patch_line view_line
returns-clause-complete_exponent c = refl

pub returns-clause-no_byte_on_disk : goal.returns-clause-no_byte_on_disk
unfolding serde_json_on_literals hex_on_literals is_utf8 chars line_of op_line patch_line view_line
returns-clause-no_byte_on_disk c = refl

pub returns-clause-unknown : goal.returns-clause-unknown
unfolding serde_json_on_literals hex_on_literals is_utf8 chars line_of op_line group_op_line patch_line view_line
returns-clause-unknown c = refl
