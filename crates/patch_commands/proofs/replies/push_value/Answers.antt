use Rattle.std.proofs.Common.{◌∙◌, sym}
use Rattle.patch_commands.proofs.Texts.{value_text_some}
use Rattle.patch_commands.proofs.replies.push_value.Goals as goal

pub returns : goal.returns
returns c = rw (value_text_some c.args.bytes.now (sym c.is_empty.ensures ∙ c.if-is_empty.false)) c.push_hex.ensures
