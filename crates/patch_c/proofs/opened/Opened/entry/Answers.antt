use Rattle.std.proofs.Common.{◌∙◌, ap}
use Rattle.patch_c.specs.Reading.{entry_told}
use Rattle.patch_c.proofs.opened.Opened.entry.Goals as goal

pub returns : goal.returns
returns c h represents = c.tell_entry.ensures ∙ ap (λ o. entry_told o c.args.key.now c.args.key_len.now c.args.value_len.now) (c.entry.ensures h represents)
