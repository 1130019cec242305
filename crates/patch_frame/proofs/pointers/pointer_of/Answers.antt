use Rattle.std.proofs.Common.{rules}
use Rattle.patch_frame.proofs.pointers.pointer_of.Goals as goal

pub returns-then-offset-largest : goal.returns-then-offset-largest
returns-then-offset-largest c = search rules

pub returns : goal.returns
returns c = search rules
