use Rattle.std.proofs.Common.{rules}
use Rattle.patch_frame.proofs.framing.frame_of.Goals as goal

pub returns-then-not-is_zeros-clause-exact : goal.returns-then-not-is_zeros-clause-exact
returns-then-not-is_zeros-clause-exact c = search rules

pub returns-then-value-limit-clause-exact : goal.returns-then-value-limit-clause-exact
returns-then-value-limit-clause-exact c = search rules

pub returns-then-bytes-end-clause-exact : goal.returns-then-bytes-end-clause-exact
returns-then-bytes-end-clause-exact c = search rules

pub returns-then-ne-2-clause-exact : goal.returns-then-ne-2-clause-exact
returns-then-ne-2-clause-exact c = search rules

pub returns-clause-exact : goal.returns-clause-exact
returns-clause-exact c = search rules
