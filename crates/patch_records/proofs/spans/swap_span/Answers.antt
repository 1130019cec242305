use Rattle.std.proofs.Common.{rules}
use Rattle.patch_records.proofs.spans.swap_span.Goals as goal

pub returns-clause-kept : goal.returns-clause-kept
returns-clause-kept c = search rules
