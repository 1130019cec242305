use Rattle.std.proofs.Common.{rules, tests}
use Rattle.patch_c.proofs.texts.cache_text_of.Goals as goal

pub returns-in_default-clause-text : goal.returns-in_default-clause-text
returns-in_default-clause-text c = search (tests, rules)
