use Rattle.patch_history.proofs.Spelling as spelling
use Rattle.patch_history.proofs.laws.upgrades_spell_alike.Goals as goal

pub returns : goal.returns
returns c = spelling.upgrades_spell_alike
