use Rattle.patch_numbers.proofs.BlockSets.{none_lower, lowest}
use Rattle.patch_numbers.proofs.block_sets.lowest_from.Goals as goal

pub returns-then-rest-eq0 : goal.returns-then-rest-eq0
returns-then-rest-eq0 c = λ i low. none_lower c.args.word c.args.from i c.if-rest-eq0.true low

pub returns : goal.returns
returns c = lowest c.args.word c.args.from c.ranges.word.fits c.requires c.if-rest-eq0.false
