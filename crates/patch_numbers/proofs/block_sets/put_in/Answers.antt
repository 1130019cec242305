use Rattle.patch_numbers.proofs.BlockSets.{is_put_in}
use Rattle.patch_numbers.proofs.block_sets.put_in.Goals as goal

pub returns-clause-put : goal.returns-clause-put
returns-clause-put c = is_put_in c.args.words.now c.args.number c.requires
