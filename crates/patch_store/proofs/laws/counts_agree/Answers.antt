use Rattle.patch_store.proofs.Agreeing.{counts_agree}
use Rattle.patch_store.proofs.laws.counts_agree.Goals as goal

pub returns : goal.returns
returns c = counts_agree
