use Rattle.patch_script.proofs.Lanes.{told}
use Rattle.patch_script.proofs.digits.digits_of.Goals as goal

pub returns : goal.returns
returns c = told 64 c.args.numbers c.fits-numbers.0 c.requires
