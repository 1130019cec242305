use Rattle.std.proofs.Common.{w8}
use Rattle.std.proofs.lemmas.Simd.{below_from_Fits}
use Rattle.patch_script.proofs.Lanes.{halves_told, high_small, low_small}
use Rattle.patch_script.proofs.digits.halves_of.Goals as goal

pub digits_of-high-requires : goal.digits_of-high-requires
digits_of-high-requires c = high_small 64 c.args.bytes c.fits-bytes.0 (below_from_Fits w8 c.args.bytes c.fits-bytes.1)

pub digits_of-low-requires : goal.digits_of-low-requires
digits_of-low-requires c = low_small 64 c.args.bytes c.fits-bytes.0

pub returns : goal.returns
returns c =
    halves_told c.args.bytes c.digits_of-high.result c.digits_of-low.result c.fits-bytes.0 c.digits_of-high.ensures c.digits_of-low.ensures
