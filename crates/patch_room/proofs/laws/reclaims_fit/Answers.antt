use Rattle.std.proofs.Common.{arith}
use Rattle.patch_room.proofs.Winning.{can_be_won, put_fits_behind}
use Rattle.patch_room.proofs.laws.reclaims_fit.Goals as goal

pub returns-clause-fit : goal.returns-clause-fit
returns-clause-fit c = λ h e legal has won fits. can_be_won c.laws_below.ensures h legal e won has fits

pub returns-clause-behind : goal.returns-clause-behind
returns-clause-behind c = λ h writer e len steps legal has won small right.
    put_fits_behind c.laws_below.ensures h legal e won has (omega (arith, small)) writer len steps small right
