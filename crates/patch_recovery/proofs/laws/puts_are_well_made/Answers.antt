use Rattle.patch_recovery.proofs.Putting as putting
use Rattle.patch_recovery.proofs.Staying as staying
use Rattle.patch_recovery.proofs.laws.puts_are_well_made.Goals as goal

pub returns-clause-well_made : goal.returns-clause-well_made
returns-clause-well_made c =
    let again = c.frames_are_read_again.ensures in
    putting.put_well (record { read = again.read; long = again.length; fit = c.frames_fit_extents.ensures })

pub returns-clause-moves : goal.returns-clause-moves
returns-clause-moves c =
    let again = c.frames_are_read_again.ensures in
    staying.puts_again (record { read = again.read; long = again.length; fit = c.frames_fit_extents.ensures })
