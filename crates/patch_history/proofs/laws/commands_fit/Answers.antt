use Rattle.patch_history.proofs.Fitting as fitting
use Rattle.patch_history.proofs.laws.commands_fit.Goals as goal

pub returns-clause-puts : goal.returns-clause-puts
returns-clause-puts c = fitting.puts_fit c.laws_below.ensures

pub returns-clause-frames : goal.returns-clause-frames
returns-clause-frames c = fitting.frames_are_there c.laws_below.ensures

pub returns-clause-reclaims : goal.returns-clause-reclaims
returns-clause-reclaims c = fitting.reclaims_go_on c.laws_below.ensures
