use Rattle.patch_c.proofs.Staying.{calls_stay}
use Rattle.patch_c.proofs.laws.calls_stay.Goals as goal

pub returns : goal.returns
returns c = calls_stay c.steps_extend.ensures.state c.images_stay.ensures
