use Rattle.patch_c.proofs.Putting.{puts_stay}
use Rattle.patch_c.proofs.laws.puts_stay.Goals as goal

pub returns : goal.returns
returns c = puts_stay c.steps_extend.ensures.state c.images_stay.ensures c.histories_begin.ensures
