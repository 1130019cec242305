use Rattle.std.proofs.Common.{refl}
use Rattle.patch_model.specs.State.{entries_of}
use Rattle.std.specs.Prelude.{length}
use Rattle.patch_extent.proofs.Grouping.{groups_stay}
use Rattle.patch_extent.proofs.laws.plans_keep_groups.Goals as goal

pub returns : goal.returns
returns c run s gs w choices plan h =
    groups_stay c.steps_extend.ensures.state c.order_is_kept.ensures.steps c.order_is_kept.ensures.patches choices s gs w (length (entries_of run)) plan run refl h
