use Rattle.patch_history.proofs.Grouping as grouping
use Rattle.patch_history.proofs.laws.groups_are_kept.Goals as goal

pub returns : goal.returns
returns c =
    grouping.groups_are_kept c.steps_extend.ensures.state c.order_is_kept.ensures.none c.order_is_kept.ensures.steps
    c.order_is_kept.ensures.patches c.order_is_kept.ensures.calls
