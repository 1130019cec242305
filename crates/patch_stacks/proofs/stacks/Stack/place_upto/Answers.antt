use Rattle.std.proofs.Common.{◌≤◌, ◌∙◌, length, ap, subst}
use Rattle.patch_stacks.specs.State.{Block}
use Rattle.patch_records.proofs.Reading.{last_within}
use Rattle.patch_stacks.proofs.stacks.Stack.place_upto.Goals as goal

pub returns : goal.returns
returns g c =
    last_within c.checked_sub-2.result c.partition_point-behind.result (length c.args.self.now.classes) c.checked_sub-2.ensures
    (subst (λ cs. c.partition_point-behind.result ≤ length cs) (c.deref.ensures.value ∙ ap (λ (b : Block). b.classes) c.self.view_is) c.partition_point-behind.ensures.bound)
