use Rattle.std.proofs.Common.{◌≤◌, ◌∙◌, length, get_or, ap, subst}
use Rattle.patch_stacks.specs.State.{Block}
use Rattle.patch_records.specs.Records.{no_class}
use Rattle.patch_stacks.proofs.Apart.{lowest-first, lowest-next, lowest-all}
use Rattle.patch_images.proofs.Baring.{class_is}
use Rattle.patch_stacks.proofs.stacks.Stack.lowest_for.Goals as goal

pub loop-class-init : goal.loop-class-init
loop-class-init g c = lowest-first c.args.self.now _

pub loop-class-preserved : goal.loop-class-preserved
loop-class-preserved g c =
    let classes = c.deref-class-items.result.now in
    let at = c.loop-class.class-index in
    let here = class_is classes at c.class-item.result c.loop-class-test.true c.class-item.is
    ∙ ap (λ cs. get_or cs at no_class) (c.deref-class-items.ensures.value ∙ ap (λ (b : Block). b.classes) c.self.view_is) in
    lowest-next c.args.self.now c.class-item.result at c.loop-class.lowest c.lowest.result c.min-lowest.result here c.min-lowest.ensures c.loop-class.invariant c.lowest.ensures

pub returns : goal.returns
returns g c =
    let over = subst (λ cs. length cs ≤ c.loop-class.class-index) (c.deref-class-items.ensures.value ∙ ap (λ (b : Block). b.classes) c.self.view_is) c.loop-class-test.false in
    lowest-all c.args.self.now c.loop-class.class-index c.loop-class.lowest over c.loop-class.invariant
