use Rattle.std.proofs.Common.{◌≤◌, ◌∙◌, List, ℕ, length, get_or, ap, sym, subst}
use Rattle.patch_model.specs.Runs.{numbers_in}
use Rattle.patch_stacks.specs.State.{Block}
use Rattle.patch_records.specs.Records.{no_class}
use Rattle.patch_images.proofs.Baring.{class_is}
use Rattle.patch_stacks.proofs.Keeping.{KeepsUpto, upto_none, upto_next, upto_all}
use Rattle.patch_stacks.proofs.stacks.Stack.kept_by_member.Goals as goal

pub loop-class-init : goal.loop-class-init
loop-class-init g c =
    let named = numbers_in c.args.runs.now in
    subst (λ (ns : List ℕ). KeepsUpto c.args.self.now named 0 ns) (sym c.in_ok-kept.ensures) (upto_none c.args.self.now named)

pub keep_members-requires : goal.keep_members-requires
keep_members-requires g c = c.run_around-around.ensures

pub loop-class-preserved : goal.loop-class-preserved
loop-class-preserved g c =
    let classes = c.deref-class-items.result.now in
    let at = c.loop-class.class-index in
    let here = class_is classes at c.class-item.result c.loop-class-test.true c.class-item.is
    ∙ ap (λ cs. get_or cs at no_class) (c.deref-class-items.ensures.value ∙ ap (λ (b : Block). b.classes) c.self.view_is) in
    upto_next c.args.self.now (numbers_in c.args.runs.now) at c.class-item.result c.loop-class.kept.items c.keep_members.new.kept.items here c.loop-class.invariant
    c.in_ok-keep_members.ensures

pub returns : goal.returns
returns g c =
    let over = subst (λ cs. length cs ≤ c.loop-class.class-index) (c.deref-class-items.ensures.value ∙ ap (λ (b : Block). b.classes) c.self.view_is) c.loop-class-test.false in
    upto_all c.args.self.now (numbers_in c.args.runs.now) c.loop-class.class-index c.loop-class.kept.items over c.loop-class.invariant
