use Rattle.std.proofs.Common.{◌∙◌, sym, subst}
use Rattle.patch_stacks.specs.State.{Block, KnownApart}
use Rattle.patch_stacks.proofs.Apart.{none_above, none_has, not_some}
use Rattle.patch_stacks.proofs.stacks.Stack.may_have.Goals as goal

pub returns-then-are_below : goal.returns-then-are_below
returns-then-are_below g c off i =
    let a : KnownApart c.self.inside.members c.args.self.now.classes = subst (λ (b : Block). KnownApart c.self.inside.members b.classes) c.self.view_is c.self.invariant.2 in
    none_above c.args.self.now c.self.inside.members c.args.no a (sym c.are_below.ensures ∙ c.if-are_below.true) i

pub returns-else-len-gt-FEW : goal.returns-else-len-gt-FEW
returns-else-len-gt-FEW g c off i =
    let e = c.place_by_asking.ensures in
    none_has c.args.self.now c.args.no (sym e ∙ not_some c.place_by_asking.result (sym c.is_some-else-len-gt-FEW.ensures ∙ off)) i
