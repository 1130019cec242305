use Rattle.std.proofs.Common.{subst, arith}
use Rattle.patch_stacks.specs.State.{Block, KnownApart}
use Rattle.patch_stacks.proofs.Apart.{missed_between, missed_below}
use Rattle.patch_stacks.proofs.stacks.Stack.is_missed.Goals as goal

pub returns-then-is_below : goal.returns-then-is_below
returns-then-is_below g c on i =
    let a : KnownApart c.self.inside.members c.args.self.now.classes = subst (λ (b : Block). KnownApart c.self.inside.members b.classes) c.self.view_is c.self.invariant.2 in
    missed_between c.args.self.now c.self.inside.members c.in-Some.at c.args.no a c.if-not-self.false (omega (arith, c.if-self-no.false)) c.in-Some.ensures (c.is_below.ensures c.if-is_below.true) (c.is_above.ensures on) i

pub returns-in-None : goal.returns-in-None
returns-in-None g c on i =
    let a : KnownApart c.self.inside.members c.args.self.now.classes = subst (λ (b : Block). KnownApart c.self.inside.members b.classes) c.self.view_is c.self.invariant.2 in
    missed_below c.args.self.now c.self.inside.members c.args.no a c.if-not-self.false (omega (arith, c.if-self-no.false)) (c.is_above-in-None.ensures on) i
