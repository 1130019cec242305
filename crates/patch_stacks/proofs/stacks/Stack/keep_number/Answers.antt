use Rattle.patch_stacks.proofs.Keeping.{one_more, one_less}
use Rattle.patch_stacks.proofs.stacks.Stack.keep_number.Goals as goal

pub returns-then-not-may_have : goal.returns-then-not-may_have
returns-then-not-may_have g c = one_less c.args.self.now c.args.kept.now.items c.args.no (c.may_have.ensures c.if-not-may_have.true)

pub returns : goal.returns
returns g c = one_more c.args.self.now c.args.kept.now.items c.push.new.self.items c.args.no c.in_ok-push.ensures.added
