use Rattle.std.proofs.Common.{◌∙◌}
use Rattle.patch_shared.proofs.Joined.{not_failed, joined_more}
use Rattle.patch_shared.proofs.crew.gathered.Goals as goal

pub loop-one-preserved : goal.loop-one-preserved
loop-one-preserved g c =
    joined_more (λ list. list.len) c.loop-one.lists.items c.push.new.self.items c.in-Some.one.replies c.loop-one.yielded c.in-Some.one _ c.loop-one.lists.len
    c.push.new.self.len c.args.all.now.parts c.loop-one.all.parts c.merge.new.self.parts c.into_share.result.parts c.args.all.now.amount c.loop-one.all.amount
    c.merge.new.self.amount c.into_share.result.amount (not_failed c.push.result c.is_err.result c.is_err.ensures.value c.if-is_err.false)
    c.push.ensures.items c.push.ensures.len c.loop-one.invariant c.merge.ensures.parts c.into_share.ensures.0 c.merge.ensures.amount
    (c.into_share.ensures.1 ∙ c.in-Some.one.counted)

pub returns-clause-amount : goal.returns-clause-amount
returns-clause-amount g c = c.loop-one.invariant.2
