use Rattle.std.proofs.Common.{ap}
use Rattle.patch_stacks.specs.State.{has_places}
use Rattle.patch_stacks.proofs.Joints.{one_class}
use Rattle.patch_view.proofs.states.BlockState.join.Goals as goal

pub returns-clause-answer : goal.returns-clause-answer
returns-clause-answer g c h e f r p q may = c.join_by.ensures.answer h c.args.a c.args.b e f c.in_ok-joint.ensures r p q may

pub returns-clause-one_class : goal.returns-clause-one_class
returns-clause-one_class g c none =
    c.join_by.ensures.elsewhere (ap (has_places c.args.self.now) (one_class c.args.self.now c.args.a c.args.b c.in_ok-joint.joint c.in_ok-joint.ensures none))
