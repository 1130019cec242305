use Rattle.std.proofs.Common.{arith}
use Rattle.patch_stacks.specs.State.{Joint}
use Rattle.patch_stacks.proofs.Joints.{joins-none, joins-some, joins-nowhere}
use Rattle.patch_stacks.proofs.stacks.Stack.join_by.Goals as goal
use Rattle.patch_stacks.proofs.stacks.Stack.join_by.Goals.{else-low-high-via-then-low-high+else-high-len, else-low-high-via-else-low-high}

pub returns-then-high-len-clause-joined : goal.returns-then-high-len-clause-joined
returns-then-high-len-clause-joined g c =
    let drawn : Joint = record { low = c.joint.inside.low; high = c.joint.inside.high; drawn = c.joint.inside.drawn } in
    joins-some c.args.self.now c.join_at.new.self c.args.joint c.in-Some.joint drawn c.in-Some.is c.joint.view_is c.join_at.ensures.joined

pub returns-else-low-high-clause-joined : goal.returns-else-low-high-clause-joined
returns-else-low-high-clause-joined g c =
    let drawn : Joint = record { low = c.joint.inside.low; high = c.joint.inside.high; drawn = c.joint.inside.drawn } in
    joins-nowhere c.args.self.now c.args.joint c.in-Some.joint drawn c.in-Some.is c.joint.view_is (λ less within. elim c.else-low-high.branch [
      | else-low-high-via-then-low-high+else-high-len w ↦ let n = w.if-high-len.false in let l = w.len.ensures in omega arith
      | else-low-high-via-else-low-high w ↦ let n = w.if-low-high.false in omega arith
    ])

pub returns-in_default-clause-joined : goal.returns-in_default-clause-joined
returns-in_default-clause-joined g c = joins-none c.args.self.now c.args.joint c.in_default.is
