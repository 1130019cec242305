use Rattle.std.proofs.Common.{◌≡◌, ℕ, ◌-◌, ◌+◌, ◌<◌, ◌≤◌, ◌∙◌, suc, sym, subst, arith}
use Rattle.patch_stacks.proofs.Landing.{IsLandedTo, start_landing, one_landed, none_landed, all_landed}
use Rattle.patch_stacks.proofs.stacks.Stack.land_within.Goals as goal
use Rattle.patch_stacks.proofs.stacks.Stack.land_within.Goals.{then-is_flying_at, else-is_flying_at}

pub loop-passed-init : goal.loop-passed-init
loop-passed-init g c = start_landing c.args.self.now c.args.flying c.requires.range.1 c.requires.within

pub loop-passed-preserved : goal.loop-passed-preserved
loop-passed-preserved g c =
    let left : c.loop-passed.passed < c.args.flying.to - c.args.flying.from = (let t = c.loop-passed-test.true in let e = c.loop-passed.auto.passed-end in omega arith) in
    let less : c.args.flying.to - 1 - c.loop-passed.passed < c.args.flying.to - c.loop-passed.passed = omega arith in
    let next : c.args.flying.to - c.loop-passed.passed ≡ suc (c.args.flying.to - 1 - c.loop-passed.passed) = omega arith in
    let new : c.args.flying.to - 1 - c.loop-passed.passed ≡ c.args.flying.to - (c.loop-passed.passed + 1) = omega arith in
    let is = c.is_flying_at.ensures in
    subst (λ (z : ℕ). IsLandedTo c.args.self.now c.if-is_flying_at.self c.args.flying.from z) new (elim c.if-is_flying_at.branch [
      | then-is_flying_at w ↦
          let e = w.self-is ∙ w.land_at.ensures in
          subst (λ z. IsLandedTo c.args.self.now z c.args.flying.from (c.args.flying.to - 1 - c.loop-passed.passed)) (sym e)
          (one_landed c.args.self.now c.loop-passed.self c.args.flying.from _ _ less next (sym is ∙ w.if-is_flying_at.true) c.loop-passed.invariant)
      | else-is_flying_at w ↦
          subst (λ z. IsLandedTo c.args.self.now z c.args.flying.from (c.args.flying.to - 1 - c.loop-passed.passed)) (sym w.self-is)
          (none_landed c.args.self.now c.loop-passed.self c.args.flying.from _ _ less next (sym is ∙ w.if-is_flying_at.false) c.loop-passed.invariant)
    ])

pub returns : goal.returns
returns g c =
    let over : c.args.flying.to - c.loop-passed.passed ≤ c.args.flying.from = (let t = c.loop-passed-test.false in let e = c.loop-passed.auto.passed-end in omega arith) in
    c.self.view_is ∙ all_landed c.args.self.now c.loop-passed.self c.args.flying.from _ over c.loop-passed.invariant
