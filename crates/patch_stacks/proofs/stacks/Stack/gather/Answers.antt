use Rattle.std.proofs.Common.{◌≡◌, arith, subst}
use Rattle.patch_stacks.specs.Rearranged.{IsGathered}
use Rattle.patch_stacks.proofs.Rearranging.{gathered-none, gathered-met, gathered-run}
use Rattle.patch_stacks.proofs.stacks.Stack.gather.Goals as goal

pub loop-k-init : goal.loop-k-init
loop-k-init g c = let less = c.requires.less in (gathered-none c.args.self.now c.args.low, omega (arith, less))

pub loop-k-preserved-then-stop-k : goal.loop-k-preserved-then-stop-k
loop-k-preserved-then-stop-k g c =
    let less = c.loop-k-test.true in (
      gathered-met c.args.self.now c.loop-k.self c.args.low c.args.high c.loop-k.front c.loop-k.k c.run_end-stop.result c.loop-k.invariant.0 c.run_end-stop.ensures c.if-stop-k.true,
      omega (arith, less),
    )

pub loop-k-preserved : goal.loop-k-preserved
loop-k-preserved g c =
    let e = c.move_run_down.ensures in (
      rw e (gathered-run c.args.self.now c.loop-k.self c.args.low c.args.high c.loop-k.front c.loop-k.k c.run_end-stop.result c.requires.within c.loop-k.invariant.0 c.run_end-stop.ensures),
      c.run_end-stop.ensures.upto,
    )

pub returns : goal.returns
returns g c =
    let over = c.loop-k-test.false in
    let upto = c.loop-k.invariant.1 in
    let is : c.loop-k.k ≡ c.args.high = omega arith in
    subst (λ k. IsGathered c.args.self.now c.loop-k.self c.args.low c.loop-k.front k) is c.loop-k.invariant.0
