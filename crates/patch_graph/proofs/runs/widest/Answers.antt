use Rattle.std.proofs.Common.{arith, subst}
use Rattle.patch_model.specs.Runs.{numbers_in}
use Rattle.patch_model.specs.declared.runs.Run.{Run}
use Rattle.patch_links.specs.State.{IsInReach}
use Rattle.patch_graph.specs.Naming.{IsNamedBelow}
use Rattle.patch_graph.proofs.Naming.{In-numbers_in, either-reach}
use Rattle.patch_graph.proofs.runs.widest.Goals as goal

pub loop-run-init : goal.loop-run-init
loop-run-init c n i = let high = (subst (λ z. IsInReach z n) c.none-widest.ensures i).1 in absurd (omega (arith, high))

pub loop-run-preserved : goal.loop-run-preserved
loop-run-preserved c =
    let runs = c.args.runs.now in
    let d : Run = record { first = 0; last = 0 } in
    either-reach (λ n. IsNamedBelow c.args.made (numbers_in runs) n) c.loop-run.widest c.reach_of_run.result c.wider-widest.result c.wider-widest.ensures c.loop-run.invariant
    (λ n i. let k = c.reach_of_run.ensures n i in (In-numbers_in runs c.loop-run.run-index d n c.loop-run-test.true k.0, k.1))
