use Rattle.std.proofs.Common.{◌-◌, subst, sym, arith}
use Rattle.patch_model.specs.Runs.{numbers_of}
use Rattle.patch_graph.specs.Naming.{HasWalked, IsNamedBelow}
use Rattle.patch_graph.proofs.Naming.{walk-begun, walk-jumped, walk-listed, walk-ended, numbers-In, In-numbers}
use Rattle.patch_graph.proofs.Places.{done-if}
use Rattle.patch_graph.proofs.runs.push_run.Goals as goal

pub loop-next-init : goal.loop-next-init
loop-next-init g c =
    let seen = c.args.register.now in
    let end = c.end_of-next.ensures in
    let made = c.made.ensures in
    record {
      within = omega (arith, end, made);
      walked = subst (λ z. HasWalked seen.slots seen.numbers (IsNamedBelow seen.made (numbers_of c.args.run)) c.end_of-next.result z c.args.all.now.items c.args.all.now.items) (sym c.none-skip.ensures)
          (walk-begun seen.slots seen.numbers (IsNamedBelow seen.made (numbers_of c.args.run)) c.end_of-next.result c.args.all.now.items
          (λ n k. let within = (numbers-In c.args.run n k.0).1 in let low = k.1 in omega (arith, end, made, within, low)));
    }

pub loop-next-preserved-then-is_in : goal.loop-next-preserved-then-is_in
loop-next-preserved-then-is_in g c =
    let seen = c.args.register.now in
    let now = c.loop-next in
    let below = c.loop-next-test.true in
    let within = now.invariant.within in
    let inside = c.is_in.ensures c.if-is_in.true in
    let low = inside.0 in
    record {
      within = omega (arith, within, low, below);
      walked = subst (λ z. HasWalked seen.slots seen.numbers (IsNamedBelow seen.made (numbers_of c.args.run)) now.skip.from z c.args.all.now.items now.all.items) (sym c.none-skip-then-is_in.ensures)
          (walk-jumped seen.slots seen.numbers (IsNamedBelow seen.made (numbers_of c.args.run)) now.next (now.next - 1) now.skip c.args.all.now.items now.all.items (omega (arith, below)) inside.0 inside.1 now.invariant.walked);
    }

pub loop-next-preserved : goal.loop-next-preserved
loop-next-preserved g c =
    let seen = c.args.register.now in
    let now = c.loop-next in
    let below = c.loop-next-test.true in
    let within = now.invariant.within in
    let first = c.max-first.ensures in
    let least = c.min.ensures in
    record {
      within = omega (arith, within, below);
      walked = walk-listed seen.slots seen.numbers (IsNamedBelow seen.made (numbers_of c.args.run)) now.next (now.next - 1) now.skip c.in_ok-reach.reach c.wider-skip.result
          c.args.all.now.items now.all.items c.push_live.new.all.items (omega (arith, below))
          (In-numbers c.args.run (now.next - 1) (omega (arith, below, first, least)) (omega (arith, within, below)), omega (arith, within, below))
          c.wider-skip.ensures now.invariant.walked c.in_ok-reach.ensures;
    }

pub returns-in_err-reach : goal.returns-in_err-reach
returns-in_err-reach g c = done-if _ _ c.from_residual.ensures.0

pub returns : goal.returns
returns g c =
    let seen = c.args.register.now in
    walk-ended seen.slots seen.numbers (IsNamedBelow seen.made (numbers_of c.args.run)) c.loop-next.next c.loop-next.skip c.args.all.now.items c.loop-next.all.items c.loop-next.invariant.walked
    (λ n k below. let within = (numbers-In c.args.run n k.0).0 in c.lowest-lowest.ensures n (omega (arith, within, below, c.loop-next-test.false, c.max-first.ensures, c.min.ensures)))
