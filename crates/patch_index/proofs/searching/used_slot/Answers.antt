use Rattle.std.proofs.Common.{◌+◌, ◌-◌, ◌/◌, ◌<◌, ◌≤◌, ◌≡◌, get_or, subst, refl, arith}
use Rattle.patch_index.proofs.Counted.{steep}
use Rattle.patch_index.proofs.searching.used_slot.Goals as goal

pub loop-low-preserved-then-empty-middle : goal.loop-low-preserved-then-empty-middle
loop-low-preserved-then-empty-middle c =
    let xs = c.args.empty.now in
    let low = c.loop-low.low in
    let high = c.loop-low.high in
    let middle = low + (high - low) / 2 in
    let some = c.loop-low-test.true in
    let inside : middle < high = omega (arith, some) in
    let upto = c.loop-low.invariant.1 in
    let is = c.if-empty-middle.true in (
      omega (arith, inside),
      upto,
      λ i less.
          let e : i + (middle - i) ≡ middle = omega (arith, less) in
          let up = subst (λ j. get_or xs i 0 + (middle - i) ≤ get_or xs j 0) e (steep xs c.requires i (middle - i) (omega (arith, e, inside, upto))) in
          omega (arith, up, is, e),
      c.loop-low.invariant.3,
    )

pub loop-low-preserved : goal.loop-low-preserved
loop-low-preserved c =
    let xs = c.args.empty.now in
    let low = c.loop-low.low in
    let high = c.loop-low.high in
    let middle = low + (high - low) / 2 in
    let some = c.loop-low-test.true in
    let inside : middle < high = omega (arith, some) in
    let upto = c.loop-low.invariant.1 in
    let is = c.if-empty-middle.false in (
      omega arith,
      omega (arith, inside, upto),
      c.loop-low.invariant.2,
      λ i from within.
          let e : middle + (i - middle) ≡ i = omega (arith, from) in
          let up = subst (λ j. get_or xs middle 0 + (i - middle) ≤ get_or xs j 0) e (steep xs c.requires middle (i - middle) (omega (arith, e, within))) in
          omega (arith, up, is, e),
    )

pub returns : goal.returns
returns c =
    let end = c.loop-low-test.false in record {
      count = c.loop-low.low;
      is = refl;
      within = let l = c.loop-low.invariant.0 in let h = c.loop-low.invariant.1 in omega (arith, l, h);
      below = λ i less. let b = c.loop-low.invariant.2 i less in omega (arith, b, less);
      above = λ i from inside. let a = c.loop-low.invariant.3 i (omega (arith, from, end)) inside in omega (arith, a, from);
    }
