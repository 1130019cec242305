use Rattle.std.proofs.Common.{◌∙◌, sym, arith}
use Rattle.patch_index.proofs.Comparing.{lengths_decide}
use Rattle.patch_index.proofs.searching.compare_keys.Goals as goal

pub returns : goal.returns
returns c =
    let common = c.min-common.ensures in
    let below = c.loop-at.auto.at-end in
    let past = c.loop-at-test.false in
    c.cmp-2.ensures ∙ sym (c.loop-at.invariant ∙ lengths_decide c.args.own.now c.args.other.now c.loop-at.at (omega arith) (omega arith) (omega arith))
