use Rattle.std.proofs.Common.{◌≤◌, ◌+◌, sym, length, arith}
use Rattle.std.proofs.lemmas.Bool.{le-ltb}
use Rattle.patch_model.specs.Runs.{numbers_in}
use Rattle.patch_numbers.proofs.Ranges.{count-more, count-take}
use Rattle.patch_numbers.proofs.runs.have_fewer.Goals as goal

pub returns-then-left-but_one : goal.returns-then-left-but_one
returns-then-left-but_one c =
    let rs = c.args.runs.now in
    let i = c.loop-run.run-index in
    let more = count-more rs i (record { first = 0; last = 0 }) c.loop-run-test.true in
    let all = count-take rs (i + 1) in
    let many : c.args.than ≤ length (numbers_in rs) =
    omega (arith, more, all, c.loop-run.invariant, c.if-left-but_one.true, c.saturating_sub-but_one.ensures) in
    sym (le-ltb (length (numbers_in rs)) c.args.than many)

pub loop-run-preserved : goal.loop-run-preserved
loop-run-preserved c =
    let rs = c.args.runs.now in
    let i = c.loop-run.run-index in
    let more = count-more rs i (record { first = 0; last = 0 }) c.loop-run-test.true in
    omega (arith, more, c.loop-run.invariant, c.if-left-but_one.false, c.saturating_sub-but_one.ensures)
