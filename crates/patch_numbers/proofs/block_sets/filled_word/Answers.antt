use Rattle.std.proofs.Common.{arith}
use Rattle.patch_numbers.proofs.BlockSets.{least_here, none_left, least_found}
use Rattle.patch_numbers.proofs.block_sets.filled_word.Goals as goal

pub returns-in-Some : goal.returns-in-Some
returns-in-Some c = least_here c.args.rows.now c.args.from c.in-Some.word (omega arith) c.in-Some.ensures

pub returns-in_err-row : goal.returns-in_err-row
returns-in_err-row c = rw c.from_residual.ensures (none_left c.args.sheets.now c.args.rows.now c.args.from c.requires.of_rows c.in_default.ensures c.in_err-row.ensures)

pub returns : goal.returns
returns c = least_found c.args.sheets.now c.args.rows.now c.args.from c.in_ok-row.row c.least_in_word-2.result (omega arith) c.requires.of_rows c.in_default.ensures c.in_ok-row.ensures c.least_in_word-2.ensures
