use Rattle.std.proofs.Common.{arith}
use Rattle.patch_numbers.proofs.BlockSets.{least_here, none_left, least_found}
use Rattle.patch_numbers.proofs.block_sets.filled_row.Goals as goal

pub returns-in-Some : goal.returns-in-Some
returns-in-Some c = least_here c.args.sheets.now c.args.from c.in-Some.row (omega arith) c.in-Some.ensures

pub returns-in_err-sheet : goal.returns-in_err-sheet
returns-in_err-sheet c = rw c.from_residual.ensures (none_left c.args.top.now c.args.sheets.now c.args.from c.requires c.in_default.ensures c.in_err-sheet.ensures)

pub returns : goal.returns
returns c = least_found c.args.top.now c.args.sheets.now c.args.from c.in_ok-sheet.sheet c.least_in_word-2.result (omega arith) c.requires c.in_default.ensures c.in_ok-sheet.ensures c.least_in_word-2.ensures
