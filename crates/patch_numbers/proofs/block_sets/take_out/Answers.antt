use Rattle.std.proofs.Common.{arith}
use Rattle.patch_numbers.proofs.BlockSets.{is_taken_out, none_beyond, none_set}
use Rattle.patch_numbers.proofs.block_sets.take_out.Goals as goal

pub returns-then-place-words-clause-taken : goal.returns-then-place-words-clause-taken
returns-then-place-words-clause-taken c = none_beyond c.args.words.now c.args.number (omega arith)

pub returns-then-was-bit-eq0-clause-taken : goal.returns-then-was-bit-eq0-clause-taken
returns-then-was-bit-eq0-clause-taken c = none_set c.args.words.now c.args.number c.if-was-bit-eq0.true

pub returns-clause-taken : goal.returns-clause-taken
returns-clause-taken c = is_taken_out c.args.words.now c.args.number (omega arith)
