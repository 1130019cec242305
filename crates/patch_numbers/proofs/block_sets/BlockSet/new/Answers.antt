use Rattle.std.proofs.Common.{refl, [], replicate, arith}
use Rattle.patch_numbers.proofs.BlockSets.{nothing_above}
use Rattle.patch_numbers.proofs.block_sets.BlockSet.new.Goals as goal

pub invariant_of-result : goal.invariant_of-result
invariant_of-result g c = rw (c.new.ensures.items, c.new-2.ensures.items) (record {
  few_words = omega arith;
  few_rows = omega arith;
  covered = omega arith;
  of_words = nothing_above [] [] refl refl;
  of_rows = nothing_above (replicate 64 0) [] refl refl;
  of_sheets = nothing_above (replicate 1 0) (replicate 64 0) refl refl;
})
