use Rattle.std.proofs.Common.{refl, arith}
use Rattle.patch_numbers.proofs.BlockSets.{longer_above}
use Rattle.patch_numbers.proofs.block_sets.BlockSet.reserve.Goals as goal

pub invariant_of-self : goal.invariant_of-self
invariant_of-self g c =
    let was = c.self.invariant in
    let rows = c.lengthen.ensures in record {
      few_words = was.few_words;
      few_rows = omega arith;
      covered = omega arith;
      of_words = longer_above _ _ _ _ was.of_words rows.kept (λ place. refl);
      of_rows = longer_above _ _ _ _ was.of_rows (λ place. refl) rows.kept;
      of_sheets = was.of_sheets;
    }

pub invariant_of-self-2 : goal.invariant_of-self-2
invariant_of-self-2 g c =
    let was = c.self.invariant in
    let rows = c.lengthen.ensures in
    let words = c.lengthen-2.ensures in
    let room = c.in_ok-lengthen.ensures.room in record {
      few_words = omega arith;
      few_rows = omega arith;
      covered = omega arith;
      of_words = longer_above _ _ _ _ was.of_words rows.kept words.kept;
      of_rows = longer_above _ _ _ _ was.of_rows (λ place. refl) rows.kept;
      of_sheets = was.of_sheets;
    }
