use Rattle.patch_rows.proofs.Standings.{no_rows}
use Rattle.patch_rows.proofs.rows.Rows.new.Goals as goal

pub invariant_of-result : goal.invariant_of-result
invariant_of-result g c = no_rows c.with_hasher.result.entries 0 c.with_hasher.ensures.empty c.with_hasher.ensures.unique
