use Rattle.patch_rows.proofs.Standings.{none_kept, no_rows}
use Rattle.patch_rows.proofs.rows.Rows.of.Goals as goal

pub returns : goal.returns
returns g c = none_kept c.with_hasher.result.entries c.args.count c.with_hasher.ensures.empty

pub invariant_of-result : goal.invariant_of-result
invariant_of-result g c = no_rows c.with_hasher.result.entries c.args.count c.with_hasher.ensures.empty c.with_hasher.ensures.unique
