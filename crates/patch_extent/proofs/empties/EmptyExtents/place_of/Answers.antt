use Rattle.std.proofs.Common.{rules, of_calls, ◌∙◌, subst}
use Rattle.std.specs.Prelude.{nat_lt}
use Rattle.std.proofs.lemmas.Fn.{always_returns_same}
use Rattle.patch_extent.proofs.Rising.{Point, parted, point_of}
use Rattle.patch_extent.proofs.empties.EmptyExtents.place_of.Goals as goal

pub returns-clause-place : goal.returns-clause-place
returns-clause-place g c test count is =
    let extent = c.args.extent in
    let same = c.as_slice.ensures ∙ c.self.view_is in
    let point = c.partition_point.ensures.partitioned (λ e. nat_lt e extent) (always_returns_same _ _ _ (λ a r f k. search (rules, of_calls)))
    (parted c.as_slice.result.now test count extent (same ∙ is)) in
    subst (λ xs. Point xs extent c.partition_point.result) same (point_of c.as_slice.result.now extent c.partition_point.result point)
