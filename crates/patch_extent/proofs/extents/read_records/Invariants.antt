use Rattle.patch_extent.specs.Opening.{AreRecords}
use Rattle.patch_extent.proofs.extents.read_records.Given as goal

abbrev pub invariant-loop-extent : goal.invariant-loop-extent
invariant-loop-extent g l = AreRecords l.geometry l.block l.each.items l.extent
