use Rattle.std.specs.Prelude.{ℕ, false, ◌≡◌, ◌<◌}
use Rattle.patch_extent.specs.Opening.{is_bad_record}
use Rattle.patch_extent.proofs.extents.has_bad_record.Given as goal

abbrev pub invariant-loop-extent : goal.invariant-loop-extent
invariant-loop-extent l = (e : ℕ) → e < l.extent → is_bad_record l.geometry l.block e ≡ false
