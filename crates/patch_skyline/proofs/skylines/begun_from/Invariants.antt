use Rattle.std.proofs.Common.{length, ◌-◌, ◌<◌, ◌≤◌}
use Rattle.std.specs.List.{AllWithin}
use Rattle.patch_skyline.proofs.skylines.begun_from.Given as goal

abbrev pub invariant-loop-last : goal.invariant-loop-last
invariant-loop-last l = record {
  within : l.last ≤ length l.spans;
  begun : AllWithin (λ s. s.start < l.fn.at) l.spans 0 l.last;
}

abbrev pub decreases-loop-last : goal.decreases-loop-last
decreases-loop-last l = length l.spans - l.last
