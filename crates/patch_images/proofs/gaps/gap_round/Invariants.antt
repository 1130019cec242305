use Rattle.std.proofs.Common.{length, ◌≤◌}
use Rattle.patch_images.specs.Gaps.{IsRound, AreBeside}
use Rattle.patch_images.proofs.gaps.gap_round.Given as goal

abbrev pub invariant-loop-other : goal.invariant-loop-other
invariant-loop-other g l = record {
  round : IsRound l.gap l.start l.stop;
  beside : AreBeside l.classes l.at l.other l.gap.start l.gap.stop;
  within : l.other ≤ length l.classes;
}
