use Rattle.patch_disks.specs.Surveying.{AreBad}
use Rattle.patch_disks.proofs.surveying.survey_blocks.Given as goal

-- the slots so far are wrong, and what is left is left without them
abbrev pub invariant-loop : goal.invariant-loop
invariant-loop l = AreBad l.fn.blocks.items l.bad.items l.left.items
