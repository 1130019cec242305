use Rattle.std.proofs.Common.{◌≤◌, All}
use Rattle.patch_model.specs.declared.blocks.TheConstants.{BLOCK}
use Rattle.patch_model.specs.Pile.{end}
use Rattle.patch_view_tests.proofs.tests.walks.patches_of.Given as goal

abbrev pub invariant-loop-line : goal.invariant-loop-line
invariant-loop-line g l = All (λ p. end p ≤ BLOCK) l.patches.items
