use Rattle.std.proofs.Common.{ℕ}
use Rattle.patch_model.specs.Runs.{numbers_in}
use Rattle.patch_links.specs.State.{IsInReach}
use Rattle.patch_graph.specs.Naming.{IsNamedBelow}
use Rattle.patch_graph.proofs.runs.widest.Given as goal

abbrev pub invariant-loop-run : goal.invariant-loop-run
invariant-loop-run l = (n : ℕ) → IsInReach l.widest n → IsNamedBelow l.made (numbers_in l.runs) n
