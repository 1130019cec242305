use Rattle.std.proofs.Common.{ℕ, arith, subst}
use Rattle.patch_model.specs.Runs.{numbers_in}
use Rattle.patch_links.specs.State.{IsInReach}
use Rattle.patch_graph.specs.Naming.{IsNamedBelow}
use Rattle.patch_graph.proofs.runs.reach_of.Goals as goal

pub returns-in-Listed : goal.returns-in-Listed
returns-in-Listed g c n i = let high = (subst (λ z. IsInReach z n) c.none.ensures i).1 in absurd (omega (arith, high))

pub returns-in-InRuns : goal.returns-in-InRuns
returns-in-InRuns g c n i = rw c.in-InRuns.is (subst (λ (m : ℕ). IsNamedBelow m (numbers_in c.in-InRuns.runs.now) n) c.made.ensures (c.widest.ensures n i))
