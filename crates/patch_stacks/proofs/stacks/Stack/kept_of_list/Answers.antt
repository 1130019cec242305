use Rattle.std.proofs.Common.{[], List, ℕ, sym, subst}
use Rattle.patch_stacks.specs.State.{KeepsNames}
use Rattle.patch_stacks.proofs.Naming.{keeps_none}
use Rattle.patch_stacks.proofs.stacks.Stack.kept_of_list.Goals as goal

pub loop-no-init : goal.loop-no-init
loop-no-init g c = subst (λ (ns : List ℕ). KeepsNames c.args.self.now [] ns) (sym c.in_ok-kept.ensures) (keeps_none c.args.self.now)
