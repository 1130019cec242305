use Rattle.patch_model.specs.Names.{numbers_named}
use Rattle.patch_stacks.proofs.Naming.{keeps_sorted}
use Rattle.patch_stacks.proofs.stacks.Stack.names_of.Goals as goal

pub returns-clause-kept : goal.returns-clause-kept
returns-clause-kept g c = keeps_sorted c.args.self.now (numbers_named c.args.after) c.in_ok-kept.kept.items c.sort.new.self.items c.in_ok-kept.ensures c.sort.ensures.same
