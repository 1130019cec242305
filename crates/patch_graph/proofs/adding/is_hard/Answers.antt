use Rattle.patch_graph.proofs.adding.is_hard.Goals as goal

pub returns-in-MayDrop : goal.returns-in-MayDrop
returns-in-MayDrop g c = rw c.in-MayDrop.is c.let_drop.ensures
