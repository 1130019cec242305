use Rattle.std.proofs.Common.{sym, ◌∙◌}
use Rattle.patch_graph.specs.Marks.{is_marked}
use Rattle.patch_graph.proofs.Settling.{largest-from, picked-held}
use Rattle.patch_graph.proofs.ready.mark_ready.Goals as goal

pub settle-requires : goal.settle-requires
settle-requires g c = picked-held c.args.register.now.slots c.args.block c.args.keys.now (is_marked c.pick.new.marks) c.requires.complete (λ key t. sym (c.pick.ensures.picked key) ∙ t)

pub returns-clause-largest : goal.returns-clause-largest
returns-clause-largest g c = largest-from _ _ _ _ _ c.pick.ensures.picked c.settle.ensures.largest

pub returns-clause-held : goal.returns-clause-held
returns-clause-held g c = picked-held c.args.register.now.slots c.args.block c.args.keys.now (is_marked c.settle.new.marks) c.requires.complete
    (λ key t. sym (c.pick.ensures.picked key) ∙ c.settle.ensures.largest.inside key t)
