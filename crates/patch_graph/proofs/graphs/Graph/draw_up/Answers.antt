use Rattle.std.proofs.Common.{ap, subst, ◌∙◌, ℕ}
use Rattle.patch_model.specs.Names.{numbers_named}
use Rattle.patch_graph.specs.State.{Graph}
use Rattle.patch_graph.specs.Adding.{IsDrawnUp, is_hard, new_class}
use Rattle.patch_graph.proofs.Entered.{drawn-up, may-be-put-in}
use Rattle.patch_graph.proofs.OneMore.{tells}
use Rattle.patch_graph.proofs.graphs.Graph.draw_up.Goals as goal

pub returns-clause-drawn : goal.returns-clause-drawn
returns-clause-drawn g c =
    let named = numbers_named c.args.after in
    subst (λ (x : Graph). IsDrawnUp x c.args.block c.args.start c.args.stop c.args.undo named c.of.result) c.self.view_is
    (drawn-up c.self.inside.register c.args.block c.args.start c.args.stop named c.in_ok-deps.deps.items c.reach_of-reach.result c.args.undo c.is_hard-hard.result c.of.result
    c.in_ok-deps.ensures c.reach_of-reach.ensures (c.is_hard-hard.ensures ∙ ap (is_hard c.self.inside.register.slots c.self.inside.register.numbers c.args.block c.args.undo) c.as_slice.ensures)
    (c.of.ensures ∙ c.alone-class.ensures ∙ ap (λ (n : ℕ). new_class n c.args.block c.args.start c.args.stop c.in_ok-deps.deps.items c.reach_of-reach.result c.is_hard-hard.result) c.made.ensures))

pub returns-clause-answer : goal.returns-clause-answer
returns-clause-answer g c all p r is orderly =
    let d = returns-clause-drawn g c in
    tells c.args.self.now all p c.args.block c.args.start c.args.stop (numbers_named c.args.after) c.args.undo c.of.result r is orderly d

pub returns-clause-next : goal.returns-clause-next
returns-clause-next g c =
    may-be-put-in c.args.self.now c.args.block c.args.start c.args.stop (numbers_named c.args.after) c.args.undo c.of.result c.requires (returns-clause-drawn g c)
