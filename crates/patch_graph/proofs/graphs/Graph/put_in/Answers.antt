use Rattle.std.proofs.Common.{◌+◌, ◌<◌, ◌∙◌, subst, sym, ap}
use Rattle.patch_links.specs.State.{Class}
use Rattle.patch_links.specs.Adding.{IsNew}
use Rattle.patch_model.specs.declared.limits.TheConstants.{MAX_PATCHES}
use Rattle.patch_graph.specs.State.{Graph}
use Rattle.patch_graph.specs.Adding.{IsAdded}
use Rattle.patch_graph.proofs.OneMore.{puts-in}
use Rattle.patch_graph.proofs.Places.{done-if, err-still}
use Rattle.patch_graph.proofs.graphs.Graph.put_in.Goals as goal

pub returns-clause-answer : goal.returns-clause-answer
returns-clause-answer g c all p block start stop after undo d r is orderly =
    puts-in c.args.self.now c.insert.new.register all p block start stop after undo c.in_ok-insert.field-0 c.args.newcomer r is orderly d
    (subst (λ (z : Class). IsAdded c.args.self.now c.insert.new.register c.in_ok-insert.field-0 z) c.into_class-class.ensures
    (subst (λ (x : Graph). IsAdded x c.insert.new.register c.in_ok-insert.field-0 c.into_class-class.result) c.self.view_is c.in_ok-insert.ensures.inserted))

pub insert-requires-clause-numbers : goal.insert-requires-clause-numbers
insert-requires-clause-numbers g c = subst (λ (x : Graph). x.made < MAX_PATCHES) (sym c.self.view_is) c.requires.numbers

pub insert-requires-clause-some : goal.insert-requires-clause-some
insert-requires-clause-some g c = subst (λ (z : Class). z.start < z.stop) (sym c.into_class-class.ensures) c.requires.next.some

pub insert-requires-clause-name : goal.insert-requires-clause-name
insert-requires-clause-name g c = ap (λ (z : Class). z.name) c.into_class-class.ensures ∙ c.requires.next.number ∙ ap (λ (x : Graph). x.made) (sym c.self.view_is)

pub insert-requires-clause-new : goal.insert-requires-clause-new
insert-requires-clause-new g c =
    subst (λ (x : Graph). IsNew x.made c.into_class-class.result) (sym c.self.view_is) (subst (IsNew c.args.self.now.made) (sym c.into_class-class.ensures) c.requires.next.new)

pub returns-clause-made : goal.returns-clause-made
returns-clause-made g c = c.in_ok-insert.ensures.inserted.made ∙ ap (λ (x : Graph). x.made + 1) c.self.view_is

pub invariant_of-self : goal.invariant_of-self
invariant_of-self g c = c.insert.ensures.fit c.self.invariant

pub returns-in_err-insert-clause-answer : goal.returns-in_err-insert-clause-answer
returns-in_err-insert-clause-answer g c = done-if _ _ c.from_residual.ensures.0

pub returns-in_err-insert-clause-made : goal.returns-in_err-insert-clause-made
returns-in_err-insert-clause-made g c = done-if _ _ c.from_residual.ensures.0

pub returns-in_err-insert-clause-refused : goal.returns-in_err-insert-clause-refused
returns-in_err-insert-clause-refused g c = err-still _ _ (c.in_err-insert.ensures.refused ∙ c.self.view_is)

pub invariant_of-self-2 : goal.invariant_of-self-2
invariant_of-self-2 g c = c.insert.ensures.fit c.self.invariant
