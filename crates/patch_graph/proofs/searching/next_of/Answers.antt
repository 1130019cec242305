use Rattle.std.proofs.Common.{subst, sym, ap, ◌∙◌, ◌≡◌, List, ℕ, Some}
use Rattle.patch_links.specs.State.{Class, class_at}
use Rattle.patch_graph.specs.Search.{AreNext}
use Rattle.patch_graph.proofs.Going.{next_class}
use Rattle.patch_graph.proofs.searching.next_of.Goals as goal

pub returns-in-Some : goal.returns-in-Some
returns-in-Some g c =
    let at : class_at c.args.register.now.slots c.args.key ≡ Some c.in-Some.class.now = sym c.in-Some.ensures in
    let is : c.as_slice.result.now ≡ c.in-Some.class.now.after = c.as_slice.ensures ∙ ap (λ (x : Class). x.after) c.class.view_is in
    subst (λ (ns : List ℕ). AreNext c.args.register.now.slots c.args.register.now.numbers c.args.way c.args.key ns) (sym is)
    (next_class _ _ c.args.way c.args.key c.in-Some.class.now c.in_default.not-Up at)
