use Rattle.std.proofs.Common.{subst, ap, ◌∙◌, sym, ◌≡◌, Some, None, List, ℕ}
use Rattle.patch_links.specs.State.{Links, Node, node_at, slots_of}
use Rattle.patch_links.specs.Following.{AreFollowers}
use Rattle.patch_links.proofs.Following.{followers_are, no_followers}
use Rattle.patch_links.proofs.links.Links.followers.Goals as goal

pub returns-in-Some : goal.returns-in-Some
returns-in-Some g c =
    let nodes = c.self.inside.nodes.slots in
    let numbers = c.self.inside.keys.numbers in
    let at : node_at nodes c.args.key ≡ Some c.in-Some.node.now = sym c.in-Some.ensures in
    let is : c.as_slice.result.now ≡ c.in-Some.node.now.followers = c.as_slice.ensures ∙ ap (λ (x : Node). x.followers) c.node.view_is in
    subst (λ (z : Links). AreFollowers z.slots z.numbers c.args.key c.as_slice.result.now) c.self.view_is
    (subst (λ (ns : List ℕ). AreFollowers (slots_of nodes) numbers c.args.key ns) (sym is) (followers_are nodes numbers c.args.key c.in-Some.node.now c.self.invariant.0.members c.self.invariant.0.linked at))

pub returns-in-None : goal.returns-in-None
returns-in-None g c =
    let nodes = c.self.inside.nodes.slots in
    let numbers = c.self.inside.keys.numbers in
    let none : node_at nodes c.args.key ≡ None = sym c.in-None.ensures in
    subst (λ (z : Links). AreFollowers z.slots z.numbers c.args.key _) c.self.view_is (no_followers nodes numbers c.args.key c.self.invariant.0.members none)
