use Rattle.std.proofs.Common.{ℕ, ◌≡◌, ◌+◌, ◌∙◌, ap, subst}
use Rattle.patch_links.specs.State.{Class, Links, slots_of}
use Rattle.patch_links.specs.Adding.{IsAdded, HasPut}
use Rattle.patch_links.proofs.Rooms.{below-roomier}
use Rattle.patch_links.proofs.links.Links.add.Goals as goal

pub invariant_of-self : goal.invariant_of-self
invariant_of-self g c = (c.add.ensures.stands, below-roomier c.self.inside.made c.self.inside.nodes.slots c.add.new.nodes.slots c.in_err-key.ensures.refused c.self.invariant.1)

pub returns-clause-added : goal.returns-clause-added
returns-clause-added g c =
    let now : Links = record { made = c.from-made.result + 1; slots = slots_of c.add.new.nodes.slots; next = c.add.new.nodes.vacant_key; numbers = c.add.new.keys.numbers } in
    let p : HasPut (slots_of c.self.inside.nodes.slots) (slots_of c.add.new.nodes.slots) c.self.inside.keys.numbers c.add.new.keys.numbers c.in_ok-key.key c.args.class = c.in_ok-key.ensures.put in
    let made : now.made ≡ c.args.class.name + 1 = ap (λ (n : ℕ). n + 1) c.from-made.ensures ∙ ap (λ z. z.name + 1) c.class-inside.view_is ∙ ap (λ (z : Class). z.name + 1) c.class.view_is in
    subst (λ (z : Links). IsAdded z now c.in_ok-key.key c.args.class) c.self.view_is
    (record { made = made; next = c.in_ok-key.ensures.next; vacant = p.vacant; here = p.here; others = p.others; number = p.number; rest = p.rest })
