use Rattle.std.proofs.Common.{subst, sym}
use Rattle.patch_links.specs.State.{Links}
use Rattle.patch_graph.specs.Skyline.{lines_of, trimmed}
use Rattle.patch_graph.specs.State.{Graph}
use Rattle.patch_graph.specs.Meaning.{IsGraphOf}
use Rattle.patch_graph.proofs.Tops.{tops-emptied}
use Rattle.patch_graph.proofs.forgetting.forget.Goals as goal

pub returns-then-is_empty_of-clause-same : goal.returns-then-is_empty_of-clause-same
returns-then-is_empty_of-clause-same g c all r =
    let made = c.register.inside.made in
    let links = c.register.inside.links in
    let old = trimmed (lines_of c.register.inside.skylines.items) in
    let new = trimmed (lines_of c.forget.new.skylines.items) in
    let z : Graph = record { made = made; slots = links.slots; numbers = links.numbers; tops = old } in
    let seen : IsGraphOf z all = subst (λ (v : Graph). IsGraphOf v all) (sym c.register.view_is) r in
    subst (λ (l : Links). let v : Graph = record { made = made; slots = l.slots; numbers = l.numbers; tops = new } in IsGraphOf v all) (sym c.forget-then-is_empty_of.ensures)
    (tops-emptied made links.slots links.numbers old new all c.args.block c.forget.ensures (c.is_empty_of.ensures.none c.if-is_empty_of.true) seen)
