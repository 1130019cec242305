use Rattle.std.proofs.Common.{subst, sym, refl, true}
use Rattle.patch_graph.specs.Skyline.{lines_of, trimmed}
use Rattle.patch_graph.specs.State.{Graph, KeysFit}
use Rattle.patch_graph.specs.Meaning.{IsGraphOf}
use Rattle.patch_graph.proofs.MarkDurable.{lands-all, landed-fit}
use Rattle.patch_graph.proofs.mark_durable.land_classes.Goals as goal

pub returns-clause-answer : goal.returns-clause-answer
returns-clause-answer g c all r o =
    let z : Graph = record { made = c.register.inside.made; slots = c.register.inside.links.slots; numbers = c.register.inside.links.numbers; tops = trimmed (lines_of c.register.inside.skylines.items) } in
    let seen : IsGraphOf z all = subst (λ (v : Graph). IsGraphOf v all) (sym c.register.view_is) r in
    lands-all z.made z.tops c.args.block z.slots c.land.new.self.slots z.numbers c.land.new.self.numbers all (λ key. true) seen c.land.ensures.landed (λ key t. refl) o

pub returns-clause-fit : goal.returns-clause-fit
returns-clause-fit g c room fit =
    landed-fit c.register.inside.links.slots c.land.new.self.slots c.register.inside.links.numbers c.land.new.self.numbers c.args.block room (λ key. true) c.land.ensures.landed
    (subst (λ (v : Graph). KeysFit v.slots room) (sym c.register.view_is) fit)
