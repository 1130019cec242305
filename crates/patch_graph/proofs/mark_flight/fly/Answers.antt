use Rattle.std.proofs.Common.{subst, sym}
use Rattle.patch_links.specs.State.{Numbers}
use Rattle.patch_graph.specs.Skyline.{lines_of, trimmed}
use Rattle.patch_graph.specs.State.{Graph, KeysFit}
use Rattle.patch_graph.specs.Meaning.{IsGraphOf}
use Rattle.patch_graph.specs.MarkFlight.{with_sent}
use Rattle.patch_graph.proofs.MarkFlight.{flies, flown-fit}
use Rattle.patch_graph.proofs.Rings.{no-chain}
use Rattle.patch_graph.proofs.mark_flight.fly.Goals as goal

pub returns-clause-answer : goal.returns-clause-answer
returns-clause-answer g c all r ring o =
    let z : Graph = record { made = c.register.inside.made; slots = c.register.inside.links.slots; numbers = c.register.inside.links.numbers; tops = trimmed (lines_of c.register.inside.skylines.items) } in
    let seen : IsGraphOf z all = subst (λ (v : Graph). IsGraphOf v all) (sym c.register.view_is) r in
    subst (λ (ns : Numbers). IsGraphOf (record { made = z.made; slots = c.fly.new.self.slots; numbers = ns; tops = z.tops }) (with_sent all c.args.block)) (sym c.fly.ensures.numbers)
    (flies c.ready_is_largest.ensures.only z.made z.tops z.slots c.fly.new.self.slots z.numbers all c.args.block c.fly.ensures.set seen (c.fly.ensures.is.largest (no-chain z all seen ring)) c.fly.ensures.flown o)

pub returns-clause-fit : goal.returns-clause-fit
returns-clause-fit g c room fit =
    flown-fit c.fly.ensures.set c.register.inside.links.slots c.fly.new.self.slots room c.fly.ensures.flown (subst (λ (v : Graph). KeysFit v.slots room) (sym c.register.view_is) fit)
