use Rattle.std.proofs.Common.{subst, sym}
use Rattle.patch_graph.specs.Skyline.{lines_of, trimmed}
use Rattle.patch_graph.specs.State.{Graph}
use Rattle.patch_graph.specs.Meaning.{IsGraphOf}
use Rattle.patch_graph.proofs.Places.{ok-more}
use Rattle.patch_graph.proofs.ReadySet.{taken_numbers}
use Rattle.patch_graph.proofs.Rings.{no-chain}
use Rattle.patch_graph.proofs.queries.numbers_ready.Goals as goal

pub returns : goal.returns
returns g c = ok-more c.ready.result _ _ c.ready.ensures (λ ns h all r ring.
    let z : Graph = record { made = c.register.inside.made; slots = c.register.inside.links.slots; numbers = c.register.inside.links.numbers; tops = trimmed (lines_of c.register.inside.skylines.items) } in
    let seen : IsGraphOf z all = subst (λ (v : Graph). IsGraphOf v all) (sym c.register.view_is) r in
    taken_numbers c.ready_is_largest.ensures.only z all c.args.block h.set ns.items seen (h.is.largest (no-chain z all seen ring)) h.rising h.just)
