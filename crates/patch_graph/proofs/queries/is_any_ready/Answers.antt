use Rattle.std.proofs.Common.{subst, sym}
use Rattle.patch_graph.specs.Skyline.{lines_of, trimmed}
use Rattle.patch_graph.specs.State.{Graph}
use Rattle.patch_graph.specs.Meaning.{IsGraphOf}
use Rattle.patch_graph.proofs.ReadySet.{any_is_ready}
use Rattle.patch_graph.proofs.Rings.{no-chain}
use Rattle.patch_graph.proofs.queries.is_any_ready.Goals as goal

pub returns : goal.returns
returns g c all r ring =
    let z : Graph = record { made = c.register.inside.made; slots = c.register.inside.links.slots; numbers = c.register.inside.links.numbers; tops = trimmed (lines_of c.register.inside.skylines.items) } in
    let seen : IsGraphOf z all = subst (λ (v : Graph). IsGraphOf v all) (sym c.register.view_is) r in
    any_is_ready c.ready_is_largest.ensures.only z all c.args.block c.any_ready.ensures.set c.any_ready.result seen (c.any_ready.ensures.is.largest (no-chain z all seen ring)) c.any_ready.ensures.none c.any_ready.ensures.some
