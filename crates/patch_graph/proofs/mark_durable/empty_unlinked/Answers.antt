use Rattle.std.proofs.Common.{subst, sym}
use Rattle.patch_graph.specs.Skyline.{lines_of, trimmed}
use Rattle.patch_graph.specs.State.{Graph}
use Rattle.patch_graph.specs.Meaning.{IsGraphOf}
use Rattle.patch_graph.proofs.Tops.{tops-emptied}
use Rattle.patch_graph.proofs.mark_durable.empty_unlinked.Goals as goal

pub returns-then-is_empty_of-clause-same : goal.returns-then-is_empty_of-clause-same
returns-then-is_empty_of-clause-same g c all r =
    let z : Graph = record { made = c.register.inside.made; slots = c.register.inside.links.slots; numbers = c.register.inside.links.numbers; tops = trimmed (lines_of c.register.inside.skylines.items) } in
    let seen : IsGraphOf z all = subst (λ (v : Graph). IsGraphOf v all) (sym c.register.view_is) r in
    tops-emptied z.made z.slots z.numbers z.tops (trimmed (lines_of c.empty.new.skylines.items)) all c.args.block c.empty.ensures (c.is_empty_of.ensures.none c.if-is_empty_of.true) seen
