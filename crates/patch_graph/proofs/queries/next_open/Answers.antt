use Rattle.std.proofs.Common.{subst, sym}
use Rattle.patch_graph.specs.Skyline.{lines_of, trimmed}
use Rattle.patch_graph.specs.State.{Graph}
use Rattle.patch_graph.specs.Meaning.{IsGraphOf}
use Rattle.patch_graph.proofs.Opened.{next_is_open, next_is_within}
use Rattle.patch_graph.proofs.Rings.{no-chain}
use Rattle.patch_graph.proofs.queries.next_open.Goals as goal

pub returns-clause-answer : goal.returns-clause-answer
returns-clause-answer g c all r ring =
    let z : Graph = record { made = c.register.inside.made; slots = c.register.inside.links.slots; numbers = c.register.inside.links.numbers; tops = trimmed (lines_of c.register.inside.skylines.items) } in
    let seen : IsGraphOf z all = subst (λ (v : Graph). IsGraphOf v all) (sym c.register.view_is) r in
    next_is_open c.ready_is_largest.ensures.only z all seen (no-chain z all seen ring) c.args.from c.next_open.result c.next_open.ensures

pub returns-clause-within : goal.returns-clause-within
returns-clause-within g c = next_is_within c.register.inside.links.slots c.register.inside.links.numbers c.args.from c.next_open.result c.next_open.ensures
