use Rattle.std.proofs.Common.{ap, sym, ◌∙◌}
use Rattle.patch_links.specs.State.{Slots, class_at}
use Rattle.patch_graph.proofs.mark_durable.land.Goals as goal

pub returns-clause-fit : goal.returns-clause-fit
returns-clause-fit g c room fit key d at = c.land_classes.ensures.fit room fit key d (ap (λ (s : Slots). class_at s key) (sym c.empty_unlinked.ensures.slots) ∙ at)
