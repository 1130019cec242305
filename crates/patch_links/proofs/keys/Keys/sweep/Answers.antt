use Rattle.std.proofs.Common.{◌∙◌, ap, rules}
use Rattle.indexmap.proofs.CallerLemmas.{filter-RetainsPairs}
use Rattle.patch_links.proofs.Leads.{swept_to, swept_below}
use Rattle.patch_links.proofs.keys.Keys.sweep.Goals as goal

pub invariant_of-self : goal.invariant_of-self
invariant_of-self g c = (
  c.retain.ensures.unique,
  swept_below c.self.inside.lowest c.self.inside.map.entries c.retain.new.self.entries
      (filter-RetainsPairs _ _ _ (λ k v b w h call. search rules) _ _ c.retain.ensures.filtered) c.self.invariant.1,
)

pub returns : goal.returns
returns g c = swept_to c.self.inside.map.entries c.retain.new.self.entries (filter-RetainsPairs _ _ _ (λ k v b w h call. search rules) _ _ c.retain.ensures.filtered)
    ∙ ap (λ k. k.numbers) c.self.view_is
