use Rattle.std.proofs.Common.{◌∙◌, sym, ap}
use Rattle.std.specs.Option.{option_copied}
use Rattle.patch_links.specs.State.{find}
use Rattle.patch_links.specs.Keys.{led_to}
use Rattle.patch_links.proofs.Leads.{led}
use Rattle.patch_links.proofs.keys.Keys.search.Goals as goal

pub returns-in-Some : goal.returns-in-Some
returns-in-Some g c = sym (ap (λ k. find k.numbers c.args.no) (sym c.self.view_is) ∙ led c.args.no c.self.inside.map.entries c.self.invariant.0 ∙ ap led_to (sym c.get.ensures.value ∙ ap option_copied c.in-Some.is))

pub returns-in-None : goal.returns-in-None
returns-in-None g c = sym (ap (λ k. find k.numbers c.args.no) (sym c.self.view_is) ∙ led c.args.no c.self.inside.map.entries c.self.invariant.0 ∙ ap led_to (sym c.get.ensures.value ∙ ap option_copied c.in-None.is))
