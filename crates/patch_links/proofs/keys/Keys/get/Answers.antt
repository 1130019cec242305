use Rattle.std.proofs.Common.{◌∙◌, sym, ap}
use Rattle.std.proofs.lemmas.Bool.{eqb-true}
use Rattle.std.specs.Map.{lookup}
use Rattle.std.specs.Prelude.{nat_eq}
use Rattle.patch_links.specs.State.{find}
use Rattle.patch_links.specs.Keys.{led_to}
use Rattle.patch_links.proofs.Leads.{led}
use Rattle.patch_links.proofs.keys.Keys.get.Goals as goal

pub returns-then-eq : goal.returns-then-eq
returns-then-eq g c =
    let same = eqb-true c.in-Some.at.now c.args.no (sym c.eq.ensures ∙ c.if-eq.true) in
    sym (ap (λ k. find k.numbers c.args.no) (sym c.self.view_is) ∙ led c.args.no c.self.inside.map.entries c.self.invariant.0
    ∙ ap (λ n. led_to (lookup (nat_eq n) c.self.inside.map.entries)) (sym same) ∙ ap led_to c.in-Some.ensures.value)
