use Rattle.std.proofs.Common.{◌≡◌, ◌∙◌, sym, ap, subst, arith}
use Rattle.std.proofs.lemmas.Bool.{ne_eqb, eqb-true}
use Rattle.std.specs.Cmp.{nat_eq_equiv}
use Rattle.std.specs.List.{IsDistinct}
use Rattle.std.specs.Prelude.{Some, nat_eq}
use Rattle.indexmap.specs.IndexMap.{with_value_at, Updates}
use Rattle.indexmap.proofs.CallerLemmas.{keys-with_value_at, updates-with_value_at}
use Rattle.patch_links.specs.State.{find}
use Rattle.patch_links.proofs.Leads.{led_here, led_others}
use Rattle.patch_links.proofs.keys.Keys.set_at.Goals as goal

pub returns-then-eq-clause-here : goal.returns-then-eq-clause-here
returns-then-eq-clause-here g c set =
    let map = c.self.inside.map in
    let now = with_value_at map c.args.place c.args.key in
    let same : c.in-Some.there.now ≡ c.args.no = eqb-true c.in-Some.there.now c.args.no (sym c.eq.ensures ∙ c.if-eq.true) in
    let u : Updates nat_eq map now c.args.no (Some c.args.key) = subst (λ k. Updates nat_eq map now k (Some c.args.key)) same
    (updates-with_value_at map c.args.place c.args.key nat_eq_equiv c.self.invariant.0 _ _ (sym c.in-Some.ensures.entry)) in
    let unique = subst (λ ks. IsDistinct nat_eq ks) (sym (keys-with_value_at map c.args.place c.args.key)) c.self.invariant.0 in
    led_here c.args.no c.args.key now.entries unique u.1

pub returns-then-eq-clause-others : goal.returns-then-eq-clause-others
returns-then-eq-clause-others g c n differ =
    let map = c.self.inside.map in
    let now = with_value_at map c.args.place c.args.key in
    let same : c.in-Some.there.now ≡ c.args.no = eqb-true c.in-Some.there.now c.args.no (sym c.eq.ensures ∙ c.if-eq.true) in
    let u : Updates nat_eq map now c.args.no (Some c.args.key) = subst (λ k. Updates nat_eq map now k (Some c.args.key)) same
    (updates-with_value_at map c.args.place c.args.key nat_eq_equiv c.self.invariant.0 _ _ (sym c.in-Some.ensures.entry)) in
    let unique = subst (λ ks. IsDistinct nat_eq ks) (sym (keys-with_value_at map c.args.place c.args.key)) c.self.invariant.0 in
    led_others n map.entries now.entries c.self.invariant.0 unique (u.2 n (ne_eqb c.args.no n (λ e. differ (sym e)))) ∙ ap (λ k. find k.numbers n) c.self.view_is

pub invariant_of-self : goal.invariant_of-self
invariant_of-self g c =
    let map = c.self.inside.map in
    let now = with_value_at map c.args.place c.args.key in
    let same : c.in-Some.there.now ≡ c.args.no = eqb-true c.in-Some.there.now c.args.no (sym c.eq.ensures ∙ c.if-eq.true) in
    let u : Updates nat_eq map now c.args.no (Some c.args.key) = subst (λ k. Updates nat_eq map now k (Some c.args.key)) same
    (updates-with_value_at map c.args.place c.args.key nat_eq_equiv c.self.invariant.0 _ _ (sym c.in-Some.ensures.entry)) in
    let unique = subst (λ ks. IsDistinct nat_eq ks) (sym (keys-with_value_at map c.args.place c.args.key)) c.self.invariant.0 in
    let least = c.min-self-inside.ensures in
    (unique, λ n less. led_others n map.entries now.entries c.self.invariant.0 unique (u.2 n (ne_eqb c.args.no n (omega (arith, least, less)))) ∙ c.self.invariant.1 n (omega (arith, least, less)))
