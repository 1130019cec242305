use Rattle.std.proofs.Common.{◌∙◌, sym, ap, subst, arith, ◌⊎◌, ◌<◌}
use Rattle.std.proofs.lemmas.Bool.{ne_eqb}
use Rattle.std.specs.Prelude.{IsSome}
use Rattle.patch_links.specs.State.{find}
use Rattle.patch_links.proofs.Leads.{led_here, led_others, may_fail, done}
use Rattle.patch_links.proofs.keys.Keys.lead.Goals as goal

pub returns-clause-here : goal.returns-clause-here
returns-clause-here g c =
    let same = c.self-2.view_is ∙ c.set_at.ensures.same (c.if-set_at.false) in
    let u = done c.insert.result c.insert.ensures.updates c.insert.ensures.absent c.insert.ensures.succeeds
    (may_fail c.args.self.now.numbers c.args.no c.self-2.inside.map.entries c.self-2.invariant.0 (ap (λ k. k.numbers) (sym same)) (subst (λ k. (0 < k.room) ⊎ IsSome (find c.args.self.now.numbers c.args.no)) (sym same) c.requires)) in
    led_here c.args.no c.args.key c.insert.new.self.entries c.insert.ensures.unique u.1

pub returns-clause-others : goal.returns-clause-others
returns-clause-others g c n differ =
    let same = c.self-2.view_is ∙ c.set_at.ensures.same (c.if-set_at.false) in
    let u = done c.insert.result c.insert.ensures.updates c.insert.ensures.absent c.insert.ensures.succeeds
    (may_fail c.args.self.now.numbers c.args.no c.self-2.inside.map.entries c.self-2.invariant.0 (ap (λ k. k.numbers) (sym same)) (subst (λ k. (0 < k.room) ⊎ IsSome (find c.args.self.now.numbers c.args.no)) (sym same) c.requires)) in
    led_others n c.self-2.inside.map.entries c.insert.new.self.entries c.self-2.invariant.0 c.insert.ensures.unique (u.2 n (ne_eqb c.args.no n (λ e. differ (sym e)))) ∙ ap (λ k. find k.numbers n) same

pub invariant_of-self : goal.invariant_of-self
invariant_of-self g c =
    let same = c.self-2.view_is ∙ c.set_at.ensures.same (c.if-set_at.false) in
    let u = done c.insert.result c.insert.ensures.updates c.insert.ensures.absent c.insert.ensures.succeeds
    (may_fail c.args.self.now.numbers c.args.no c.self-2.inside.map.entries c.self-2.invariant.0 (ap (λ k. k.numbers) (sym same)) (subst (λ k. (0 < k.room) ⊎ IsSome (find c.args.self.now.numbers c.args.no)) (sym same) c.requires)) in
    let least = c.min-self-inside.ensures in
    (c.insert.ensures.unique, λ n less. led_others n c.self-2.inside.map.entries c.insert.new.self.entries c.self-2.invariant.0 c.insert.ensures.unique (u.2 n (ne_eqb c.args.no n (omega (arith, least, less)))) ∙ c.self-2.invariant.1 n (omega (arith, least, less)))
