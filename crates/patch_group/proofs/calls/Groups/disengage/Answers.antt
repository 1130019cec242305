use Rattle.std.proofs.Common.{◌≡◌, ◌∙◌, rules, not, ap, sym, subst, true, map}
use Rattle.std.specs.Prelude.{◌==◌, ◌&&◌}
use Rattle.std.proofs.lemmas.Fn.{filter_same}
use Rattle.std.proofs.lemmas.List.Kept.{AllPairs-filter}
use Rattle.patch_plans.specs.Groups.{Groups, AreApart, disengaged, is_open, is_engaged_by}
use Rattle.patch_group.specs.Records.{group_of, groups_of, AreSealed}
use Rattle.patch_group.proofs.Keeping.{may_disengage}
use Rattle.patch_group.proofs.Befores.{none_kept}
use Rattle.patch_group.proofs.Sealing.{sealed_disengaged}
use Rattle.patch_group.proofs.calls.Groups.disengage.Goals as goal

pub invariant_of-self : goal.invariant_of-self
invariant_of-self g c =
    let kept = filter_same _ (λ e. not (e.0 == c.args.writer && e.1 == c.args.group)) _ (λ x b f h. search rules) _ _ c.retain.ensures.filtered in (
      c.self.invariant.0,
      subst AreApart (sym kept) (AllPairs-filter (λ d e. d ≡ e → ⊥) (λ e. not (e.0 == c.args.writer && e.1 == c.args.group)) c.self.inside.engaged.items c.self.invariant.1),
      none_kept _ c.clear.new.self.items c.clear.ensures.items,
      subst (λ es. AreSealed (groups_of c.self.inside.groups.items es)) (sym kept) (sealed_disengaged (groups_of c.self.inside.groups.items c.self.inside.engaged.items) c.args.writer c.args.group c.self.invariant.3),
    )

pub returns-clause-done : goal.returns-clause-done
returns-clause-done g c =
    let writer = c.args.writer in
    let group = c.args.group in
    let now = c.args.self.now in
    let kept = filter_same _ (λ e. not (e.0 == c.args.writer && e.1 == c.args.group)) _ (λ x b f h. search rules) _ _ c.retain.ensures.filtered in
    let old : Groups = record { groups = map group_of c.self.inside.groups.items; engaged = c.self.inside.engaged.items } in
    let seen : old ≡ now = c.self.view_is in
    let is_there : is_open now group ≡ true = sym c.is_open.ensures.answer ∙ c.if-not-is_open.false in
    let mine : is_engaged_by now writer group ≡ true = sym c.is_engaged_by.ensures ∙ c.if-not-is_engaged_by.false in (
      may_disengage now writer group is_there mine,
      ap (λ xs. let s : Groups = record { groups = map group_of c.self.inside.groups.items; engaged = xs } in s) kept ∙ ap (λ s. disengaged s writer group) seen,
    )
