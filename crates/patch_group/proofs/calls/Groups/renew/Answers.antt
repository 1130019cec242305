use Rattle.std.proofs.Common.{◌≡◌, ◌≤◌, ◌∙◌, ℕ, [], List, length, arith, sym, ap, subst}
use Rattle.std.specs.List.{list_any}
use Rattle.patch_plans.specs.Groups.{AreApart}
use Rattle.patch_group.specs.Records.{AreSealed, group_of}
use Rattle.patch_group.specs.Renewing.{is_in_use}
use Rattle.patch_group.specs.declared.records.Record.{Record}
use Rattle.patch_group.proofs.Anew.{any_mapped, in_use, not_in_use, none_at_all, none_sealed}
use Rattle.patch_group.proofs.Befores.{none_kept}
use Rattle.patch_group.proofs.calls.Groups.renew.Goals as goal

pub returns-then-is_any_in_use-clause-cause : goal.returns-then-is_any_in_use-clause-cause
returns-then-is_any_in_use-clause-cause g c =
    in_use c.args.self.now
    (ap (λ s. list_any is_in_use s.groups) (sym c.self.view_is) ∙ any_mapped group_of is_in_use c.self.inside.groups.items ∙ ap (list_any (λ (r : Record _). is_in_use (group_of r))) (sym c.deref.ensures.value) ∙ sym c.is_any_in_use.ensures ∙ c.if-is_any_in_use.true)

pub invariant_of-self : goal.invariant_of-self
invariant_of-self g c =
    let groups = c.clear.ensures.items in
    let engaged = c.clear-2.ensures.items in (
      let none = ap length groups in omega (arith, none),
      subst AreApart (sym engaged) (λ i j d less within. absurd (omega arith)),
      none_kept _ c.clear-3.new.self.items c.clear-3.ensures.items,
      subst AreSealed (sym (none_at_all c.clear.new.self.items c.clear-2.new.self.items groups engaged)) none_sealed,
    )

pub returns-clause-done : goal.returns-clause-done
returns-clause-done g c = (
  not_in_use c.args.self.now
      (ap (λ s. list_any is_in_use s.groups) (sym c.self.view_is) ∙ any_mapped group_of is_in_use c.self.inside.groups.items ∙ ap (list_any (λ (r : Record _). is_in_use (group_of r))) (sym c.deref.ensures.value) ∙ sym c.is_any_in_use.ensures ∙ c.if-is_any_in_use.false),
  none_at_all c.clear.new.self.items c.clear-2.new.self.items c.clear.ensures.items c.clear-2.ensures.items,
)
