use Rattle.std.proofs.Common.{◌∙◌, refl, sym, ap, subst}
use Rattle.std.specs.List.{flat_map}
use Rattle.patch_plans.specs.Rising.{rising}
use Rattle.patch_plans.specs.Groups.{patches_of, after_of}
use Rattle.patch_group.specs.Records.{groups_of, AreBefore}
use Rattle.patch_group.proofs.Keeping.{has_room}
use Rattle.patch_group.proofs.Outcomes.{done-sure}
use Rattle.patch_group.proofs.Befores.{one_more_kept, after_before}
use Rattle.patch_group.proofs.calls.Groups.keep_before.Goals as goal

pub invariant_of-self : goal.invariant_of-self
invariant_of-self g c =
    let gs = groups_of c.self.inside.groups.items c.self.inside.engaged.items in
    (c.self.invariant.0, c.self.invariant.1, subst (AreBefore gs) (sym c.reserve.ensures.items) c.self.invariant.2, c.self.invariant.3)

pub invariant_of-self-2 : goal.invariant_of-self-2
invariant_of-self-2 g c =
    let gs = groups_of c.self.inside.groups.items c.self.inside.engaged.items in
    let now = c.args.self.now in
    let names = c.as_slice.ensures.value ∙ c.in-Ok.ensures in
    let listed = c.in-Ok-runs_of.ensures ∙ ap (λ names. rising (flat_map (patches_of now) names)) names ∙ after_before now c.args.writer ∙ sym (ap (λ s. after_of s c.args.writer) c.self.view_is) in
    (c.self.invariant.0, c.self.invariant.1, one_more_kept gs c.self.inside.before.items _ _ _ c.reserve.ensures.items c.push_reserved.ensures.items c.self.invariant.2 listed, c.self.invariant.3)

pub returns-then-is_some : goal.returns-then-is_some
returns-then-is_some g c = refl

pub returns-in_default : goal.returns-in_default
returns-in_default g c = refl

pub push_reserved-requires : goal.push_reserved-requires
push_reserved-requires g c = has_room _ _ (done-sure c.reserve.result _ c.if-is_err.ensures.value c.reserve.ensures.ok)

pub returns : goal.returns
returns g c = c.self.view_is
