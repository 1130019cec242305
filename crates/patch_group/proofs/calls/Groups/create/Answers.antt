use Rattle.std.proofs.Common.{refl, ◌≤◌, ◌+◌, ◌∙◌, arith, sym, ap, subst, length, map}
use Rattle.std.proofs.lemmas.List.{length_push}
use Rattle.std.proofs.lemmas.Result.{IfOk-from_err}
use Rattle.patch_group.specs.declared.refusals.GroupRefusal.TheVariants.{OutOfMemory as NoMemory}
use Rattle.patch_group.specs.Records.{group_of, groups_of, AreBefore, AreSealed}
use Rattle.patch_group.proofs.Keeping.{has_room, made_all, crowded, may_begin, is_fresh, one_begun}
use Rattle.patch_group.proofs.Outcomes.{refused-still, refused-told, lacking}
use Rattle.patch_group.proofs.Befores.{held_same, none_kept}
use Rattle.patch_group.proofs.Sealing.{sealed_begun}
use Rattle.patch_group.proofs.calls.Groups.create.Goals as goal

pub invariant_of-self : goal.invariant_of-self
invariant_of-self g c =
    let same = c.reserve.ensures.items in (
      subst (λ rs. length rs ≤ 1024) (sym same) c.self.invariant.0,
      c.self.invariant.1,
      held_same (λ gs. AreBefore gs c.self.inside.before.items) c.self.inside.groups.items c.reserve.new.self.items c.self.inside.engaged.items (ap (map group_of) same) c.self.invariant.2,
      held_same AreSealed c.self.inside.groups.items c.reserve.new.self.items c.self.inside.engaged.items (ap (map group_of) same) c.self.invariant.3,
    )

pub invariant_of-self-2 : goal.invariant_of-self-2
invariant_of-self-2 g c =
    let long = ap length c.push_reserved.ensures.items ∙ length_push c.reserve.new.self.items _ ∙ ap (λ xs. length xs + 1) c.reserve.ensures.items in
    let made = c.len-made.ensures in (
      omega (arith, long, made, c.if-made-ge-MAX_GROUPS.false),
      c.self.invariant.1,
      none_kept _ c.clear.new.self.items c.clear.ensures.items,
      subst AreSealed (sym (one_begun c.self.inside.groups.items c.reserve.new.self.items c.push_reserved.new.self.items c.self.inside.engaged.items c.args.self.now _
          c.push_reserved.ensures.items c.reserve.ensures.items (is_fresh _ _ c.new.ensures.items c.new-2.ensures.items) c.self.view_is))
          (sealed_begun c.args.self.now (subst AreSealed c.self.view_is c.self.invariant.3)),
    )

pub returns-then-made-ge-MAX_GROUPS-clause-made : goal.returns-then-made-ge-MAX_GROUPS-clause-made
returns-then-made-ge-MAX_GROUPS-clause-made g c = tt

pub returns-then-made-ge-MAX_GROUPS-clause-cause : goal.returns-then-made-ge-MAX_GROUPS-clause-cause
returns-then-made-ge-MAX_GROUPS-clause-cause g c = crowded c.args.self.now _ (made_all c.self.inside.groups.items c.args.self.now _ _ c.len-made.ensures c.self.inside.groups.ok.0 (ap (λ s. s.groups) c.self.view_is)) c.if-made-ge-MAX_GROUPS.true

pub returns-then-made-ge-MAX_GROUPS-clause-refused : goal.returns-then-made-ge-MAX_GROUPS-clause-refused
returns-then-made-ge-MAX_GROUPS-clause-refused g c = refl

pub returns-in_err-reserve-clause-made : goal.returns-in_err-reserve-clause-made
returns-in_err-reserve-clause-made g c = IfOk-from_err c.from_residual.result _ c.from_residual.ensures.0

pub returns-in_err-reserve-clause-cause : goal.returns-in_err-reserve-clause-cause
returns-in_err-reserve-clause-cause g c = refused-told c.from_residual.result NoMemory _ c.from_residual.ensures.1 (lacking _ (may_begin c.args.self.now _ (made_all c.self.inside.groups.items c.args.self.now _ _ c.len-made.ensures c.self.inside.groups.ok.0 (ap (λ s. s.groups) c.self.view_is)) c.if-made-ge-MAX_GROUPS.false))

pub returns-in_err-reserve-clause-refused : goal.returns-in_err-reserve-clause-refused
returns-in_err-reserve-clause-refused g c = refused-still c.from_residual.result _ (ap (λ rs. groups_of rs c.self.inside.engaged.items) c.reserve.ensures.items ∙ c.self.view_is)

pub returns-clause-made : goal.returns-clause-made
returns-clause-made g c =
    let es = c.self.inside.engaged.items in
    let many = made_all c.self.inside.groups.items c.args.self.now _ _ c.len-made.ensures c.self.inside.groups.ok.0 (ap (λ s. s.groups) c.self.view_is) in (
      sym (may_begin c.args.self.now _ many c.if-made-ge-MAX_GROUPS.false),
      many,
      one_begun c.self.inside.groups.items c.reserve.new.self.items c.push_reserved.new.self.items es c.args.self.now _ c.push_reserved.ensures.items c.reserve.ensures.items
          (is_fresh _ _ c.new.ensures.items c.new-2.ensures.items) c.self.view_is,
    )

pub push_reserved-requires : goal.push_reserved-requires
push_reserved-requires g c = has_room _ _ c.in_ok-reserve.ensures.ok

pub returns-clause-cause : goal.returns-clause-cause
returns-clause-cause g c = tt

pub returns-clause-refused : goal.returns-clause-refused
returns-clause-refused g c = tt
