use Rattle.std.proofs.Common.{◌≡◌, ◌∙◌, ◌<◌, ◌≤◌, ◌++◌, ◌∷◌, [], refl, sym, ap, subst, false, length-set}
use Rattle.patch_plans.specs.Groups.{AreApart, is_engaged_by}
use Rattle.patch_group.specs.Records.{groups_of, AreBefore, AreSealed}
use Rattle.patch_group.specs.declared.refusals.GroupRefusal.TheVariants.{OutOfMemory as NoMemory}
use Rattle.patch_plans.specs.Ordering.{apart_more}
use Rattle.patch_group.proofs.Keeping.{one_engaged, within, has_room}
use Rattle.patch_group.proofs.Befores.{none_kept}
use Rattle.patch_group.proofs.Sealing.{sealed_engaged}
use Rattle.patch_group.proofs.Outcomes.{refused-done, refused-still, refused-told, caused, lacking}
use Rattle.patch_group.proofs.calls.Groups.engage.Goals as goal

pub invariant_of-self-2 : goal.invariant_of-self-2
invariant_of-self-2 g c =
    let writer = c.args.writer in
    let group = c.args.group in
    let now = c.args.self.now in
    let records = c.self.inside.groups.items in
    let es = c.self.inside.engaged.items in
    let seen : groups_of records es ≡ now = c.self.view_is in
    let new : is_engaged_by (groups_of records es) writer group ≡ false = ap (λ s. is_engaged_by s writer group) seen ∙ c.in_default.ensures.new refl in
    let items = c.push_reserved.ensures.items ∙ ap (λ xs. xs ++ (writer, group) ∷ []) c.reserve.ensures.items in
    let known = within records now group c.group.inside.0 (ap (λ s. s.groups) seen) c.group.view_is (c.in_default.ensures.known refl) in (
      subst (λ n. n ≤ 1024) (sym (length-set records c.group.inside.0 _)) c.self.invariant.0,
      subst AreApart (sym items) (apart_more es writer group c.self.invariant.1 new),
      none_kept _ c.clear.new.self.items c.clear.ensures.items,
      subst AreSealed (sym (one_engaged records es _ now writer group c.group.inside.0 _ c.index_mut-record.result.now seen c.group.view_is known c.index_mut-record.ensures.value refl items))
          (sealed_engaged now writer group (sym c.in_default.ensures.cause) (subst AreSealed seen c.self.invariant.3)),
    )

pub returns-clause-done : goal.returns-clause-done
returns-clause-done g c =
    let writer = c.args.writer in
    let group = c.args.group in
    let now = c.args.self.now in
    let records = c.self.inside.groups.items in
    let es = c.self.inside.engaged.items in
    let seen : groups_of records es ≡ now = c.self.view_is in
    let items = c.push_reserved.ensures.items ∙ ap (λ xs. xs ++ (writer, group) ∷ []) c.reserve.ensures.items in
    let known = within records now group c.group.inside.0 (ap (λ s. s.groups) seen) c.group.view_is (c.in_default.ensures.known refl) in (
      sym c.in_default.ensures.cause,
      one_engaged records es _ now writer group c.group.inside.0 _ c.index_mut-record.result.now seen c.group.view_is known c.index_mut-record.ensures.value refl items,
    )

pub returns-in-Some-clause-done : goal.returns-in-Some-clause-done
returns-in-Some-clause-done g c = tt

pub returns-in-Some-clause-cause : goal.returns-in-Some-clause-cause
returns-in-Some-clause-cause g c = caused _ _ c.in-Some.ensures.cause

pub returns-in-Some-clause-refused : goal.returns-in-Some-clause-refused
returns-in-Some-clause-refused g c = refl

pub invariant_of-self : goal.invariant_of-self
invariant_of-self g c =
    let same = sym c.reserve.ensures.items in (
      c.self.invariant.0,
      subst AreApart same c.self.invariant.1,
      subst (λ es. AreBefore (groups_of c.self.inside.groups.items es) c.self.inside.before.items) same c.self.invariant.2,
      subst (λ es. AreSealed (groups_of c.self.inside.groups.items es)) same c.self.invariant.3,
    )

pub returns-in_err-reserve-clause-done : goal.returns-in_err-reserve-clause-done
returns-in_err-reserve-clause-done g c = refused-done c.from_residual.result _ c.from_residual.ensures.0

pub returns-in_err-reserve-clause-cause : goal.returns-in_err-reserve-clause-cause
returns-in_err-reserve-clause-cause g c = refused-told c.from_residual.result NoMemory _ c.from_residual.ensures.1 (lacking _ (c.in_default.ensures.cause))

pub returns-in_err-reserve-clause-refused : goal.returns-in_err-reserve-clause-refused
returns-in_err-reserve-clause-refused g c = refused-still c.from_residual.result _ (ap (groups_of c.self.inside.groups.items) c.reserve.ensures.items ∙ c.self.view_is)

pub index_mut-record-requires : goal.index_mut-record-requires
index_mut-record-requires g c = subst (λ n. c.group.inside.0 < n) (sym c.self.inside.groups.ok.0)
    (within c.self.inside.groups.items c.args.self.now c.args.group c.group.inside.0 (ap (λ s. s.groups) c.self.view_is) c.group.view_is (c.in_default.ensures.known refl))

pub push_reserved-requires : goal.push_reserved-requires
push_reserved-requires g c = has_room _ _ c.in_ok-reserve.ensures.ok

pub returns-clause-cause : goal.returns-clause-cause
returns-clause-cause g c = tt

pub returns-clause-refused : goal.returns-clause-refused
returns-clause-refused g c = tt
