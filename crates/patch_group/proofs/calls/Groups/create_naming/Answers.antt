use Rattle.std.proofs.Common.{◌≡◌, ◌≤◌, ◌∙◌, inl, inr, refl, sym, ap, subst, length, map}
use Rattle.std.proofs.lemmas.List.{length-map}
use Rattle.std.proofs.lemmas.Result.{IfOk-from_err}
use Rattle.patch_cache.specs.declared.refusals.CreateRefusal.TheVariants.{OutOfMemory as NoMemory}
use Rattle.patch_plans.specs.Groups.{Groups, AreApart}
use Rattle.patch_group.specs.Records.{group_of, names_of, HaveRoom, AreBefore, AreSealed}
use Rattle.patch_group.proofs.Outcomes.{refused-done, refused-still, refused-told}
use Rattle.patch_group.proofs.Entering.{length-entered}
use Rattle.patch_group.proofs.Keeping.{roomier}
use Rattle.patch_group.proofs.Befores.{held_same, kept_entered, sealed_entered}
use Rattle.patch_group.proofs.calls.Groups.create_naming.Goals as goal

pub invariant_of-self-2 : goal.invariant_of-self-2
invariant_of-self-2 g c =
    let old = c.self.inside.groups.items in
    let mid = c.make_room.new.groups.items in
    let new = c.enter.new.groups.items in
    let long : length new ≡ length old =
    sym (length-map new group_of) ∙ ap length c.enter.ensures ∙ length-entered (map group_of mid) (names_of c.as_slice-2.result.now c.args.writer) c.in_ok-no.no
    ∙ ap length c.make_room.ensures.same ∙ length-map old group_of in (
      subst (λ n. n ≤ 1024) (sym long) c.self.invariant.0,
      c.self.invariant.1,
      kept_entered old mid new c.self.inside.engaged.items c.as_slice-2.result.now c.args.writer c.in_ok-no.no c.self.inside.before.items
          c.make_room.ensures.same c.as_slice-2.ensures.value c.enter.ensures c.self.invariant.3 c.self.invariant.2,
      sealed_entered old mid new c.self.inside.engaged.items c.as_slice-2.result.now c.args.writer c.in_ok-no.no c.make_room.ensures.same c.as_slice-2.ensures.value c.enter.ensures c.self.invariant.3,
    )

pub invariant_of-self : goal.invariant_of-self
invariant_of-self g c =
    let old = c.self.inside.groups.items in
    let new = c.make_room.new.groups.items in (
      roomier old new c.make_room.ensures.same c.self.invariant.0,
      c.self.invariant.1,
      held_same (λ gs. AreBefore gs c.self.inside.before.items) old new c.self.inside.engaged.items c.make_room.ensures.same c.self.invariant.2,
      held_same AreSealed old new c.self.inside.engaged.items c.make_room.ensures.same c.self.invariant.3,
    )

pub invariant_of-self-in_err-no : goal.invariant_of-self-in_err-no
invariant_of-self-in_err-no g c =
    let old = c.self.inside.groups.items in
    let new = c.make_room.new.groups.items in (
      roomier old new c.make_room.ensures.same c.self.invariant.0,
      c.self.invariant.1,
      held_same (λ gs. AreBefore gs c.self.inside.before.items) old new c.self.inside.engaged.items c.make_room.ensures.same c.self.invariant.2,
      held_same AreSealed old new c.self.inside.engaged.items c.make_room.ensures.same c.self.invariant.3,
    )

pub returns-in_err-make_room-clause-made : goal.returns-in_err-make_room-clause-made
returns-in_err-make_room-clause-made g c run r = refused-done c.from_residual.result _ c.from_residual.ensures.0

pub returns-in_err-make_room-clause-made_paged : goal.returns-in_err-make_room-clause-made_paged
returns-in_err-make_room-clause-made_paged g c run r = refused-done c.from_residual.result _ c.from_residual.ensures.0

pub returns-in_err-make_room-clause-allowed : goal.returns-in_err-make_room-clause-allowed
returns-in_err-make_room-clause-allowed g c run r = refused-done c.from_residual.result _ c.from_residual.ensures.0

pub returns-in_err-make_room-clause-allowed_paged : goal.returns-in_err-make_room-clause-allowed_paged
returns-in_err-make_room-clause-allowed_paged g c run r = refused-done c.from_residual.result _ c.from_residual.ensures.0

pub returns-in_err-make_room-clause-number : goal.returns-in_err-make_room-clause-number
returns-in_err-make_room-clause-number g c run r = IfOk-from_err c.from_residual.result _ c.from_residual.ensures.0

pub returns-in_err-make_room-clause-number_paged : goal.returns-in_err-make_room-clause-number_paged
returns-in_err-make_room-clause-number_paged g c run r = IfOk-from_err c.from_residual.result _ c.from_residual.ensures.0

pub returns-in_err-make_room-clause-joined : goal.returns-in_err-make_room-clause-joined
returns-in_err-make_room-clause-joined g c = IfOk-from_err c.from_residual.result _ c.from_residual.ensures.0

pub returns-in_err-make_room-clause-cause : goal.returns-in_err-make_room-clause-cause
returns-in_err-make_room-clause-cause g c run r = refused-told c.from_residual.result NoMemory _ c.from_residual.ensures.1 (inr refl)

pub returns-in_err-make_room-clause-cause_paged : goal.returns-in_err-make_room-clause-cause_paged
returns-in_err-make_room-clause-cause_paged g c run r = refused-told c.from_residual.result NoMemory _ c.from_residual.ensures.1 (inr refl)

pub returns-in_err-make_room-clause-trace : goal.returns-in_err-make_room-clause-trace
returns-in_err-make_room-clause-trace g c = refused-done c.from_residual.result _ c.from_residual.ensures.0

pub returns-in_err-make_room-clause-refused : goal.returns-in_err-make_room-clause-refused
returns-in_err-make_room-clause-refused g c = refused-still c.from_residual.result _ (ap (λ gs. let s : Groups = record { groups = gs; engaged = c.self.inside.engaged.items } in s) c.make_room.ensures.same ∙ c.self.view_is)

pub returns-in_err-make_room-clause-refused_cache : goal.returns-in_err-make_room-clause-refused_cache
returns-in_err-make_room-clause-refused_cache g c = refused-still c.from_residual.result _ refl

pub returns-in_err-no-clause-made : goal.returns-in_err-no-clause-made
returns-in_err-no-clause-made g c run r = refused-done c.from_residual-in_err-no.result _ c.from_residual-in_err-no.ensures.0

pub returns-in_err-no-clause-made_paged : goal.returns-in_err-no-clause-made_paged
returns-in_err-no-clause-made_paged g c run r = refused-done c.from_residual-in_err-no.result _ c.from_residual-in_err-no.ensures.0

pub returns-in_err-no-clause-allowed : goal.returns-in_err-no-clause-allowed
returns-in_err-no-clause-allowed g c run r = refused-done c.from_residual-in_err-no.result _ c.from_residual-in_err-no.ensures.0

pub returns-in_err-no-clause-allowed_paged : goal.returns-in_err-no-clause-allowed_paged
returns-in_err-no-clause-allowed_paged g c run r = refused-done c.from_residual-in_err-no.result _ c.from_residual-in_err-no.ensures.0

pub returns-in_err-no-clause-number : goal.returns-in_err-no-clause-number
returns-in_err-no-clause-number g c run r = IfOk-from_err c.from_residual-in_err-no.result _ c.from_residual-in_err-no.ensures.0

pub returns-in_err-no-clause-number_paged : goal.returns-in_err-no-clause-number_paged
returns-in_err-no-clause-number_paged g c run r = IfOk-from_err c.from_residual-in_err-no.result _ c.from_residual-in_err-no.ensures.0

pub returns-in_err-no-clause-joined : goal.returns-in_err-no-clause-joined
returns-in_err-no-clause-joined g c = IfOk-from_err c.from_residual-in_err-no.result _ c.from_residual-in_err-no.ensures.0

pub returns-in_err-no-clause-cause : goal.returns-in_err-no-clause-cause
returns-in_err-no-clause-cause g c run r = refused-told c.from_residual-in_err-no.result c.in_err-no.field-0.0 _ c.from_residual-in_err-no.ensures.1 (inl (c.in_err-no.ensures.cause run r))

pub returns-in_err-no-clause-cause_paged : goal.returns-in_err-no-clause-cause_paged
returns-in_err-no-clause-cause_paged g c run r = refused-told c.from_residual-in_err-no.result c.in_err-no.field-0.0 _ c.from_residual-in_err-no.ensures.1 (inl (c.in_err-no.ensures.cause_paged run r))

pub returns-in_err-no-clause-trace : goal.returns-in_err-no-clause-trace
returns-in_err-no-clause-trace g c = refused-done c.from_residual-in_err-no.result _ c.from_residual-in_err-no.ensures.0

pub returns-in_err-no-clause-refused : goal.returns-in_err-no-clause-refused
returns-in_err-no-clause-refused g c = refused-still c.from_residual-in_err-no.result _ (ap (λ gs. let s : Groups = record { groups = gs; engaged = c.self.inside.engaged.items } in s) c.make_room.ensures.same ∙ c.self.view_is)

pub returns-in_err-no-clause-refused_cache : goal.returns-in_err-no-clause-refused_cache
returns-in_err-no-clause-refused_cache g c = refused-still c.from_residual-in_err-no.result _ c.in_err-no.ensures.refused

pub enter-requires-clause-room : goal.enter-requires-clause-room
enter-requires-clause-room g c = subst (λ es. HaveRoom c.make_room.new.groups.items (names_of es c.args.writer)) (c.as_slice.ensures.value ∙ sym c.as_slice-2.ensures.value) c.in_ok-make_room.ensures.room

pub enter-requires-clause-apart : goal.enter-requires-clause-apart
enter-requires-clause-apart g c = subst AreApart (sym c.as_slice-2.ensures.value) c.self.invariant.1

pub returns-clause-made : goal.returns-clause-made
returns-clause-made g c run r = (c.in_ok-no.ensures.made run r).2

pub returns-clause-made_paged : goal.returns-clause-made_paged
returns-clause-made_paged g c run r = (c.in_ok-no.ensures.made_paged run r).2

pub returns-clause-number : goal.returns-clause-number
returns-clause-number g c run r = (c.in_ok-no.ensures.made run r).1

pub returns-clause-number_paged : goal.returns-clause-number_paged
returns-clause-number_paged g c run r = (c.in_ok-no.ensures.made_paged run r).1

pub returns-clause-allowed : goal.returns-clause-allowed
returns-clause-allowed g c run r = (c.in_ok-no.ensures.made run r).0

pub returns-clause-allowed_paged : goal.returns-clause-allowed_paged
returns-clause-allowed_paged g c run r = (c.in_ok-no.ensures.made_paged run r).0

pub returns-clause-cause : goal.returns-clause-cause
returns-clause-cause g c run r = tt

pub returns-clause-cause_paged : goal.returns-clause-cause_paged
returns-clause-cause_paged g c run r = tt

pub returns-clause-trace : goal.returns-clause-trace
returns-clause-trace g c = c.in_ok-no.ensures.trace

pub returns-clause-refused : goal.returns-clause-refused
returns-clause-refused g c = tt

pub returns-clause-refused_cache : goal.returns-clause-refused_cache
returns-clause-refused_cache g c = tt
