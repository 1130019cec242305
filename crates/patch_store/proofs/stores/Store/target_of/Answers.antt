use Rattle.std.proofs.Common.{◌+◌, ◌∙◌, ℕ, length, sym, ap, subst, arith}
use Rattle.patch_frame.specs.declared.geometries.Geometry.{Geometry}
use Rattle.patch_frame.specs.Geometry.{value_limit}
use Rattle.patch_plans.specs.Extents.{offset_at}
use Rattle.patch_plans.specs.Planning.{touched}
use Rattle.patch_history.specs.History.{execution_of}
use Rattle.patch_store.specs.Meaning.{Store, IsWhole}
use Rattle.patch_store.proofs.Finding.{key_fits}
use Rattle.patch_store.proofs.Placing.{slot_within, some_key, value_place, small_extents, value_so, index_so, space_so, room_so, room_spent, room_full, room_left}
use Rattle.patch_store.proofs.stores.Store.target_of.Goals as goal

pub returns-then-value-value_limit-clause-cause : goal.returns-then-value-value_limit-clause-cause
returns-then-value-value_limit-clause-cause g c h was =
    let limit = c.value_limit.ensures ∙ ap (λ (d : Geometry). value_limit d.format) (c.self.invariant.0 ∙ ap (λ (x : Store). x.shelf.extents.geometry) c.self.view_is) in
    let fits = key_fits c.args.key.now c.is_empty.result c.is_empty.ensures c.if-is_empty.false c.if-key-gt-MAX_KEY.false in
    value_so h c.args.self.now (record { kept = c.shelves_are_kept.ensures; agree = c.histories_are_of_stores.ensures.agree; was = was }) c.args.key.now c.args.value.now fits
    (omega (arith, limit, c.if-value-value_limit.true))

pub returns-in_default-clause-cause : goal.returns-in_default-clause-cause
returns-in_default-clause-cause g c h was =
    let limit = c.value_limit.ensures ∙ ap (λ (d : Geometry). value_limit d.format) (c.self.invariant.0 ∙ ap (λ (x : Store). x.shelf.extents.geometry) c.self.view_is) in
    let fits = key_fits c.args.key.now c.is_empty.result c.is_empty.ensures c.if-is_empty.false c.if-key-gt-MAX_KEY.false in
    index_so h c.args.self.now (record { kept = c.shelves_are_kept.ensures; agree = c.histories_are_of_stores.ensures.agree; was = was }) c.args.key.now c.args.value.now fits
    (omega (arith, limit, c.if-value-value_limit.false)) (sym c.slot_for.ensures ∙ c.in_default.is)

pub returns-in_default-extent_for_put-clause-cause : goal.returns-in_default-extent_for_put-clause-cause
returns-in_default-extent_for_put-clause-cause g c h was =
    let limit = c.value_limit.ensures ∙ ap (λ (d : Geometry). value_limit d.format) (c.self.invariant.0 ∙ ap (λ (x : Store). x.shelf.extents.geometry) c.self.view_is) in
    let fits = key_fits c.args.key.now c.is_empty.result c.is_empty.ensures c.if-is_empty.false c.if-key-gt-MAX_KEY.false in
    space_so h c.args.self.now (record { kept = c.shelves_are_kept.ensures; agree = c.histories_are_of_stores.ensures.agree; was = was }) c.args.key.now c.args.value.now fits
    (omega (arith, limit, c.if-value-value_limit.false)) c.in-Some.slot (sym c.slot_for.ensures ∙ c.in-Some.is)
    (sym c.extent_for_put.ensures ∙ c.in_default-extent_for_put.is)

pub pointer-offset-requires : goal.pointer-offset-requires
pointer-offset-requires g c =
    let key = c.args.key.now in
    let limit = c.value_limit.ensures ∙ ap (λ (d : Geometry). value_limit d.format) (c.self.invariant.0 ∙ ap (λ (x : Store). x.shelf.extents.geometry) c.self.view_is) in
    let place = value_place c.frames_fit_extents.ensures c.args.self.now.shelf key c.args.value.now c.in-Some-extent_for_put.extent
    (subst (λ (x : Store). IsWhole x.shelf) c.self.view_is c.self.invariant.1) (some_key key c.is_empty.result c.is_empty.ensures c.if-is_empty.false)
    c.if-key-gt-MAX_KEY.false (omega (arith, limit, c.if-value-value_limit.false)) (sym c.extent_for_put.ensures ∙ c.in-Some-extent_for_put.is) in
    let known = place.known in
    let same = ap (λ (x : Store). x.shelf.extents.geometry.extents) c.self.view_is in
    omega (arith, known, same)

pub touched-count-requires-clause-fits : goal.touched-count-requires-clause-fits
touched-count-requires-clause-fits g c =
    let key = c.args.key.now in
    let e = c.in-Some-extent_for_put.extent in
    let limit = c.value_limit.ensures ∙ ap (λ (d : Geometry). value_limit d.format) (c.self.invariant.0 ∙ ap (λ (x : Store). x.shelf.extents.geometry) c.self.view_is) in
    let whole = subst (λ (x : Store). IsWhole x.shelf) c.self.view_is c.self.invariant.1 in
    let place = value_place c.frames_fit_extents.ensures c.args.self.now.shelf key c.args.value.now e
    whole (some_key key c.is_empty.result c.is_empty.ensures c.if-is_empty.false)
    c.if-key-gt-MAX_KEY.false (omega (arith, limit, c.if-value-value_limit.false)) (sym c.extent_for_put.ensures ∙ c.in-Some-extent_for_put.is) in
    let room = place.room in
    let small = small_extents c.args.self.now.shelf.extents.geometry.format whole.geometry.format in
    let offset = ap (λ (r : ℕ × ℕ). r.1) c.pointer-offset.ensures ∙ ap (λ (x : Store). offset_at x.shelf.extents e) c.self.view_is in
    omega (arith, room, small, offset)

pub returns-then-lacks_numbers-clause-cause : goal.returns-then-lacks_numbers-clause-cause
returns-then-lacks_numbers-clause-cause g c h was =
    let e = c.in-Some-extent_for_put.extent in
    let limit = c.value_limit.ensures ∙ ap (λ (d : Geometry). value_limit d.format) (c.self.invariant.0 ∙ ap (λ (x : Store). x.shelf.extents.geometry) c.self.view_is) in
    let fits = key_fits c.args.key.now c.is_empty.result c.is_empty.ensures c.if-is_empty.false c.if-key-gt-MAX_KEY.false in
    let offset = ap (λ (r : ℕ × ℕ). r.1) c.pointer-offset.ensures ∙ ap (λ (x : Store). offset_at x.shelf.extents e) c.self.view_is in
    room_so h c.args.self.now (record { kept = c.shelves_are_kept.ensures; agree = c.histories_are_of_stores.ensures.agree; was = was }) c.args.key.now c.args.value.now fits
    (omega (arith, limit, c.if-value-value_limit.false)) c.in-Some.slot e (c.touched-count.result + 2) (sym c.slot_for.ensures ∙ c.in-Some.is)
    (sym c.extent_for_put.ensures ∙ c.in-Some-extent_for_put.is) (c.frames_are_read_again.ensures.length (record { key = c.args.key.now; value = c.args.value.now }))
    (ap (λ k. k + 2) (c.touched-count.ensures ∙ ap (λ o. touched o (16 + length c.args.key.now + length c.args.value.now)) offset))
    ∙ room_spent _ _ _ (sym (c.lacks_numbers.ensures (execution_of h) was.cache_is) ∙ c.if-lacks_numbers.true)

pub returns-then-lacks_room-clause-cause : goal.returns-then-lacks_room-clause-cause
returns-then-lacks_room-clause-cause g c h was =
    let e = c.in-Some-extent_for_put.extent in
    let limit = c.value_limit.ensures ∙ ap (λ (d : Geometry). value_limit d.format) (c.self.invariant.0 ∙ ap (λ (x : Store). x.shelf.extents.geometry) c.self.view_is) in
    let fits = key_fits c.args.key.now c.is_empty.result c.is_empty.ensures c.if-is_empty.false c.if-key-gt-MAX_KEY.false in
    let offset = ap (λ (r : ℕ × ℕ). r.1) c.pointer-offset.ensures ∙ ap (λ (x : Store). offset_at x.shelf.extents e) c.self.view_is in
    room_so h c.args.self.now (record { kept = c.shelves_are_kept.ensures; agree = c.histories_are_of_stores.ensures.agree; was = was }) c.args.key.now c.args.value.now fits
    (omega (arith, limit, c.if-value-value_limit.false)) c.in-Some.slot e (c.touched-count.result + 2) (sym c.slot_for.ensures ∙ c.in-Some.is)
    (sym c.extent_for_put.ensures ∙ c.in-Some-extent_for_put.is) (c.frames_are_read_again.ensures.length (record { key = c.args.key.now; value = c.args.value.now }))
    (ap (λ k. k + 2) (c.touched-count.ensures ∙ ap (λ o. touched o (16 + length c.args.key.now + length c.args.value.now)) offset))
    ∙ room_full _ _ _ (sym (c.lacks_numbers.ensures (execution_of h) was.cache_is) ∙ c.if-lacks_numbers.false)
    (sym (c.lacks_room.ensures (execution_of h) was.cache_is) ∙ c.if-lacks_room.true)

pub returns-clause-none : goal.returns-clause-none
returns-clause-none g c h was =
    let e = c.in-Some-extent_for_put.extent in
    let limit = c.value_limit.ensures ∙ ap (λ (d : Geometry). value_limit d.format) (c.self.invariant.0 ∙ ap (λ (x : Store). x.shelf.extents.geometry) c.self.view_is) in
    let fits = key_fits c.args.key.now c.is_empty.result c.is_empty.ensures c.if-is_empty.false c.if-key-gt-MAX_KEY.false in
    let offset = ap (λ (r : ℕ × ℕ). r.1) c.pointer-offset.ensures ∙ ap (λ (x : Store). offset_at x.shelf.extents e) c.self.view_is in
    room_so h c.args.self.now (record { kept = c.shelves_are_kept.ensures; agree = c.histories_are_of_stores.ensures.agree; was = was }) c.args.key.now c.args.value.now fits
    (omega (arith, limit, c.if-value-value_limit.false)) c.in-Some.slot e (c.touched-count.result + 2) (sym c.slot_for.ensures ∙ c.in-Some.is)
    (sym c.extent_for_put.ensures ∙ c.in-Some-extent_for_put.is) (c.frames_are_read_again.ensures.length (record { key = c.args.key.now; value = c.args.value.now }))
    (ap (λ k. k + 2) (c.touched-count.ensures ∙ ap (λ o. touched o (16 + length c.args.key.now + length c.args.value.now)) offset))
    ∙ room_left _ _ _ (sym (c.lacks_numbers.ensures (execution_of h) was.cache_is) ∙ c.if-lacks_numbers.false)
    (sym (c.lacks_room.ensures (execution_of h) was.cache_is) ∙ c.if-lacks_room.false)

pub returns-clause-target : goal.returns-clause-target
returns-clause-target g c =
    let key = c.args.key.now in
    let e = c.in-Some-extent_for_put.extent in
    let limit = c.value_limit.ensures ∙ ap (λ (d : Geometry). value_limit d.format) (c.self.invariant.0 ∙ ap (λ (x : Store). x.shelf.extents.geometry) c.self.view_is) in
    let there = sym c.extent_for_put.ensures ∙ c.in-Some-extent_for_put.is in
    let at = sym c.slot_for.ensures ∙ c.in-Some.is in
    let place = value_place c.frames_fit_extents.ensures c.args.self.now.shelf key c.args.value.now e
    (subst (λ (x : Store). IsWhole x.shelf) c.self.view_is c.self.invariant.1) (some_key key c.is_empty.result c.is_empty.ensures c.if-is_empty.false)
    c.if-key-gt-MAX_KEY.false (omega (arith, limit, c.if-value-value_limit.false)) there in
    record { slot_is = at; extent_is = there; within = slot_within c.args.self.now.shelf key c.in-Some.slot at; known = place.known }
