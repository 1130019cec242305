use Rattle.std.proofs.Common.{ℕ, ◌∙◌, sym, ap, arith}
use Rattle.patch_frame.specs.declared.geometries.Geometry.{Geometry}
use Rattle.patch_plans.specs.Extents.{generation_at, offset_at}
use Rattle.patch_history.specs.History.{execution_of}
use Rattle.patch_store.specs.Meaning.{Store}
use Rattle.patch_store.specs.Moving.{live_slots}
use Rattle.patch_store.proofs.Judged.{IsFree, no_space, room_for, in_use, spent}
use Rattle.patch_store.proofs.Placing.{room_spent, room_full, room_left}
use Rattle.patch_store.proofs.stores.Store.slots_to_move.Goals as goal

pub returns-in_default-clause-cause : goal.returns-in_default-clause-cause
returns-in_default-clause-cause g c h was =
    let e = c.args.extent in
    let count = ap (λ (k : Geometry). k.extents) c.self.invariant.0 ∙ ap (λ (x : Store). x.shelf.extents.geometry.extents) c.self.view_is in
    let generation = ap (λ (r : ℕ × ℕ). r.0) c.pointer-generation.ensures ∙ ap (λ (x : Store). generation_at x.shelf.extents e) c.self.view_is in
    let offset = ap (λ (r : ℕ × ℕ). r.1) c.pointer-generation.ensures ∙ ap (λ (x : Store). offset_at x.shelf.extents e) c.self.view_is in
    let live = c.live_slots-live.ensures ∙ ap (λ (x : Store). live_slots x.shelf e) c.self.view_is in
    let there = c.if-extent-self.false in
    let begun = c.if-offset-eq0.false in
    let unspent = c.if-generation.false in
    let free : IsFree c.args.self.now.shelf e = record {
      known = omega (arith, there, count);
      begun = omega (arith, begun, offset);
      unused = sym (c.is_in_use.ensures live) ∙ c.if-is_in_use.false;
      unspent = omega (arith, unspent, generation);
    } in
    no_space h c.args.self.now e was free (c.in_default.ensures.count h e was live)

pub returns-then-lacks_numbers-clause-cause : goal.returns-then-lacks_numbers-clause-cause
returns-then-lacks_numbers-clause-cause g c h was =
    let e = c.args.extent in
    let count = ap (λ (k : Geometry). k.extents) c.self.invariant.0 ∙ ap (λ (x : Store). x.shelf.extents.geometry.extents) c.self.view_is in
    let generation = ap (λ (r : ℕ × ℕ). r.0) c.pointer-generation.ensures ∙ ap (λ (x : Store). generation_at x.shelf.extents e) c.self.view_is in
    let offset = ap (λ (r : ℕ × ℕ). r.1) c.pointer-generation.ensures ∙ ap (λ (x : Store). offset_at x.shelf.extents e) c.self.view_is in
    let live = c.live_slots-live.ensures ∙ ap (λ (x : Store). live_slots x.shelf e) c.self.view_is in
    let there = c.if-extent-self.false in
    let begun = c.if-offset-eq0.false in
    let unspent = c.if-generation.false in
    let free : IsFree c.args.self.now.shelf e = record {
      known = omega (arith, there, count);
      begun = omega (arith, begun, offset);
      unused = sym (c.is_in_use.ensures live) ∙ c.if-is_in_use.false;
      unspent = omega (arith, unspent, generation);
    } in
    room_for c.histories_are_of_stores.ensures.agree h c.args.self.now e c.in-Some.moving was free (c.in-Some.ensures.count h e was live)
    ∙ room_spent _ _ _ (sym (c.lacks_numbers.ensures (execution_of h) was.cache_is) ∙ c.if-lacks_numbers.true)

pub returns-then-lacks_room-clause-cause : goal.returns-then-lacks_room-clause-cause
returns-then-lacks_room-clause-cause g c h was =
    let e = c.args.extent in
    let count = ap (λ (k : Geometry). k.extents) c.self.invariant.0 ∙ ap (λ (x : Store). x.shelf.extents.geometry.extents) c.self.view_is in
    let generation = ap (λ (r : ℕ × ℕ). r.0) c.pointer-generation.ensures ∙ ap (λ (x : Store). generation_at x.shelf.extents e) c.self.view_is in
    let offset = ap (λ (r : ℕ × ℕ). r.1) c.pointer-generation.ensures ∙ ap (λ (x : Store). offset_at x.shelf.extents e) c.self.view_is in
    let live = c.live_slots-live.ensures ∙ ap (λ (x : Store). live_slots x.shelf e) c.self.view_is in
    let there = c.if-extent-self.false in
    let begun = c.if-offset-eq0.false in
    let unspent = c.if-generation.false in
    let free : IsFree c.args.self.now.shelf e = record {
      known = omega (arith, there, count);
      begun = omega (arith, begun, offset);
      unused = sym (c.is_in_use.ensures live) ∙ c.if-is_in_use.false;
      unspent = omega (arith, unspent, generation);
    } in
    room_for c.histories_are_of_stores.ensures.agree h c.args.self.now e c.in-Some.moving was free (c.in-Some.ensures.count h e was live)
    ∙ room_full _ _ _ (sym (c.lacks_numbers.ensures (execution_of h) was.cache_is) ∙ c.if-lacks_numbers.false)
    (sym (c.lacks_room.ensures (execution_of h) was.cache_is) ∙ c.if-lacks_room.true)

pub returns-clause-none : goal.returns-clause-none
returns-clause-none g c h was =
    let e = c.args.extent in
    let count = ap (λ (k : Geometry). k.extents) c.self.invariant.0 ∙ ap (λ (x : Store). x.shelf.extents.geometry.extents) c.self.view_is in
    let generation = ap (λ (r : ℕ × ℕ). r.0) c.pointer-generation.ensures ∙ ap (λ (x : Store). generation_at x.shelf.extents e) c.self.view_is in
    let offset = ap (λ (r : ℕ × ℕ). r.1) c.pointer-generation.ensures ∙ ap (λ (x : Store). offset_at x.shelf.extents e) c.self.view_is in
    let live = c.live_slots-live.ensures ∙ ap (λ (x : Store). live_slots x.shelf e) c.self.view_is in
    let there = c.if-extent-self.false in
    let begun = c.if-offset-eq0.false in
    let unspent = c.if-generation.false in
    let free : IsFree c.args.self.now.shelf e = record {
      known = omega (arith, there, count);
      begun = omega (arith, begun, offset);
      unused = sym (c.is_in_use.ensures live) ∙ c.if-is_in_use.false;
      unspent = omega (arith, unspent, generation);
    } in
    room_for c.histories_are_of_stores.ensures.agree h c.args.self.now e c.in-Some.moving was free (c.in-Some.ensures.count h e was live)
    ∙ room_left _ _ _ (sym (c.lacks_numbers.ensures (execution_of h) was.cache_is) ∙ c.if-lacks_numbers.false)
    (sym (c.lacks_room.ensures (execution_of h) was.cache_is) ∙ c.if-lacks_room.false)

pub returns-then-is_in_use-clause-cause : goal.returns-then-is_in_use-clause-cause
returns-then-is_in_use-clause-cause g c h was =
    let e = c.args.extent in
    let count = ap (λ (k : Geometry). k.extents) c.self.invariant.0 ∙ ap (λ (x : Store). x.shelf.extents.geometry.extents) c.self.view_is in
    let offset = ap (λ (r : ℕ × ℕ). r.1) c.pointer-generation.ensures ∙ ap (λ (x : Store). offset_at x.shelf.extents e) c.self.view_is in
    let live = c.live_slots-live.ensures ∙ ap (λ (x : Store). live_slots x.shelf e) c.self.view_is in
    let there = c.if-extent-self.false in
    let begun = c.if-offset-eq0.false in
    in_use h c.args.self.now e was (omega (arith, there, count)) (omega (arith, begun, offset)) (sym (c.is_in_use.ensures live) ∙ c.if-is_in_use.true)

pub returns-then-generation-clause-cause : goal.returns-then-generation-clause-cause
returns-then-generation-clause-cause g c h was =
    let e = c.args.extent in
    let count = ap (λ (k : Geometry). k.extents) c.self.invariant.0 ∙ ap (λ (x : Store). x.shelf.extents.geometry.extents) c.self.view_is in
    let generation = ap (λ (r : ℕ × ℕ). r.0) c.pointer-generation.ensures ∙ ap (λ (x : Store). generation_at x.shelf.extents e) c.self.view_is in
    let offset = ap (λ (r : ℕ × ℕ). r.1) c.pointer-generation.ensures ∙ ap (λ (x : Store). offset_at x.shelf.extents e) c.self.view_is in
    let live = c.live_slots-live.ensures ∙ ap (λ (x : Store). live_slots x.shelf e) c.self.view_is in
    let there = c.if-extent-self.false in
    let begun = c.if-offset-eq0.false in
    let last = c.if-generation.true in
    spent h c.args.self.now e was (omega (arith, there, count)) (omega (arith, begun, offset)) (sym (c.is_in_use.ensures live) ∙ c.if-is_in_use.false)
    (omega (arith, last, generation))
