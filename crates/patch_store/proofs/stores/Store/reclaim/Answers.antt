use Rattle.std.proofs.Common.{◌∙◌, sym, ap, arith}
use Rattle.std.specs.Prelude.{Some}
use Rattle.std.proofs.lemmas.Result.{err_from_is_err_and}
use Rattle.patch_history.specs.Refusals.{reclaim_cause}
use Rattle.patch_store.specs.Moving.{IsReclaiming, live_slots}
use Rattle.patch_store.proofs.Reclaims.{all_moved, stopped_so, reclaimed_so, not_emptied_so, refused_reclaim}
use Rattle.patch_store.proofs.stores.Store.reclaim.Goals as goal

pub returns-in_err-slots-clause-answer : goal.returns-in_err-slots-clause-answer
returns-in_err-slots-clause-answer g c writer h was =
    let p = err_from_is_err_and c.from_residual.result c.from_residual.ensures.1 in
    rw p.1 (refused_reclaim c.laws_below.ensures.extends h writer c.args.extent (reclaim_cause p.0) c.args.self.now was
    (c.in_err-slots.ensures.cause h was ∙ ap (λ r. Some (reclaim_cause r)) (sym p.2)))

pub returns-in_default-clause-answer : goal.returns-in_default-clause-answer
returns-in_default-clause-answer g c writer h was =
    let is : IsReclaiming h c.args.extent c.in_ok-slots.slots c.args.self.now = record {
      represents = was;
      no_cause = c.in_ok-slots.ensures.none h was;
      slots_are = c.in_ok-slots.ensures.slots ∙ ap (λ s. live_slots s c.args.extent) was.shelf_is;
    } in
    stopped_so c.laws_below.ensures h c.args.extent c.in_ok-slots.slots c.args.self.now is writer c.move_frames.new.self
    (c.in_default.ensures h c.args.extent is).0

pub returns-in_default-empty_extent-clause-answer : goal.returns-in_default-empty_extent-clause-answer
returns-in_default-empty_extent-clause-answer g c writer h was =
    let is : IsReclaiming h c.args.extent c.in_ok-slots.slots c.args.self.now = record {
      represents = was;
      no_cause = c.in_ok-slots.ensures.none h was;
      slots_are = c.in_ok-slots.ensures.slots ∙ ap (λ s. live_slots s c.args.extent) was.shelf_is;
    } in
    not_emptied_so c.laws_below.ensures h c.args.extent c.in_ok-slots.slots c.args.self.now is c.move_frames.new.self
    (all_moved c.laws_below.ensures h c.args.extent c.in_ok-slots.slots c.args.self.now is c.len.result c.move_frames.new.self (let n = c.len.ensures in omega (arith, n)) (c.in-Ok.ensures h c.args.extent is)) writer c.empty_extent.new.self c.in_default-empty_extent.ensures

pub returns-clause-answer : goal.returns-clause-answer
returns-clause-answer g c writer h was =
    let is : IsReclaiming h c.args.extent c.in_ok-slots.slots c.args.self.now = record {
      represents = was;
      no_cause = c.in_ok-slots.ensures.none h was;
      slots_are = c.in_ok-slots.ensures.slots ∙ ap (λ s. live_slots s c.args.extent) was.shelf_is;
    } in
    reclaimed_so c.laws_below.ensures h c.args.extent c.in_ok-slots.slots c.args.self.now is c.move_frames.new.self
    (all_moved c.laws_below.ensures h c.args.extent c.in_ok-slots.slots c.args.self.now is c.len.result c.move_frames.new.self (let n = c.len.ensures in omega (arith, n)) (c.in-Ok.ensures h c.args.extent is)) writer c.empty_extent.new.self (λ at stands. c.in-Ok-empty_extent.ensures at stands)
