use Rattle.std.proofs.Common.{◌≡◌, ◌<◌, ◌≤◌, ◌∙◌, length, drop, refl, sym, ap, subst, arith}
use Rattle.std.specs.Prelude.{Some}
use Rattle.std.proofs.lemmas.Result.{err_from_is_err_and}
use Rattle.patch_history.specs.Choosing.{live_frames}
use Rattle.patch_history.specs.Refusals.{reclaim_cause}
use Rattle.patch_store.specs.Moving.{IsReclaiming, live_slots, HasMovedWithin}
use Rattle.patch_store.proofs.Leaving.{others_left, none_left}
use Rattle.patch_store.proofs.Reclaims.{all_moved, some_moved, moved_within, more_within, none_within, stopped_so, reclaimed_so, not_emptied_so, refused_reclaim}
use Rattle.patch_store.proofs.stores.Store.reclaim_some.Goals as goal

pub returns-in_err-slots-clause-answer : goal.returns-in_err-slots-clause-answer
returns-in_err-slots-clause-answer g c writer h was =
    let p = err_from_is_err_and c.from_residual.result c.from_residual.ensures.1 in
    rw p.1 (refused_reclaim c.laws_below.ensures.extends h writer c.args.extent (reclaim_cause p.0) c.args.self.now was
    (c.in_err-slots.ensures.cause h was ∙ ap (λ r. Some (reclaim_cause r)) (sym p.2)))

pub returns-in_default-clause-answer : goal.returns-in_default-clause-answer
returns-in_default-clause-answer g c writer h was =
    let is : IsReclaiming h c.args.extent c.in_ok-slots.slots c.args.self.now = record {
      represents = was;
      no_cause = c.in_ok-slots.ensures.none h was;
      slots_are = c.in_ok-slots.ensures.slots ∙ ap (λ s. live_slots s c.args.extent) was.shelf_is;
    } in
    stopped_so c.laws_below.ensures h c.args.extent c.in_ok-slots.slots c.args.self.now is writer c.move_frames.new.self (c.in_default.ensures h c.args.extent is).0

pub returns-then-count-len-clause-answer : goal.returns-then-count-len-clause-answer
returns-then-count-len-clause-answer g c writer h was =
    let is : IsReclaiming h c.args.extent c.in_ok-slots.slots c.args.self.now = record {
      represents = was;
      no_cause = c.in_ok-slots.ensures.none h was;
      slots_are = c.in_ok-slots.ensures.slots ∙ ap (λ s. live_slots s c.args.extent) was.shelf_is;
    } in
    let less : c.min-count.result < length c.in_ok-slots.slots = let n = c.len-2.ensures in let t = c.if-count-len.true in omega (arith, n, t) in
    stopped_so c.laws_below.ensures h c.args.extent c.in_ok-slots.slots c.args.self.now is writer c.move_frames.new.self
    (some_moved c.laws_below.ensures h c.args.extent c.in_ok-slots.slots c.args.self.now is c.min-count.result c.move_frames.new.self less (c.in-Ok.ensures h c.args.extent is))

pub returns-then-count-len-clause-moved : goal.returns-then-count-len-clause-moved
returns-then-count-len-clause-moved g c h was =
    let is : IsReclaiming h c.args.extent c.in_ok-slots.slots c.args.self.now = record {
      represents = was;
      no_cause = c.in_ok-slots.ensures.none h was;
      slots_are = c.in_ok-slots.ensures.slots ∙ ap (λ s. live_slots s c.args.extent) was.shelf_is;
    } in
    let most : c.min-count.result ≡ c.args.most = let l = c.len.ensures in let n = c.len-2.ensures in let m = c.min-count.ensures in let t = c.if-count-len.true in omega (arith, l, n, m, t) in
    others_left h c.args.extent c.in_ok-slots.slots c.args.self.now is c.min-count.result c.move_frames.new.self (c.in-Ok.ensures h c.args.extent is)
    ∙ ap (λ k. drop k (live_frames c.args.self.now.shelf c.args.extent)) most

pub returns-in_default-empty_extent-clause-answer : goal.returns-in_default-empty_extent-clause-answer
returns-in_default-empty_extent-clause-answer g c writer h was =
    let is : IsReclaiming h c.args.extent c.in_ok-slots.slots c.args.self.now = record {
      represents = was;
      no_cause = c.in_ok-slots.ensures.none h was;
      slots_are = c.in_ok-slots.ensures.slots ∙ ap (λ s. live_slots s c.args.extent) was.shelf_is;
    } in
    let end : length c.in_ok-slots.slots ≤ c.min-count.result = let n = c.len-2.ensures in let t = c.if-count-len.false in omega (arith, n, t) in
    not_emptied_so c.laws_below.ensures h c.args.extent c.in_ok-slots.slots c.args.self.now is c.move_frames.new.self
    (all_moved c.laws_below.ensures h c.args.extent c.in_ok-slots.slots c.args.self.now is c.min-count.result c.move_frames.new.self end (c.in-Ok.ensures h c.args.extent is)) writer c.empty_extent.new.self c.in_default-empty_extent.ensures

pub returns-clause-answer : goal.returns-clause-answer
returns-clause-answer g c writer h was =
    let is : IsReclaiming h c.args.extent c.in_ok-slots.slots c.args.self.now = record {
      represents = was;
      no_cause = c.in_ok-slots.ensures.none h was;
      slots_are = c.in_ok-slots.ensures.slots ∙ ap (λ s. live_slots s c.args.extent) was.shelf_is;
    } in
    let end : length c.in_ok-slots.slots ≤ c.min-count.result = let n = c.len-2.ensures in let t = c.if-count-len.false in omega (arith, n, t) in
    reclaimed_so c.laws_below.ensures h c.args.extent c.in_ok-slots.slots c.args.self.now is c.move_frames.new.self
    (all_moved c.laws_below.ensures h c.args.extent c.in_ok-slots.slots c.args.self.now is c.min-count.result c.move_frames.new.self end (c.in-Ok.ensures h c.args.extent is))
    writer c.empty_extent.new.self (λ at stands. c.in-Ok-empty_extent.ensures at stands)

pub returns-clause-moved : goal.returns-clause-moved
returns-clause-moved g c h was =
    let is : IsReclaiming h c.args.extent c.in_ok-slots.slots c.args.self.now = record {
      represents = was;
      no_cause = c.in_ok-slots.ensures.none h was;
      slots_are = c.in_ok-slots.ensures.slots ∙ ap (λ s. live_slots s c.args.extent) was.shelf_is;
    } in
    let end : length c.in_ok-slots.slots ≤ c.min-count.result = let n = c.len-2.ensures in let t = c.if-count-len.false in omega (arith, n, t) in
    let enough : length c.in_ok-slots.slots ≤ c.args.most = let l = c.len.ensures in let m = c.min-count.ensures in omega (arith, l, m, end) in
    none_left h c.args.extent c.in_ok-slots.slots c.args.self.now is c.laws_below.ensures c.min-count.result c.args.most c.move_frames.new.self
    c.empty_extent.new.self end enough (c.in-Ok.ensures h c.args.extent is) (λ at stands. c.in-Ok-empty_extent.ensures at stands)

pub returns-in_err-slots-clause-within : goal.returns-in_err-slots-clause-within
returns-in_err-slots-clause-within g c h was others =
    none_within h c.args.extent c.args.most c.args.self.now was

pub returns-in_default-clause-within : goal.returns-in_default-clause-within
returns-in_default-clause-within g c h was others =
    let is : IsReclaiming h c.args.extent c.in_ok-slots.slots c.args.self.now = record {
      represents = was;
      no_cause = c.in_ok-slots.ensures.none h was;
      slots_are = c.in_ok-slots.ensures.slots ∙ ap (λ s. live_slots s c.args.extent) was.shelf_is;
    } in
    let few : c.min-count.result ≤ c.args.most = let l = c.len.ensures in let m = c.min-count.ensures in omega (arith, l, m) in
    more_within h c.args.extent c.min-count.result c.args.most c.move_frames.new.self few (c.in_default.ensures h c.args.extent is).1

pub returns-then-count-len-clause-within : goal.returns-then-count-len-clause-within
returns-then-count-len-clause-within g c h was others =
    let is : IsReclaiming h c.args.extent c.in_ok-slots.slots c.args.self.now = record {
      represents = was;
      no_cause = c.in_ok-slots.ensures.none h was;
      slots_are = c.in_ok-slots.ensures.slots ∙ ap (λ s. live_slots s c.args.extent) was.shelf_is;
    } in
    let few : c.min-count.result ≤ c.args.most = let l = c.len.ensures in let m = c.min-count.ensures in omega (arith, l, m) in
    moved_within c.laws_below.ensures h c.args.extent c.in_ok-slots.slots c.args.self.now is c.min-count.result c.args.most c.move_frames.new.self few
    (c.in-Ok.ensures h c.args.extent is)

pub returns-in_default-empty_extent-clause-within : goal.returns-in_default-empty_extent-clause-within
returns-in_default-empty_extent-clause-within g c h was others =
    let is : IsReclaiming h c.args.extent c.in_ok-slots.slots c.args.self.now = record {
      represents = was;
      no_cause = c.in_ok-slots.ensures.none h was;
      slots_are = c.in_ok-slots.ensures.slots ∙ ap (λ s. live_slots s c.args.extent) was.shelf_is;
    } in
    let few : c.min-count.result ≤ c.args.most = let l = c.len.ensures in let m = c.min-count.ensures in omega (arith, l, m) in
    subst (HasMovedWithin h c.args.extent c.args.most) (sym c.in_default-empty_extent.ensures)
    (moved_within c.laws_below.ensures h c.args.extent c.in_ok-slots.slots c.args.self.now is c.min-count.result c.args.most c.move_frames.new.self few
    (c.in-Ok.ensures h c.args.extent is))

pub returns-clause-within : goal.returns-clause-within
returns-clause-within g c h was others =
    absurd (others refl)
