use Rattle.std.proofs.Common.{◌≡◌, ◌+◌, ◌∙◌, [], length, drop, get_or, sym, ap, subst, arith}
use Rattle.std.specs.Prelude.{None}
use Rattle.std.proofs.lemmas.List.{drop_all}
use Rattle.patch_history.specs.Choosing.{live_frames}
use Rattle.patch_history.specs.History.{standing_of}
use Rattle.patch_history.specs.Shelf.{Shelf}
use Rattle.patch_index.specs.Index.{told}
use Rattle.patch_index.specs.Said.{length-slots_of}
use Rattle.patch_store.specs.Meaning.{Store}
use Rattle.patch_store.specs.Moving.{live_slots}
use Rattle.patch_store.specs.Trials.{Alike}
use Rattle.patch_store.proofs.Summed.{AreTried, is_read, never_empty, none_tried, more_tried, no_room_left, all_tried}
use Rattle.patch_store.proofs.stores.Store.patches_of_moves.Goals as goal

pub loop-at-init : goal.loop-at-init
loop-at-init g c = (
  omega arith,
  λ h extent was same. none_tried (standing_of h) extent c.of-trial.result (subst (λ s. Alike s c.of-trial.result) was.shelf_is (c.of-trial.ensures h was)),
)

pub returns-in_default-clause-count : goal.returns-in_default-clause-count
returns-in_default-clause-count g c h extent was same =
    let slot = c.nth-slot.result in
    let says : told c.entry.result ≡ get_or c.args.self.now.shelf.slots slot None =
    ◌∙◌ {b = get_or c.self.inside.index slot None} c.entry.ensures (ap (λ (x : Store). get_or x.shelf.slots slot None) c.self.view_is) in
    absurd (never_empty h c.args.self.now c.args.live.now extent c.loop-at.at slot was same c.nth-slot.ensures
    (ap told (sym c.in_default.is) ∙ says))

pub returns-in_default-try_frame-clause-count : goal.returns-in_default-try_frame-clause-count
returns-in_default-try_frame-clause-count g c h extent was same =
    let slot = c.nth-slot.result in
    let says : told c.entry.result ≡ get_or c.args.self.now.shelf.slots slot None =
    ◌∙◌ {b = get_or c.self.inside.index slot None} c.entry.ensures (ap (λ (x : Store). get_or x.shelf.slots slot None) c.self.view_is) in
    let entry = c.in-Some.entry in
    let read = is_read c.commands_fit.ensures.frames c.frames_are_read_again.ensures.length h c.args.self.now c.args.live.now extent c.loop-at.at slot entry was same
    c.nth-slot.ensures
    (ap told (sym c.in-Some.is) ∙ says) in
    let rest = drop (c.loop-at.at + 1) (live_frames (standing_of h).shelf extent) in
    no_room_left (standing_of h) extent read.frame rest c.loop-at.count entry.length c.loop-at.trial c.try_frame.new.self
    (subst (λ fs. AreTried (standing_of h) extent fs c.loop-at.count c.loop-at.trial) read.rest (c.loop-at.invariant.1 h extent was same))
    read.long c.in_default-try_frame.ensures.tried

pub loop-at-preserved : goal.loop-at-preserved
loop-at-preserved g c =
    let low = c.loop-at.invariant.0 in
    let few = c.in-Some-try_frame.ensures.few in (
      omega (arith, low, few),
      λ h extent was same.
          let slot = c.nth-slot.result in
          let says : told c.entry.result ≡ get_or c.args.self.now.shelf.slots slot None =
          ◌∙◌ {b = get_or c.self.inside.index slot None} c.entry.ensures (ap (λ (x : Store). get_or x.shelf.slots slot None) c.self.view_is) in
          let entry = c.in-Some.entry in
          let read = is_read c.commands_fit.ensures.frames c.frames_are_read_again.ensures.length h c.args.self.now c.args.live.now extent c.loop-at.at slot entry was same
          c.nth-slot.ensures
          (ap told (sym c.in-Some.is) ∙ says) in
          let rest = drop (c.loop-at.at + 1) (live_frames (standing_of h).shelf extent) in
          more_tried (standing_of h) extent read.frame rest c.loop-at.count entry.length c.in-Some-try_frame.patches c.loop-at.trial c.try_frame.new.self
          (subst (λ fs. AreTried (standing_of h) extent fs c.loop-at.count c.loop-at.trial) read.rest (c.loop-at.invariant.1 h extent was same))
          read.long read.spelled c.in-Some-try_frame.ensures.tried,
    )

pub returns-clause-count : goal.returns-clause-count
returns-clause-count g c h extent was same =
    let end = c.loop-at-test.false in
    let count = c.len-at-end.ensures in
    let frames = live_frames (standing_of h).shelf extent in
    let long : length c.args.live.now ≡ length frames =
    ap length (same ∙ ap (λ (x : Shelf). live_slots x extent) was.shelf_is) ∙ length-slots_of frames in
    let none : drop c.loop-at.at frames ≡ [] = drop_all c.loop-at.at frames (omega (arith, end, count, long)) in
    all_tried (standing_of h) extent c.loop-at.count c.loop-at.trial
    (subst (λ fs. AreTried (standing_of h) extent fs c.loop-at.count c.loop-at.trial) none (c.loop-at.invariant.1 h extent was same))
