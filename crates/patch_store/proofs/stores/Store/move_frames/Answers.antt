use Rattle.std.proofs.Common.{◌<◌, ◌≡◌, length, take, subst, arith}
use Rattle.std.proofs.lemmas.Option.{get_or_from_slice_get}
use Rattle.patch_history.specs.Choosing.{live_frames}
use Rattle.patch_history.specs.History.{standing_of}
use Rattle.patch_store.specs.Moving.{HaveMoved}
use Rattle.patch_store.proofs.Reclaims.{none_moved, slot_moved, slot_stopped}
use Rattle.patch_store.proofs.stores.Store.move_frames.Goals as goal

pub loop-at-init : goal.loop-at-init
loop-at-init g c h extent is =
    none_moved c.laws_below.ensures h extent c.args.slots.now c.args.self.now is

pub loop-at-preserved : goal.loop-at-preserved
loop-at-preserved g c h extent is =
    let within : c.loop-at.at < length c.args.slots.now = let t = c.loop-at-test.true in let e = c.loop-at.auto.at-end in let n = c.requires in omega (arith, t, e, n) in
    slot_moved c.laws_below.ensures h extent c.args.slots.now c.args.self.now is c.loop-at.at c.nth-slot.result within (get_or_from_slice_get c.args.slots.now c.loop-at.at c.nth-slot.result c.nth-slot.result c.nth-slot.ensures) c.loop-at.self (c.loop-at.invariant h extent is) c.move_frame.new.self
    (λ at e d m. c.in-Ok.ensures at e d m)

pub returns-in_default : goal.returns-in_default
returns-in_default g c h extent is =
    let within : c.loop-at.at < length c.args.slots.now = let t = c.loop-at-test.true in let e = c.loop-at.auto.at-end in let n = c.requires in omega (arith, t, e, n) in
    let fewer : c.loop-at.at < c.args.count = let t = c.loop-at-test.true in let e = c.loop-at.auto.at-end in omega (arith, t, e) in
    slot_stopped c.laws_below.ensures h extent c.args.slots.now c.args.self.now is c.loop-at.at c.nth-slot.result within (get_or_from_slice_get c.args.slots.now c.loop-at.at c.nth-slot.result c.nth-slot.result c.nth-slot.ensures) c.loop-at.self (c.loop-at.invariant h extent is) c.args.count fewer c.move_frame.new.self
    (λ at e d m. c.in_default.ensures at e d m)

pub returns : goal.returns
returns g c h extent is =
    let end : c.loop-at.at ≡ c.args.count = let t = c.loop-at-test.false in let e = c.loop-at.auto.at-end in omega (arith, t, e) in
    subst (λ k. HaveMoved h (take k (live_frames (standing_of h).shelf extent)) c.args.self.now c.loop-at.self) end (c.loop-at.invariant h extent is)
