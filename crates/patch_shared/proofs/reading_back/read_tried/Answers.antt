use Rattle.std.proofs.Common.{◌≡◌, subst, arith}
use Rattle.patch_cache.specs.Waves.{HasRisenBy}
use Rattle.patch_shared.specs.Serving.{AreUnread}
use Rattle.patch_shared.proofs.Resting.{gave_up_read}
use Rattle.patch_shared.proofs.reading_back.read_tried.Goals as goal

pub returns-clause-gave_up : goal.returns-clause-gave_up
returns-clause-gave_up g c =
    let d = g.D.Device in
    let so_far = c.loop-tried.invariant in
    let full : c.loop-tried._tried ≡ 8 = let end = c.loop-tried.auto._tried-end in let none = c.loop-tried-test.false in omega (arith, end, none) in
    gave_up_read d c.args.n c.args.device.now c.loop-tried.device
    (subst (λ n. HasRisenBy n (d.fault_count c.args.device.now) (d.fault_count c.loop-tried.device)) full so_far.risen)
    (subst (λ n. AreUnread d n c.args.device.now c.loop-tried.device) full so_far.unread)
