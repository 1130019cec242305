use Rattle.patch_room.proofs.Steps.{goes_ahead, keeps_empty, timely_leaves}
use Rattle.patch_room.proofs.ahead.move_ahead.Goals as goal

pub returns-in-Ok-clause-moves : goal.returns-in-Ok-clause-moves
returns-in-Ok-clause-moves g c =
    goes_ahead c.laws_below.ensures c.in-Some.share.extent c.in-Some.share.count _ c.args.store.now c.reclaim_some.new.self
    c.in-Some.ensures.some c.in-Ok.ensures.answer c.in-Ok.ensures.moved c.in-Ok.ensures.within

pub returns-in-Ok-clause-reserve : goal.returns-in-Ok-clause-reserve
returns-in-Ok-clause-reserve g c h was has =
    keeps_empty c.laws_below.ensures h c.in-Some.share.extent c.in-Some.share.count _ c.args.store.now c.reclaim_some.new.self was
    (timely_leaves _ _ _ c.in-Some.ensures.some) has c.in-Ok.ensures.answer (c.in-Ok.ensures.within h was)

pub returns-in-Err-clause-moves : goal.returns-in-Err-clause-moves
returns-in-Err-clause-moves g c =
    goes_ahead c.laws_below.ensures c.in-Some.share.extent c.in-Some.share.count _ c.args.store.now c.reclaim_some.new.self
    c.in-Some.ensures.some c.in-Err.ensures.answer c.in-Err.ensures.moved c.in-Err.ensures.within

pub returns-in-Err-clause-reserve : goal.returns-in-Err-clause-reserve
returns-in-Err-clause-reserve g c h was has =
    keeps_empty c.laws_below.ensures h c.in-Some.share.extent c.in-Some.share.count _ c.args.store.now c.reclaim_some.new.self was
    (timely_leaves _ _ _ c.in-Some.ensures.some) has c.in-Err.ensures.answer (c.in-Err.ensures.within h was)
