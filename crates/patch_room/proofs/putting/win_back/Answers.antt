use Rattle.std.proofs.Common.{inr, sym, subst}
use Rattle.patch_history.specs.Command.{Refused}
use Rattle.patch_history.specs.Refusals.{put_cause}
use Rattle.patch_room.specs.Putting.{HasReclaimed}
use Rattle.patch_room.proofs.Calling.{reclaimed, not_reclaimed}
use Rattle.patch_room.proofs.putting.win_back.Goals as goal

pub returns-in-Ok-clause-won : goal.returns-in-Ok-clause-won
returns-in-Ok-clause-won g c h writer was =
    inr (reclaimed h writer c.args.len c.in-Some.extent _ c.args.store.now c.reclaim.new.self was c.in-Some.ensures.some
    (c.in-Ok.ensures.answer writer h was))

pub returns-in-Err-clause-won : goal.returns-in-Err-clause-won
returns-in-Err-clause-won g c h writer was =
    inr (subst (λ refusal. HasReclaimed h writer c.args.len (Refused (put_cause refusal)) c.args.store.now c.reclaim.new.self)
    (sym c.put_refusal.ensures)
    (not_reclaimed c.laws_below.ensures h writer c.args.len c.in-Some.extent c.in-Err.refusal c.args.store.now c.reclaim.new.self
    was c.in-Some.ensures.some (c.in-Err.ensures.answer writer h was)))
