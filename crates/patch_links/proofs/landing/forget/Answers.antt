use Rattle.std.proofs.Common.{sym, ◌∙◌, arith}
use Rattle.patch_links.proofs.Places.{same_default}
use Rattle.patch_links.proofs.Landings.{forgotten-more}
use Rattle.patch_links.proofs.landing.forget.Goals as goal

pub loop-no-preserved : goal.loop-no-preserved
loop-no-preserved g c = forgotten-more _ _ _ _ c.loop-no.no-index c.no-item.result
    (sym (c.no-item.is ∙ same_default c.args.members.now c.loop-no.no-index c.no-item.result 0 (omega arith))) c.loop-no.invariant c.forget_one.ensures.here
    c.forget_one.ensures.others
