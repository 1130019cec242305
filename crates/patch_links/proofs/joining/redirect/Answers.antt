use Rattle.std.proofs.Common.{sym, ◌∙◌, arith}
use Rattle.patch_links.proofs.Places.{same_default}
use Rattle.patch_links.proofs.Redirecting.{redirected-more, redirected-all}
use Rattle.patch_links.proofs.joining.redirect.Goals as goal

pub loop-no-preserved : goal.loop-no-preserved
loop-no-preserved g c = redirected-more _ _ _ _ _ c.loop-no.no-index c.no-item.result (omega arith)
    (sym (c.no-item.is ∙ same_default c.args.members.now c.loop-no.no-index c.no-item.result 0 (omega arith))) c.loop-no.invariant
    c.redirect_one.ensures.here c.redirect_one.ensures.others

pub returns : goal.returns
returns g c = redirected-all _ _ _ _ _ (omega arith) c.loop-no.invariant
