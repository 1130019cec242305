use Rattle.std.proofs.Common.{sym, ◌∙◌, arith}
use Rattle.patch_links.proofs.Waits.{linked-kept}
use Rattle.patch_links.proofs.Places.{same_default}
use Rattle.patch_links.proofs.Landings.{told-none, told-more, told-all}
use Rattle.patch_links.proofs.landing.tell_all.Goals as goal

pub loop-no-init : goal.loop-no-init
loop-no-init g c = told-none _ _ _ _ c.requires.listed c.requires.settled

pub tell-requires : goal.tell-requires
tell-requires g c = record { listed = c.loop-no.invariant.listed; settled = c.loop-no.invariant.settled; linked = linked-kept _ _ _ c.loop-no.invariant.bare c.requires.linked }

pub loop-no-preserved : goal.loop-no-preserved
loop-no-preserved g c = told-more c.args.keys.now.numbers c.args.followers.now _ _ _ _ _ c.loop-no.no-index c.no-item.result c.loop-no.invariant (omega arith)
    (sym (c.no-item.is ∙ same_default c.args.followers.now c.loop-no.no-index c.no-item.result 0 (omega arith)))
    c.tell.ensures.listed c.tell.ensures.settled c.tell.ensures.bare c.tell.ensures.paid

pub returns-clause-told : goal.returns-clause-told
returns-clause-told g c = told-all _ _ _ _ _ _ c.loop-no.invariant (omega arith)
