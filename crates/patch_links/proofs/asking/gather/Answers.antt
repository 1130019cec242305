use Rattle.std.proofs.Common.{refl, ap, ◌++◌}
use Rattle.std.proofs.lemmas.Result.{IfOk-from_err}
use Rattle.patch_links.specs.Ready.{gathered}
use Rattle.patch_links.proofs.Gathering.{gathered-more, gathered-all}
use Rattle.patch_links.proofs.asking.gather.Goals as goal

pub loop-key-init : goal.loop-key-init
loop-key-init g c = ap (λ xs. xs ++ gathered c.args.nodes.now.slots c.args.ready.now) c.in_ok-all.ensures.items

pub loop-key-preserved : goal.loop-key-preserved
loop-key-preserved g c = gathered-more c.args.nodes.now.slots c.args.ready.now c.loop-key.all.items c.add_members.new.all.items _ c.loop-key.key-index _ c.loop-key-test.true refl c.in_ok-add_members.ensures
    c.loop-key.invariant

pub returns-in_err-all : goal.returns-in_err-all
returns-in_err-all g c = IfOk-from_err c.from_residual.result _ c.from_residual.ensures.0

pub returns-in_err-add_members : goal.returns-in_err-add_members
returns-in_err-add_members g c = IfOk-from_err c.from_residual-in_err-add_members.result _ c.from_residual-in_err-add_members.ensures.0

pub returns : goal.returns
returns g c = gathered-all c.args.nodes.now.slots c.args.ready.now c.loop-key.all.items _ c.loop-key.key-index c.loop-key-test.false c.loop-key.invariant
