use Rattle.std.proofs.Common.{ap}
use Rattle.std.specs.Prelude.{map}
use Rattle.patch_history.specs.Commands.{reply_told}
use Rattle.patch_files.specs.Serving.{replies_text}
use Rattle.patch_files.proofs.Writers.{lines_of_all, writes_none, writes_more, writes_all, all_written}
use Rattle.patch_files.proofs.serving.write_all_replies.Goals as goal

pub loop-list-init : goal.loop-list-init
loop-list-init g c = writes_none lines_of_all c.args.replies.now (g.W.Write.contents c.args.writer.now.inner)

pub loop-list-preserved : goal.loop-list-preserved
loop-list-preserved g c =
    writes_more lines_of_all c.args.replies.now c.loop-list.list-index c.list-item.result _ _ _ _ c.loop-list-test.true c.list-item.is c.loop-list.invariant
    (ap (λ xs. replies_text (map reply_told xs)) c.as_slice.ensures.value) c.in_ok-write_replies.ensures

pub returns : goal.returns
returns g c =
    all_written c.args.replies.now _ _
    (writes_all lines_of_all c.args.replies.now c.loop-list.list-index _ _ c.loop-list-test.false c.loop-list.invariant)
