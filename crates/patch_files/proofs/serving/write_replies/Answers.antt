use Rattle.std.proofs.Common.{◌∙◌}
use Rattle.patch_files.proofs.Writers.{line_of, writes_none, writes_more, writes_all, replies_written}
use Rattle.patch_files.proofs.serving.write_replies.Goals as goal

pub loop-reply-init : goal.loop-reply-init
loop-reply-init g c = writes_none line_of c.args.replies.now (g.W.Write.contents c.args.writer.now.inner)

pub loop-reply-preserved : goal.loop-reply-preserved
loop-reply-preserved g c =
    writes_more line_of c.args.replies.now c.loop-reply.reply-index c.reply-item.result _ _ _ _ c.loop-reply-test.true c.reply-item.is c.loop-reply.invariant
    (c.as_bytes.ensures.value ∙ c.in_ok-text.ensures) c.in_ok-write_all.ensures.bytes

pub returns : goal.returns
returns g c =
    replies_written c.args.replies.now _ _
    (writes_all line_of c.args.replies.now c.loop-reply.reply-index _ _ c.loop-reply-test.false c.loop-reply.invariant)
