use Rattle.std.proofs.Common.{drop}
use Rattle.patch_files.proofs.Writers.{WritesOn, line_of}
use Rattle.patch_files.proofs.serving.write_replies.Given as goal

-- the lines of the replies so far were written
abbrev pub invariant-loop-reply : goal.invariant-loop-reply
invariant-loop-reply g l = WritesOn line_of l.replies (drop l.reply-index l.replies) (g.W.Write.contents l.fn.writer.inner) (g.W.Write.contents l.writer.inner)
