use Rattle.std.proofs.Common.{drop}
use Rattle.patch_files.proofs.Writers.{WritesOn, lines_of_all}
use Rattle.patch_files.proofs.serving.write_all_replies.Given as goal

-- the lines of the writers so far were written
abbrev pub invariant-loop-list : goal.invariant-loop-list
invariant-loop-list g l = WritesOn lines_of_all l.replies (drop l.list-index l.replies) (g.W.Write.contents l.fn.writer.inner) (g.W.Write.contents l.writer.inner)
