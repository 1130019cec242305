use Rattle.std.proofs.Common.{◌≡◌, ◌++◌, List}
use Rattle.patch_script.specs.declared.forms.Line.{Line}
use Rattle.patch_replay.specs.World.{World}
use Rattle.patch_replay.proofs.Leading.{HasCome}
use Rattle.patch_replay.proofs.replaying.write_answers.Given as goal

-- the answers to the lines so far are written, and the others are left
abbrev pub invariant-loop-line : goal.invariant-loop-line
invariant-loop-line g l =
    (goal.iterator-loop-line g).can_next l.line-iterator
    × (goal.iterator-loop-line g).is_finite l.line-iterator
    × (l.writer.failed ≡ l.fn.writer.failed)
    × ((w : World) → g.C.Core.IsAt l.fn.core w → (first : List Line) × (first ++ l.line-iterator.rest.items ≡ l.fn.lines.items)
    × HasCome w first (g.C.Core.IsAt l.core) (g.W.Write.contents l.fn.writer.inner) (g.W.Write.contents l.writer.inner))
