use Rattle.std.proofs.Common.{◌≡◌, ◌++◌, List}
use Rattle.patch_device.specs.SameDevice.{IsSameDevice}
use Rattle.patch_history.specs.History.{History}
use Rattle.patch_commands.specs.declared.commands.CommandLine.{CommandLine}
use Rattle.patch_disks.specs.Going.{StillLasts}
use Rattle.patch_disks.specs.Running.{StandsOn, HasCome}
use Rattle.patch_disks.proofs.running.answer_lines.Given as goal

-- the lines so far were answered, and the others are left
abbrev pub invariant-loop-line : goal.invariant-loop-line
invariant-loop-line g l =
    (goal.iterator-loop-line g).can_next l.line-iterator
    × (goal.iterator-loop-line g).is_finite l.line-iterator
    × IsSameDevice g.D.Device l.fn.device l.device
    × (g.D.Device.is_honest l.fn.device → (h : History) → StandsOn l.fn.store h (g.D.Device.contents l.fn.device)
    → (first : List CommandLine) × (first ++ l.line-iterator.rest.items ≡ l.fn.lines.items)
    × HasCome g.D.Device l.reclaims h first (g.W.Write.contents l.fn.writer.inner) (g.W.Write.contents l.writer.inner) l.store l.fn.device l.device)
    × (g.D.Device.is_honest l.fn.device → StillLasts g.D.Device l.fn.device l.device)
