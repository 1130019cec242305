use Rattle.std.proofs.Common.{◌≡◌, ◌++◌, map, take, drop}
use Rattle.std.specs.List.Sorted.{IsNonDecreasing}
use Rattle.patch_records.specs.Records.{departed_among}
use Rattle.patch_stacks.proofs.Departed.{HaveDeparted}
use Rattle.patch_stacks.proofs.stacks.Stack.depart_over_all.Given as goal

abbrev pub invariant-loop-class : goal.invariant-loop-class
invariant-loop-class g l = (IsNonDecreasing l.numbers
    → l.class-items ≡ map (departed_among l.numbers) (take l.class-index l.initial.class-items) ++ drop l.class-index l.initial.class-items)
    × HaveDeparted l.numbers l.initial.class-items l.class-items l.class-index
