use Rattle.std.proofs.Common.{◌≡◌, ◌++◌}
use Rattle.patch_frame.specs.Field.{zeros}
use Rattle.patch_frame.proofs.bytes.push_zeros.Given as goal

abbrev pub invariant-loop : goal.invariant-loop
invariant-loop g l = l.out.items ≡ l.fn.out.items ++ zeros l.counter
