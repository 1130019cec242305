use Rattle.std.proofs.Common.{◌≡◌, length}
use Rattle.std.specs.Prelude.{take, drop}
use Rattle.patch_engine_c.proofs.numbers.copy_numbers.Given as goal

-- the first numbers are there, and the others are as they were
abbrev pub invariant-loop-n : goal.invariant-loop-n
invariant-loop-n l = (take l.n l.into ≡ take l.n l.patches) × (drop l.n l.into ≡ drop l.n l.initial.into) × (length l.into ≡ length l.initial.into)
