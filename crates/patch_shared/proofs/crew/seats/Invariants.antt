use Rattle.std.proofs.Common.{◌≡◌, ◌+◌, vec_len}
use Rattle.patch_shared.proofs.crew.seats.Given as goal

-- so many seats, each with a part
abbrev pub invariant-loop-n : goal.invariant-loop-n
invariant-loop-n g l = (l.all.parts + l.n ≡ l.writers) × (l.all.amount ≡ 0) × (vec_len l.seats ≡ l.n)
