use Rattle.std.proofs.Common.{◌≡◌, ◌<◌, ℕ, [], get_or}
use Rattle.patch_shared.proofs.comparing.are_same_blocks.Given as goal

-- the blocks so far are the same
abbrev pub invariant-loop-n : goal.invariant-loop-n
invariant-loop-n l = (k : ℕ) → k < l.n → get_or l.a k [] ≡ get_or l.b k []
