use Rattle.std.proofs.Common.{◌≡◌, ℕ, zero, suc, ◌+◌, ◌-◌, ◌*◌, min, arith, refl}
use Rattle.patch_testing.specs.Heaps.{hole}
use Rattle.patch_testing.proofs.heaps.hole_of.Goals as goal

-- the hole of a turn, in its small steps and its large ones
in_steps : (turn : ℕ) → min turn 64 * 16 + min (turn - min turn 64) 1000 * 64 ≡ hole turn
in_steps zero = refl
in_steps (suc turn) = grind (arith, in_steps turn)

pub returns : goal.returns
returns c = grind (arith, in_steps)
