-- Faults of a device that hands its calls to another one.
use Rattle.std.specs.Prelude.{ℕ, ◌+◌, ◌≤◌, min}
use Rattle.std.proofs.Math.Nat.{min-le_right}
use Rattle.patch_device.specs.Device.{most_faults}

-- its own faults and the other device's
abbrev pub faults_together : (own inner : ℕ) → ℕ
faults_together own inner = min (own + inner) most_faults

pub faults_together_fit : (own inner : ℕ) → faults_together own inner ≤ most_faults
faults_together_fit own inner = min-le_right (own + inner) most_faults
