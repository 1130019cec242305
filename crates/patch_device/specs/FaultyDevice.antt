-- A device that fails one call.
use Rattle.std.specs.Prelude.{ℕ, zero, suc, ◌≡◌, ◌<◌, ◌≤◌, ◌⊎◌, Bool, List, Option, Some, None, slice_set}
use Rattle.patch_device.specs.Device.{most_faults, HasRisen}
use Rattle.patch_device.specs.Faults.{faults_together, faults_together_fit}
use Rattle.patch_device.specs.declared.devices.Device.{Ghosts}
use Rattle.patch_device.specs.declared.faulty.FaultyDevice.{FaultyDevice}

-- the device that it calls
abbrev pub inner_of : {D : Type 0} → FaultyDevice D → D
inner_of d = d.inner

-- how many calls are still to come before the one that fails; none is to come once that one has failed
abbrev pub calls_before : {D : Type 0} → FaultyDevice D → Option ℕ
calls_before d = d.calls_left

-- whether the failing call, a write, lands
abbrev pub does_land : {D : Type 0} → FaultyDevice D → Bool
does_land d = d.lands

-- a call of block n, which there is, is the one that fails
abbrev pub IsFailing : {D : Type 0} → Ghosts D → FaultyDevice D → (n : ℕ) → Type 0
IsFailing g d n = (n < g.block_count (inner_of d)) × (calls_before d ≡ Some 0)

-- the write of a block has landed on an honest device, or met a fault of that device's own
abbrev pub HasLanded : {D : Type 0} → Ghosts D → D → (n : ℕ) (bytes : List ℕ) → D → Type 0
HasLanded g old n bytes new = g.is_honest old → (g.contents new ≡ slice_set (g.contents old) n bytes) ⊎ HasRisen (g.fault_count old) (g.fault_count new)

-- how many calls are still to come, after one more
abbrev pub after_a_call : Option ℕ → Option ℕ
after_a_call None = None
after_a_call (Some zero) = None
after_a_call (Some (suc n)) = Some n

-- its own faults: one, once the call has failed
abbrev pub own_faults : Option ℕ → ℕ
own_faults None = 1
own_faults (Some n) = 0

-- its own faults and the inner device's
abbrev pub faults_of_both : Option ℕ → ℕ → ℕ
faults_of_both calls_left inner = faults_together (own_faults calls_left) inner

pub faults_of_both_fit : (calls_left : Option ℕ) (inner : ℕ) → faults_of_both calls_left inner ≤ most_faults
faults_of_both_fit calls_left inner = faults_together_fit (own_faults calls_left) inner
