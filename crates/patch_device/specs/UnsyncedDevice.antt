-- A device whose syncs fail, from one on.
use Rattle.std.specs.Prelude.{ℕ, ◌≡◌, ◌⊎◌, Option, None}
use Rattle.patch_device.specs.Faults.{faults_together}
use Rattle.patch_device.specs.declared.devices.Device.{Ghosts}
use Rattle.patch_device.specs.declared.failing.UnsyncedDevice.{UnsyncedDevice}

-- the device that it calls
abbrev pub inner_of : {D : Type 0} → UnsyncedDevice D → D
inner_of d = d.inner

-- how many syncs are still to come before the one that fails; none is to come once that one has failed
abbrev pub syncs_before : {D : Type 0} → UnsyncedDevice D → Option ℕ
syncs_before d = d.syncs_left

-- how many calls it has refused itself
abbrev pub refused_by : {D : Type 0} → UnsyncedDevice D → ℕ
refused_by d = d.refused

-- the sync has failed, or one of the device that it calls
abbrev pub IsSpent : {D : Type 0} → Ghosts D → UnsyncedDevice D → Type 0
IsSpent g d = (syncs_before d ≡ None) ⊎ g.is_spent (inner_of d)

-- its own faults and those of the device that it calls
abbrev pub fault_count_of : {D : Type 0} → Ghosts D → UnsyncedDevice D → ℕ
fault_count_of g d = faults_together (refused_by d) (g.fault_count (inner_of d))
