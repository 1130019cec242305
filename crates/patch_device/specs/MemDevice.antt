-- A device in memory.
use Rattle.std.specs.Prelude.{ℕ, List, ◌≡◌, ◌≤◌, length}
use Rattle.std.proofs.Common.{◌∙◌}
use Rattle.patch_device.specs.Device.{most_faults}
use Rattle.patch_device.specs.Blocks.{AreWhole, zeros}
use Rattle.patch_device.specs.Writes.{left_under, all_land_under}
use Rattle.patch_device.specs.declared.memory.MemDevice.{MemDevice}

-- what its blocks hold
abbrev pub contents_of : {A : Type 0} → MemDevice A → List (List ℕ)
contents_of d = d.blocks.items

-- the writes that landed, each a block's number and its bytes
abbrev pub landed_writes : {A : Type 0} → MemDevice A → List (ℕ × List ℕ)
landed_writes d = d.landed.items

-- how many moments there were before this one: a write that lands begins one
abbrev pub moment_of : {A : Type 0} → MemDevice A → ℕ
moment_of d = length d.landed.items

-- what a cut leaves at each: the blocks after the writes that had landed
abbrev pub left_at_of : {A : Type 0} → MemDevice A → ℕ → List (List ℕ) → Type 0
left_at_of d = left_under (zeros d.count) d.landed.items

-- how many blocks it has
abbrev pub block_count_of : {A : Type 0} → MemDevice A → ℕ
block_count_of d = d.count

-- how often its list of writes couldn't grow
abbrev pub fault_count_of : {A : Type 0} → MemDevice A → ℕ
fault_count_of d = d.faults

pub blocks_counted_law : {A : Type 0} → (d : MemDevice A) → Unit {0} → length (contents_of d) ≡ block_count_of d
blocks_counted_law d _ = d.counted

pub blocks_whole_law : {A : Type 0} → (d : MemDevice A) → Unit {0} → AreWhole (contents_of d)
blocks_whole_law d _ = d.whole

pub all_may_land_law : {A : Type 0} → (d : MemDevice A) → Unit {0} → left_at_of d (moment_of d) (contents_of d)
all_may_land_law d _ = d.replayed ∙ all_land_under (zeros d.count) d.landed.items

pub faults_fit_law : {A : Type 0} → (d : MemDevice A) → fault_count_of d ≤ most_faults
faults_fit_law d = d.faults_fit
