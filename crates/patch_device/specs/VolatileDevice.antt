-- A device in memory with a write cache.
use Rattle.std.specs.Prelude.{ℕ, List, ◌≡◌, ◌≤◌, Bool, IsTrue, length}
use Rattle.std.proofs.Common.{sym, ap, subst, ◌∙◌}
use Rattle.patch_device.specs.Device.{most_faults}
use Rattle.patch_device.specs.Blocks.{AreWhole, zeros}
use Rattle.patch_device.specs.Cuts.{Event, cached_behind, written_behind, left_behind, with_landed, all_land_behind}
use Rattle.patch_device.specs.declared.volatile.VolatileDevice.{VolatileDevice}

-- how many blocks it has
abbrev pub block_count_of : {A : Type 0} → VolatileDevice A → ℕ
block_count_of d = d.count

-- the writes and syncs that were done
abbrev pub events_of : {A : Type 0} → VolatileDevice A → List Event
events_of d = d.events.items

-- how many calls were refused for want of memory, or since it was spent
abbrev pub fault_count_of : {A : Type 0} → VolatileDevice A → ℕ
fault_count_of d = d.faults

-- a sync was refused
abbrev pub IsSpent : {A : Type 0} → VolatileDevice A → Type 0
IsSpent d = IsTrue d.spent

-- all that was written to its blocks
abbrev pub contents_of : {A : Type 0} → VolatileDevice A → List (List ℕ)
contents_of d = written_behind (zeros (block_count_of d)) (events_of d)

-- how many moments there were before this one: a write or a sync that is done begins one
abbrev pub moment_of : {A : Type 0} → VolatileDevice A → ℕ
moment_of d = length (events_of d)

-- what a cut leaves at each
abbrev pub left_at_of : {A : Type 0} → VolatileDevice A → ℕ → List (List ℕ) → Type 0
left_at_of d = left_behind (zeros (block_count_of d)) (events_of d)

-- the writes since the last sync
abbrev pub loose_of : {A : Type 0} → VolatileDevice A → List (ℕ × List ℕ)
loose_of d = (cached_behind (zeros (block_count_of d)) (events_of d)).loose

-- what a cut leaves now, if of these just those land of which it is said
abbrev pub left_where : {A : Type 0} → VolatileDevice A → (lands : List Bool) → List (List ℕ)
left_where d lands = with_landed (cached_behind (zeros (block_count_of d)) (events_of d)).lasting (loose_of d) lands

pub blocks_counted_law : {A : Type 0} → (d : VolatileDevice A) → Unit {0} → length (contents_of d) ≡ block_count_of d
blocks_counted_law d _ = ap length (sym d.replayed) ∙ d.counted

pub blocks_whole_law : {A : Type 0} → (d : VolatileDevice A) → Unit {0} → AreWhole (contents_of d)
blocks_whole_law d _ = subst AreWhole d.replayed d.whole

pub all_may_land_law : {A : Type 0} → (d : VolatileDevice A) → Unit {0} → left_at_of d (moment_of d) (contents_of d)
all_may_land_law d _ = all_land_behind (zeros d.count) d.events.items

pub faults_fit_law : {A : Type 0} → (d : VolatileDevice A) → fault_count_of d ≤ most_faults
faults_fit_law d = d.faults_fit
