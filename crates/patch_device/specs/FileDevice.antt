-- A device over a file.
use Rattle.std.specs.Prelude.{ℕ, List, ◌≡◌, ◌≤◌, Bool, IsTrue, IsSome, length}
use Rattle.patch_device.specs.Device.{most_faults}
use Rattle.patch_device.specs.Blocks.{AreWhole}
use Rattle.patch_device.specs.Cuts.{Event, written_behind, left_of, all_land_of}
use Rattle.patch_device.specs.declared.files.FileDevice.{FileDevice}

-- how many blocks the file has
abbrev pub block_count_of : {F : Type 0} → FileDevice F → ℕ
block_count_of d = d.count

-- how many of its reads, writes and syncs have failed
abbrev pub fault_count_of : {F : Type 0} → FileDevice F → ℕ
fault_count_of d = d.faults

-- a sync has failed
abbrev pub IsSpent : {F : Type 0} → FileDevice F → Type 0
IsSpent d = IsTrue d.spent

-- whether its syncs are done, and not passed over
abbrev pub has_barriers : {F : Type 0} → FileDevice F → Bool
has_barriers d = d.barriers

-- whether it keeps all that the file holds, and so can be read
abbrev pub Remembers : {F : Type 0} → FileDevice F → Type 0
Remembers d = IsSome d.remembered

-- what the file held when it was opened or made
abbrev pub first_of : {F : Type 0} → FileDevice F → List (List ℕ)
first_of d = d.past.first

-- and what was done to it since
abbrev pub events_of : {F : Type 0} → FileDevice F → List Event
events_of d = d.past.events

-- all that was written to it
abbrev pub contents_of : {F : Type 0} → FileDevice F → List (List ℕ)
contents_of d = written_behind (first_of d) (events_of d)

-- how many moments there were before this one: a write that is tried begins one, and a sync that is done
abbrev pub moment_of : {F : Type 0} → FileDevice F → ℕ
moment_of d = length (events_of d)

-- What a cut leaves at each: of the power, if syncs are done, and else of the program alone.
abbrev pub left_at_of : {F : Type 0} → FileDevice F → ℕ → List (List ℕ) → Type 0
left_at_of d = left_of (has_barriers d) (first_of d) (events_of d)

pub blocks_counted_law : {F : Type 0} → (d : FileDevice F) → Unit {0} → length (contents_of d) ≡ block_count_of d
blocks_counted_law d _ = d.counted

pub blocks_whole_law : {F : Type 0} → (d : FileDevice F) → Unit {0} → AreWhole (contents_of d)
blocks_whole_law d _ = d.whole

pub all_may_land_law : {F : Type 0} → (d : FileDevice F) → Unit {0} → left_at_of d (moment_of d) (contents_of d)
all_may_land_law d _ = all_land_of d.barriers d.past.first d.past.events

pub faults_fit_law : {F : Type 0} → (d : FileDevice F) → fault_count_of d ≤ most_faults
faults_fit_law d = d.faults_fit
