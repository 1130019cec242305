-- What is said of those who serve.
use Rattle.std.specs.Prelude.{ℕ, zero, suc, List, ◌≡◌, ◌≢◌, ◌⊎◌, length, slice_get, vec_len, sum_by, Result, Ok, Err, Option, Some, None}
use Rattle.patch_model.specs.Execution.{Execution}
use Rattle.patch_model.specs.History.{cached, history_of}
use Rattle.patch_cache.specs.declared.landing.TheConstants.{TRIES}
use Rattle.patch_cache.specs.Waves.{HasGivenUp}
use Rattle.patch_cache.specs.Refused.{HasRefused, HasNotSynced}
use Rattle.patch_device.specs.declared.devices.Device.{Ghosts}
use Rattle.patch_device.specs.Device.{HasRisen}
use Rattle.patch_device.specs.SameDevice.{IsSameDevice, IsLasting}
use Rattle.patch_history.specs.Command.{Command}
use Rattle.patch_store.specs.Flushing.{HoldCached}
use Rattle.patch_shared.specs.declared.faults.Cause.{Cause}
use Rattle.patch_shared.specs.declared.faults.Cause.TheVariants as cause
use Rattle.patch_shared.specs.declared.faults.ServeFault.{ServeFault}
use Rattle.patch_shared.specs.declared.serving.Finished.{Finished}
use Rattle.patch_shared.specs.Books.{Book, IsKept, book_with, run_of}
use Rattle.patch_shared.specs.Conversations.{AreTold, IsSettled, replies_in}

-- One read was refused: a fault was counted, and an honest device holds what it held.
pub record IsUnread {D : Type 0} (g : Ghosts D) (before now : D) : Type 0 where
  pub same : IsSameDevice g before now
  pub fault : HasRisen (g.fault_count before) (g.fault_count now)
  pub kept : g.is_honest before → g.contents now ≡ g.contents before
  pub moment : g.moment now ≡ g.moment before

-- so many of them were, one after another, and nothing else was done
abbrev pub AreUnread : {D : Type 0} → Ghosts D → ℕ → (before now : D) → Type 0
AreUnread g zero before now = before ≡ now
AreUnread {D = D} g (suc n) before now = (mid : D) × AreUnread g n before mid × IsUnread g mid now

-- The device was last asked for one read alone, and refused it as often as a read is tried.
pub record HasNotRead {D : Type 0} (g : Ghosts D) (before now : D) : Type 0 where
  pub mid : D
  pub same : IsSameDevice g before mid
  pub tries : AreUnread g TRIES mid now

-- It was last asked for one write of the block, and refused that as often as a write is tried.
abbrev pub HasNotWritten : {D : Type 0} → Ghosts D → ℕ → (before now : D) → Type 0
HasNotWritten g block before now = (bytes : List ℕ) × HasRefused g block bytes before now

-- The device gave up: it had so many faults, the last of them at one write of the block, or at one read.
pub record HasGivenUpAt {D : Type 0} (g : Ghosts D) (block : ℕ) (before now : D) : Type 0 where
  pub faults : HasGivenUp (g.fault_count before) (g.fault_count now)
  pub call : HasNotWritten g block before now ⊎ HasNotRead g before now

-- what a cause rests on: the device gave up, or refused a sync, only where it did
abbrev pub RestsOn : {D : Type 0} → Ghosts D → Cause → (before now : D) → Type 0
RestsOn g (cause.DeviceGaveUp block) before now = HasGivenUpAt g block before now
RestsOn g cause.SyncFailed before now = HasNotSynced g before now
RestsOn g cause.Disagreed before now = Unit {0}
RestsOn g (cause.ReadBack block) before now = Unit {0}
RestsOn g cause.NoThread before now = Unit {0}
RestsOn g cause.OutOfMemory before now = Unit {0}

-- it is this block that was given up, or read back
abbrev pub IsAt : ℕ → Cause → Type 0
IsAt n (cause.DeviceGaveUp block) = block ≡ n
IsAt n cause.SyncFailed = Unit {0}
IsAt n cause.Disagreed = Unit {0}
IsAt n (cause.ReadBack block) = block ≡ n
IsAt n cause.NoThread = Unit {0}
IsAt n cause.OutOfMemory = Unit {0}

-- a block of which is told that it was read back is another one in these contents than the cached one
abbrev pub IfReadBack : Execution → (contents : List (List ℕ)) → Cause → Type 0
IfReadBack run contents (cause.DeviceGaveUp block) = Unit {0}
IfReadBack run contents cause.SyncFailed = Unit {0}
IfReadBack run contents cause.Disagreed = Unit {0}
IfReadBack run contents (cause.ReadBack block) = slice_get contents block ≢ Some (cached (history_of run block))
IfReadBack run contents cause.NoThread = Unit {0}
IfReadBack run contents cause.OutOfMemory = Unit {0}

-- a cause of which no device comes back
abbrev pub IsBare : Cause → Type 0
IsBare (cause.DeviceGaveUp block) = ⊥
IsBare cause.SyncFailed = ⊥
IsBare cause.Disagreed = Unit {0}
IsBare (cause.ReadBack block) = Unit {0}
IsBare cause.NoThread = Unit {0}
IsBare cause.OutOfMemory = Unit {0}

-- an honest device lasts as it stands, if it did
abbrev pub StillLasts : {D : Type 0} → Ghosts D → (before now : D) → Type 0
StillLasts g before now = g.is_honest before → IsLasting g before → IsLasting g now

-- what the end of the completer says of the device: all went well, or there is a cause
abbrev pub CameTo : {D : Type 0} → Ghosts D → Result (Unit {0}) Cause → (before now : D) → Type 0
CameTo g (Ok done) before now = StillLasts g before now
CameTo g (Err why) before now = RestsOn g why before now

-- Where the device gave up, or refused a sync, it comes back: the one that was handed in, with what was met. With another cause none does.
abbrev pub IsGivenBack : {D : Type 0} → Ghosts D → (first : D) → Cause → Option D → Type 0
IsGivenBack {D = D} g first (cause.DeviceGaveUp block) back =
    (device : D) × (back ≡ Some device) × IsSameDevice g first device × HasGivenUpAt g block first device
IsGivenBack {D = D} g first cause.SyncFailed back =
    (device : D) × (back ≡ Some device) × IsSameDevice g first device × HasNotSynced g first device
IsGivenBack g first cause.Disagreed back = back ≡ None
IsGivenBack g first (cause.ReadBack block) back = back ≡ None
IsGivenBack g first cause.NoThread back = back ≡ None
IsGivenBack g first cause.OutOfMemory back = back ≡ None

-- so it is of a fault that was met with this device
abbrev pub IsFaultWith : {D : Type 0} → Ghosts D → (device : D) → ServeFault D → Type 0
IsFaultWith g device fault = IsGivenBack g device fault.cause fault.device

-- the book that the threads had, of whose store the steps are
abbrev pub book_of : {D : Type 0} → Finished D → Book
book_of f = book_with f.store f.book

-- What is left of writers that were served with this device: the book of all their calls, of a store that was opened on these
-- blocks. The device holds what the store has, and each writer was told what stands in the book.
pub record IsServed {D : Type 0} (g : Ghosts D) (device : D) (opening : List (List ℕ)) (jobs : List (List Command)) (f : Finished D) : Type 0 where
  pub opening_is : (book_of f).opening ≡ opening
  pub kept : IsKept (book_of f)
  pub told : AreTold (book_of f).calls jobs (replies_in f.replies.items)
  pub all : length (book_of f).calls ≡ sum_by (λ list. vec_len list) f.replies.items
  pub settled : IsSettled (run_of (book_of f))
  pub holds : g.is_honest f.device → HoldCached (run_of (book_of f)) (g.contents f.device)
  pub same : IsSameDevice g device f.device
  pub lasts : StillLasts g device f.device
