-- What a sync has done.
use Rattle.std.specs.Prelude.{ℕ, ◌≡◌, ◌≤◌, ◌⊎◌, ◌||◌, Bool, IsTrue, not, List, [], take}
use Rattle.patch_model.specs.declared.refusals.RefusalKind.{RefusalKind}
use Rattle.patch_model.specs.declared.refusals.RefusalKind.TheVariants as kind
use Rattle.patch_model.specs.Step.{Step}
use Rattle.patch_model.specs.Crash.{MayLeave}
use Rattle.patch_device.specs.Device.{HasRisen, LeavesJust}
use Rattle.patch_device.specs.declared.devices.Device.{Ghosts}
use Rattle.patch_cache.specs.Running.{IsCrashSafe}
use Rattle.patch_history.specs.History.{History, execution_of}
use Rattle.patch_store.specs.Flushing.{StandsStill, HoldCached, with_writes}
use Rattle.patch_store.specs.Meaning.{Store, IsStoreOf}
use Rattle.patch_disks.specs.Answering.{IsSaved}
use Rattle.patch_disks.specs.Running.{StandsOn}
use Rattle.patch_handles.specs.declared.answers.Answer.{Answer}
use Rattle.patch_handles.specs.declared.answers.Answer.TheVariants.{Done, Refused, BufferTooSmall, Absent, NoSync, BadWriter, IsResident}
use Rattle.patch_c.specs.declared.opened.Opened.{Opened}
use Rattle.patch_c.specs.declared.tape.Tape.{Tape}
use Rattle.patch_c.specs.Counting.{tally_behind}
use Rattle.patch_c.specs.Tape.{file_of, contents_of, moment_of, left_at_of, block_count_of, fault_count_of, events_of}

-- all patches were brought to the disk: the store stands behind the writes, and nothing is left to be written
pub record IsSynced (h : History) (store : Store) : Type 0 where
  pub next : History
  pub saved : IsSaved h next
  pub still : StandsStill store next

-- and the blocks of the device are the cached ones
pub record HasSaved (h : History) (store : Store) (blocks : List (List ℕ)) : Type 0 where
  pub next : History
  pub saved : IsSaved h next
  pub stands : StandsOn store next blocks
  pub disk : HoldCached (execution_of next) blocks

-- some writes were begun, and some of them ended
pub record HasWrittenOn (h : History) (store : Store) : Type 0 where
  pub writes : List Step
  pub represents : IsStoreOf store (with_writes h writes)

-- at each moment on the way a cut left only such blocks as a crash may leave, behind the history and the writes that were made by then
pub record HasKeptSafe {D : Type 0} (g : Ghosts D) (h : History) (store : Store) (before now : D) : Type 0 where
  pub writes : List Step
  pub represents : IsStoreOf store (with_writes h writes)
  pub safe : IsCrashSafe g (execution_of h) (execution_of (with_writes h writes)) before now

-- these blocks may be left by a crash behind the history and some first ones of these steps
abbrev pub MayBeLeft : History → List Step → List (List ℕ) → Type 0
MayBeLeft h steps blocks = (n : ℕ) × MayLeave (execution_of (with_writes h (take n steps))) blocks

-- What a sync has put on an empty tape. Its events are brought to the file in their order: a write may land from when it is made on, and
-- once the file is synced at a barrier all before it last. Whenever that ends, what a cut then leaves of the file a crash may leave,
-- behind the history and some first steps of the writes by which the store stands now.
pub record LandsSafely (h : History) (store : Store) (before after : Tape) : Type 0 where
  pub file : file_of after ≡ file_of before
  pub steps : List Step
  pub represents : IsStoreOf store (with_writes h steps)
  pub lands : (t : ℕ) (disk : List (List ℕ)) → t ≤ moment_of after → left_at_of after t disk → MayBeLeft h steps disk

-- once all events are done a cut leaves of the file what it holds
abbrev pub LastsOnceDone : Tape → Type 0
LastsOnceDone tape = LeavesJust (contents_of tape) (left_at_of tape (moment_of tape))

-- the device gave up a write, or failed to sync
abbrev pub IsOfDevice : RefusalKind → Type 0
IsOfDevice why = (why ≡ kind.DeviceGaveUp) ⊎ (why ≡ kind.SyncFailed)

-- A sync is done, or it has this cause: there was no memory, or the device had a fault, which a tape has for want of memory alone.
abbrev pub HasCause : Answer → (faults faults_now : ℕ) → Type 0
HasCause Done faults faults_now = Unit {0}
HasCause (Refused why) faults faults_now = (why ≡ kind.OutOfMemory) ⊎ (IsOfDevice why × HasRisen faults faults_now)
HasCause NoSync faults faults_now = ⊥
HasCause BufferTooSmall faults faults_now = ⊥
HasCause Absent faults faults_now = ⊥
HasCause BadWriter faults faults_now = ⊥
HasCause IsResident faults faults_now = ⊥

-- What is on the tape was brought to the file, or given up: the store stays as it is, and it is spent where not all is there. Where all is,
-- the file holds what the tape did; of what it holds where not all is nothing is said.
pub record IsSettled (is_done : Bool) (before after : Opened) : Type 0 where
  pub store : after.store ≡ before.store
  pub no_events : events_of after.device ≡ []
  pub holds : IsTrue is_done → file_of after.device ≡ contents_of before.device
  pub count : block_count_of after.device ≡ block_count_of before.device
  pub faults : fault_count_of after.device ≡ fault_count_of before.device
  pub file : after.file ≡ before.file
  pub barriers : after.barriers ≡ before.barriers
  pub manual : after.manual ≡ before.manual
  pub tally : after.tally ≡ tally_behind is_done (events_of before.device) before.tally
  pub spent : after.is_spent ≡ (before.is_spent || not is_done)
