-- A script that is run on a store.
use Rattle.std.specs.Prelude.{ℕ, ◌≡◌, List, Option, Result, Ok, OnOk, IfSome}
use Rattle.std.specs.Io.KnownBytes.{Appends}
use Rattle.patch_model.specs.Step.{Step}
use Rattle.patch_model.specs.Crash.{MayLeave}
use Rattle.patch_device.specs.SameDevice.{IsLasting}
use Rattle.patch_device.specs.declared.devices.Device.{Ghosts}
use Rattle.patch_cache.specs.Waves.{HoldImages}
use Rattle.patch_recovery.specs.Ledger.{Ledger}
use Rattle.patch_recovery.specs.Reading.{reading}
use Rattle.patch_history.specs.Command.{Command, Reply}
use Rattle.patch_history.specs.History.{History, Event, IsLegalHistory, execution_of}
use Rattle.patch_store.specs.Flushing.{StandsStill, HoldCached}
use Rattle.patch_store.specs.Meaning.{Store}
use Rattle.patch_store.specs.Opening.{IsOpened, at_opening}
use Rattle.patch_store.specs.Running.{with_calls}
use Rattle.patch_commands.specs.Reply.{reply_line}
use Rattle.patch_commands.specs.declared.commands.CommandLine.{CommandLine}
use Rattle.patch_disks.specs.declared.answering.Reclaims.{Reclaims}
use Rattle.patch_disks.specs.declared.endings.Stop.{Stop}
use Rattle.patch_disks.specs.Going.{GoesSafely, StillLasts}
use Rattle.patch_disks.specs.Answering.{with_call, AreCallsOf, IsSaved, IsAnswered, AreAnswered}
use Rattle.patch_disks.specs.Reading.{HasLines}

-- Done: the blocks read as a store's, and over them the lines were answered by calls of one legal history, each right where it
-- stands. The text of the answers was written. In the end all patches were brought to the disk, whose blocks are the cached ones. What a
-- cut of the power left on the way is what a crash may leave; and if a cut left just the blocks at first, so it does in the end.
pub record HasRun {D : Type 0} (g : Ghosts D) (r : Reclaims) (lines : List CommandLine) (old new : Option (List ℕ)) (contents : List (List ℕ)) (before now : D) : Type 0 where
  pub ledger : Ledger
  pub reads : reading contents ≡ Ok ledger
  pub text : List ℕ
  pub written : Appends old new text
  pub answered : History
  pub answers : AreAnswered r (at_opening contents ledger) lines text answered
  pub last : History
  pub saved : IsSaved answered last
  pub legal : IsLegalHistory last
  pub disk : HoldCached (execution_of last) (g.contents now)
  pub goes : GoesSafely g (at_opening contents ledger) last before now
  pub lasts : StillLasts g before now

-- what was read had such lines, where it is known
abbrev pub HasRunScript : {D : Type 0} → Ghosts D → Reclaims → (input old new : Option (List ℕ)) (contents : List (List ℕ)) (before now : D) → Type 0
HasRunScript g r input old new contents before now =
    IfSome input (λ text. (lines : List CommandLine) × HasLines text lines × HasRun g r lines old new contents before now)

-- a device was opened of which a cut left just what it held, and the lines were run on it
abbrev pub HasRunOnOne : {D : Type 0} → Ghosts D → Reclaims → List CommandLine → (old new : Option (List ℕ)) → Type 0
HasRunOnOne {D = D} g r lines old new = (first : D) × (now : D) × IsLasting g first × HasRun g r lines old new (g.contents first) first now

-- what was read had such lines, where it is known
abbrev pub HasRunScriptOnOne : {D : Type 0} → Ghosts D → Reclaims → (input old new : Option (List ℕ)) → Type 0
HasRunScriptOnOne g r input old new = IfSome input (λ text. (lines : List CommandLine) × HasLines text lines × HasRunOnOne g r lines old new)

-- On the way.

-- the store stands at the end of the history with no write under way, and the device's blocks are the images of its blocks
pub record StandsOn (store : Store) (h : History) (contents : List (List ℕ)) : Type 0 where
  pub still : StandsStill store h
  pub images : HoldImages (execution_of h) contents

-- this is said of each history at whose end the store stands on the blocks
abbrev pub OfEachPast : Store → List (List ℕ) → (History → Type 0) → Type 0
OfEachPast store contents Said = (past : History) → StandsOn store past contents → Said past

-- this is said of the blocks, if the store was opened on them
abbrev pub OnceOpened : Store → List (List ℕ) → (List (List ℕ) → Type 0) → Type 0
OnceOpened store blocks Said = (contents : List (List ℕ)) → contents ≡ blocks → IsOpened contents store → Said contents

-- a call was made and answered: behind it a crash may leave what it could before
pub record IsCalled (h : History) (call : ℕ × Command) (reply : Reply) (store : Store) (contents : List (List ℕ)) : Type 0 where
  pub steps : List Step
  pub stands : StandsOn store (with_call h call reply steps) contents
  pub stays : (disk : List (List ℕ)) → MayLeave (execution_of h) disk → MayLeave (execution_of (with_call h call reply steps)) disk

-- a command was answered by its calls
pub record IsCommanded (r : Reclaims) (h : History) (call : ℕ × Command) (reply : Reply) (store : Store) (contents : List (List ℕ)) : Type 0 where
  pub calls : List Event
  pub are : AreCallsOf r h call reply calls
  pub stands : StandsOn store (with_calls h calls) contents
  pub stays : (disk : List (List ℕ)) → MayLeave (execution_of h) disk → MayLeave (execution_of (with_calls h calls)) disk

-- and its reply is the text
pub record IsTold (r : Reclaims) (h : History) (call : ℕ × Command) (text : List ℕ) (store : Store) (contents : List (List ℕ)) : Type 0 where
  pub reply : Reply
  pub told : text ≡ reply_line reply
  pub commanded : IsCommanded r h call reply store contents

-- all patches were brought to the disk
pub record HasSaved {D : Type 0} (g : Ghosts D) (h : History) (store : Store) (before now : D) : Type 0 where
  pub next : History
  pub saved : IsSaved h next
  pub stands : StandsOn store next (g.contents now)
  pub disk : HoldCached (execution_of next) (g.contents now)
  pub goes : GoesSafely g h next before now

-- a line was answered by the text
pub record HasAnswered {D : Type 0} (g : Ghosts D) (r : Reclaims) (h : History) (asked : CommandLine) (text : List ℕ) (store : Store) (before now : D) : Type 0 where
  pub next : History
  pub answered : IsAnswered r h asked text next
  pub stands : StandsOn store next (g.contents now)
  pub goes : GoesSafely g h next before now

-- lines were answered, and their texts written
pub record HasCome {D : Type 0} (g : Ghosts D) (r : Reclaims) (h : History) (lines : List CommandLine) (old new : Option (List ℕ)) (store : Store) (before now : D) : Type 0 where
  pub text : List ℕ
  pub written : Appends old new text
  pub last : History
  pub answers : AreAnswered r h lines text last
  pub stands : StandsOn store last (g.contents now)
  pub goes : GoesSafely g h last before now

-- where all lines are answered, the answers follow each history at whose end the store stands on the blocks
abbrev pub ComesOn : {D T : Type 0} → Ghosts D → Reclaims → Result T Stop → (store store_now : Store) → (before now : D) → List CommandLine
    → (old new : Option (List ℕ)) → Type 0
ComesOn g r result store store_now before now lines old new =
    OfEachPast store (g.contents before) (λ past. OnOk result (HasCome g r past lines old new store_now before now))

-- where the store was opened on the blocks, and all is done, the script has run
abbrev pub RunsOpened : {D T : Type 0} → Ghosts D → Reclaims → Result T Stop → Store → List CommandLine → (old new : Option (List ℕ)) → (before now : D) → Type 0
RunsOpened g r result store lines old new before now =
    OnceOpened store (g.contents before) (λ contents. OnOk result (HasRun g r lines old new contents before now))
