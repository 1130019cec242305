-- What was run on a file.
use Rattle.std.proofs.Common.{◌≡◌, ℕ, List, Option, Some, None, Bool, length, refl, ◌∙◌}
use Rattle.std.specs.Prelude.{Result, Ok, Err, IfSome, OnOk}
use Rattle.patch_device.specs.Cuts.{Event, written_behind, left_of}
use Rattle.patch_device.specs.Device.{LeavesJust}
use Rattle.patch_device.specs.FileDevice.{contents_of, moment_of, left_at_of, first_of, events_of, has_barriers}
use Rattle.patch_device.specs.SameDevice.{IsLasting}
use Rattle.patch_device.specs.declared.files.FileDevice.{FileDevice}
use Rattle.patch_device.specs.declared.devices.Device.{Ghosts}
use Rattle.patch_commands.specs.declared.commands.CommandLine.{CommandLine}
use Rattle.patch_disks.specs.declared.answering.Reclaims.{Reclaims}
use Rattle.patch_disks.specs.declared.endings.Stop.{Stop}
use Rattle.patch_disks.specs.Ending.{IsDoneBehind}
use Rattle.patch_disks.specs.Opening.{IsUnder}
use Rattle.patch_disks.specs.declared.opening.Barriers.{Barriers}
use Rattle.patch_disks.specs.declared.opening.Barriers.TheVariants.{On, Off}
use Rattle.patch_disks.specs.Reading.{HasLines}
use Rattle.patch_disks.specs.Running.{HasRun, HasRunOnOne, HasRunScriptOnOne}
use Rattle.patch_disks.proofs.Coming.{concluded_so}

-- A file that is remembered.

written_alike : (first first' : List (List ℕ)) (events events' : List Event) → first' ≡ first → events' ≡ events
    → written_behind first' events' ≡ written_behind first events
written_alike first first' events events' one two = rw (one, two) refl

pub contents_alike : {F : Type 0} (before now : FileDevice F) → first_of now ≡ first_of before → events_of now ≡ events_of before
    → contents_of now ≡ contents_of before
contents_alike before now first events = written_alike (first_of before) (first_of now) (events_of before) (events_of now) first events

pub under_alike : {F : Type 0} (barriers : Barriers) (before now : FileDevice F) → has_barriers now ≡ has_barriers before → IsUnder barriers before
    → IsUnder barriers now
under_alike On before now same under = same ∙ under
under_alike Off before now same under = same ∙ under

just_alike : (synced synced' : Bool) (first first' : List (List ℕ)) (events events' : List Event) → synced' ≡ synced → first' ≡ first → events' ≡ events
    → LeavesJust (written_behind first events) (left_of synced first events (length events))
    → LeavesJust (written_behind first' events') (left_of synced' first' events' (length events'))
just_alike synced synced' first first' events events' one two three lasting = rw (one, two, three) lasting

pub lasting_alike : {F : Type 0} (before now : FileDevice F) → has_barriers now ≡ has_barriers before → first_of now ≡ first_of before
    → events_of now ≡ events_of before → LeavesJust (contents_of before) (left_at_of before (moment_of before))
    → LeavesJust (contents_of now) (left_at_of now (moment_of now))
lasting_alike before now barriers first events lasting =
    just_alike (has_barriers before) (has_barriers now) (first_of before) (first_of now) (events_of before) (events_of now) barriers first events lasting

-- A script that is run on one.

pub on_one : {D T E : Type 0} (g : Ghosts D) (r : Reclaims) (result : Result T E) (lines : List CommandLine) (old new : Option (List ℕ)) (first now : D) → IsLasting g first
    → OnOk result (HasRun g r lines old new (g.contents first) first now) → OnOk result (HasRunOnOne g r lines old new)
on_one g r (Ok x) lines old new first now lasting run = (first, now, lasting, run)
on_one g r (Err e) lines old new first now lasting run = tt

concluded_on_one : {D : Type 0} (g : Ghosts D) (r : Reclaims) (ran : Result (Unit {0}) Stop) (lines : List CommandLine) (old mid new : Option (List ℕ))
    → OnOk ran (HasRunOnOne g r lines old mid) → IsDoneBehind ran mid new → HasRunOnOne g r lines old new
concluded_on_one g r (Ok done) lines old mid new run none =
    (run.0, run.1, run.2, concluded_so g r (Ok done) lines old mid new (g.contents run.0) run.0 run.1 run.3 none)
concluded_on_one g r (Err stop) lines old mid new run none = absurd none

-- a run of a script that is done
pub script_on_one : {D : Type 0} (g : Ghosts D) (r : Reclaims) (ran : Result (Unit {0}) Stop) (input old mid new : Option (List ℕ)) (lines : List CommandLine)
    → IfSome input (λ text. HasLines text lines) → OnOk ran (HasRunOnOne g r lines old mid) → IsDoneBehind ran mid new → HasRunScriptOnOne g r input old new
script_on_one g r ran None old mid new lines has run none = tt
script_on_one g r ran (Some text) old mid new lines has run none = (lines, has, concluded_on_one g r ran lines old mid new run none)
