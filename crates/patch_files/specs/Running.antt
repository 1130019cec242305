-- A script that is run, of one writer or of several.
use Rattle.std.specs.Prelude.{ℕ, ◌≡◌, Bool, List, Option, Some, None, Result, MatchOption}
use Rattle.patch_device.specs.declared.devices.Device.{Ghosts}
use Rattle.patch_commands.specs.Command.{commands_of}
use Rattle.patch_commands.specs.Shared.{shared_commands}
use Rattle.patch_commands.specs.declared.commands.CommandLine.{CommandLine}
use Rattle.patch_disks.specs.Running.{HasRunScript}
use Rattle.patch_disks.specs.Stopping.{IsBroken}
use Rattle.patch_disks.specs.declared.answering.Reclaims.TheVariants.{ByHand}
use Rattle.patch_disks.specs.declared.endings.Status.{Status}
use Rattle.patch_disks.specs.declared.endings.Status.TheVariants.{Done}
use Rattle.patch_files.specs.Serving.{ServesOn}

-- how its lines are read
abbrev pub commands_for : (writers : Option ℕ) → List ℕ → Result (List CommandLine) ℕ
commands_for None = commands_of
commands_for (Some writers) = shared_commands writers

-- where all was done, the device comes back, and the script was answered and is on it
abbrev pub RunsOn : {D : Type 0} → Ghosts D → Status → (device : D) → (back : Option D) → (writers : Option ℕ) → (input old new : Option (List ℕ)) → Type 0
RunsOn g status device back None input old new = status ≡ Done → MatchOption back ⊥ (HasRunScript g ByHand input old new (g.contents device) device)
RunsOn g status device back (Some writers) input old new = ServesOn g status device back writers input old new

-- the device came back, and it or the writer failed, or it holds no store
abbrev pub IsBrokenOn : {D : Type 0} → (D → ℕ) → (failed : Bool) → (device : D) → (back : Option D) → (opening : List (List ℕ)) → Type 0
IsBrokenOn faults failed device back opening =
    MatchOption back ⊥ (λ now. IsBroken failed (faults device) (faults now) opening)
