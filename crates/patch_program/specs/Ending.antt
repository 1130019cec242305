-- How the program ends.
use Rattle.std.specs.Prelude.{◌≡◌, ℕ, List, Option, ◌⊎◌}
use Rattle.std.specs.Io.KnownBytes.{Appends}
use Rattle.patch_replay.specs.Replay.{exit_of, memory_text, IsEnd, IsReplayStatus}
use Rattle.patch_replay.specs.declared.endings.Status.{Status}
use Rattle.patch_replay.specs.declared.endings.Status.TheVariants.{Failed, OutOfMemory}

-- memory ran out before the work began: a line tells it, or the output failed
abbrev pub HasStarved : {W : Type 0} → (W → Option (List ℕ)) → W → W → ℕ → Type 0
HasStarved contents old new status =
    ((status ≡ exit_of OutOfMemory) × Appends (contents old) (contents new) memory_text) ⊎ (status ≡ exit_of Failed)

-- The exit status of a replay of this script: where it is 0 or 3, that of the script.
abbrev pub IsExitOf : List ℕ → ℕ → Type 0
IsExitOf script code = (status : Status) × (code ≡ exit_of status) × (IsEnd status → IsReplayStatus script status)
