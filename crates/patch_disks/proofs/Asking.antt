-- What lines ask for.
use Rattle.std.proofs.Common.{◌≡◌, ℕ, ◌∙◌, Some, None, refl, sym, ap}
use Rattle.std.specs.Prelude.{option_map}
use Rattle.patch_history.specs.Command.{Command}
use Rattle.patch_commands.specs.Asking.{command_on, call_of}
use Rattle.patch_commands.specs.Shared.{writer_of}
use Rattle.patch_commands.specs.declared.commands.CommandLine.{CommandLine}
use Rattle.patch_commands.specs.declared.commands.CommandLine.TheVariants.{Put, Get, Delete, Reclaim, Group, Engage, Disengage, Depend, Close, Pending, Sync}

-- a line asks for a call of its writer
pub call_is : (asked : CommandLine) (writer : ℕ) (command : Command) → writer ≡ writer_of asked → command_on asked ≡ Some command → call_of asked ≡ Some (writer, command)
call_is asked writer command by is = ap (option_map (λ wanted. (writer_of asked, wanted))) is ∙ ap (λ n. Some (n, command)) (sym by)

-- only a sync of no group asks for none
pub sync_of_none : (asked : CommandLine) → command_on asked ≡ None → asked ≡ Sync (writer_of asked) None
sync_of_none (Put writer key piece times) none = absurd (cc)
sync_of_none (Get writer key) none = absurd (cc)
sync_of_none (Delete writer key) none = absurd (cc)
sync_of_none (Reclaim writer extent) none = absurd (cc)
sync_of_none (Group writer) none = absurd (cc)
sync_of_none (Engage writer group) none = absurd (cc)
sync_of_none (Disengage writer group) none = absurd (cc)
sync_of_none (Depend writer group on) none = absurd (cc)
sync_of_none (Close writer group) none = absurd (cc)
sync_of_none (Pending writer group) none = absurd (cc)
sync_of_none (Sync writer (Some group)) none = absurd (cc)
sync_of_none (Sync writer None) none = refl
