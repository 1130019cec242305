-- The call that a line asks for.
use Rattle.std.specs.Prelude.{ℕ, Option, Some, None, option_map}
use Rattle.patch_history.specs.Command.{Command}
use Rattle.patch_history.specs.Command as command
use Rattle.patch_commands.specs.declared.commands.CommandLine.{CommandLine}
use Rattle.patch_commands.specs.declared.commands.CommandLine.TheVariants.{Put, Get, Delete, Reclaim, Group, Engage, Disengage, Depend, Close, Pending, Sync}
use Rattle.patch_commands.specs.Shared.{writer_of}
use Rattle.patch_commands.specs.Value.{value_of}

-- Its command, where it asks for one. A sync of a group asks how many of its patches aren't on the disk yet; a sync of none asks for nothing.
abbrev pub command_on : CommandLine → Option Command
command_on (Put writer key piece times) = Some (command.Put key (value_of piece times))
command_on (Get writer key) = Some (command.Get key)
command_on (Delete writer key) = Some (command.Delete key)
command_on (Reclaim writer extent) = Some (command.Reclaim extent)
command_on (Group writer) = Some command.Group
command_on (Engage writer group) = Some (command.Engage group)
command_on (Disengage writer group) = Some (command.Disengage group)
command_on (Depend writer group on) = Some (command.Depend group on)
command_on (Close writer group) = Some (command.CloseGroup group)
command_on (Pending writer group) = Some (command.Pending group)
command_on (Sync writer (Some group)) = Some (command.Pending group)
command_on (Sync writer None) = None

-- and of which writer
abbrev pub call_of : CommandLine → Option (ℕ × Command)
call_of asked = option_map (λ wanted. (writer_of asked, wanted)) (command_on asked)
