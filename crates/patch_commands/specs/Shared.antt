-- What a line says in a script of several writers, each on a thread of its own.
use Rattle.std.specs.Prelude.{ℕ, Bool, true, false, List, Option, Some, None, Result, nat_lt, not, ◌&&◌, if◌then◌else◌}
use Rattle.serde_json.specs.Data.{Data}
use Rattle.patch_script.specs.Field.{◌>>=◌}
use Rattle.patch_script.specs.Kind.{lines_by}
use Rattle.patch_commands.specs.Command.{command_of}
use Rattle.patch_commands.specs.declared.commands.CommandLine.{CommandLine}
use Rattle.patch_commands.specs.declared.commands.CommandLine.TheVariants.{Put, Get, Delete, Reclaim, Group, Engage, Disengage, Depend, Close, Pending, Sync}

abbrev pub writer_of : CommandLine → ℕ
writer_of (Put writer key piece times) = writer
writer_of (Get writer key) = writer
writer_of (Delete writer key) = writer
writer_of (Reclaim writer extent) = writer
writer_of (Group writer) = writer
writer_of (Engage writer group) = writer
writer_of (Disengage writer group) = writer
writer_of (Depend writer group on) = writer
writer_of (Close writer group) = writer
writer_of (Pending writer group) = writer
writer_of (Sync writer group) = writer

abbrev pub is_sync : CommandLine → Bool
is_sync (Sync writer group) = true
is_sync _ = false

-- its writer is one of so many, and it is no sync
abbrev pub is_shared : ℕ → CommandLine → Bool
is_shared writers line = nat_lt (writer_of line) writers && not (is_sync line)

-- what an object with this op asks for, where there are so many writers
abbrev pub shared_command : ℕ → List ℕ → Data → Option CommandLine
shared_command writers op line = command_of op line >>= λ asked. if is_shared writers asked then Some asked else None

-- what a script asks for, or the number of its first unreadable line, counted from 1
abbrev pub shared_commands : ℕ → List ℕ → Result (List CommandLine) ℕ
shared_commands writers text = lines_by (shared_command writers) text
