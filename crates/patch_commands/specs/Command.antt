-- What a line of a store script says.
use Rattle.std.specs.Prelude.{ℕ, List, Option, Some, None, Result, option_map, if◌then◌else◌, codes, bytes_eq}
use Rattle.serde_json.specs.Data.{Data}
use Rattle.serde_json.specs.Find.{as_str}
use Rattle.patch_script.specs.Field.{◌>>=◌, whole, writer_number, hex_bytes, needed, optional, if_there}
use Rattle.patch_script.specs.Kind.{lines_by}
use Rattle.patch_commands.specs.declared.commands.CommandLine.{CommandLine}
use Rattle.patch_commands.specs.declared.commands.CommandLine.TheVariants.{Put, Get, Delete, Reclaim, Group, Engage, Disengage, Depend, Close, Pending, Sync}
use Rattle.patch_commands.specs.Value.{is_short}

-- the piece is needed, and put once where the line doesn't say how often
unfoldable pub put_line : ℕ → Data → Option CommandLine
put_line writer line = do
  key ← needed as_str (codes "key") line
  piece ← needed hex_bytes (codes "hex") line
  times ← optional whole 1 (codes "times") line
  if is_short piece times then Some (Put writer key piece times) else None

unfoldable pub depend_line : ℕ → Data → Option CommandLine
depend_line writer line = do
  group ← needed whole (codes "group") line
  on ← needed whole (codes "on") line
  Some (Depend writer group on)

-- the ops of groups by their names; a sync may have none
unfoldable pub group_command : ℕ → List ℕ → Data → Option CommandLine
group_command writer op line =
    if bytes_eq op (codes "group") then Some (Group writer)
    else if bytes_eq op (codes "engage") then option_map (Engage writer) (needed whole (codes "group") line)
    else if bytes_eq op (codes "disengage") then option_map (Disengage writer) (needed whole (codes "group") line)
    else if bytes_eq op (codes "depend") then depend_line writer line
    else if bytes_eq op (codes "close") then option_map (Close writer) (needed whole (codes "group") line)
    else if bytes_eq op (codes "pending") then option_map (Pending writer) (needed whole (codes "group") line)
    else if bytes_eq op (codes "sync") then option_map (Sync writer) (if_there whole (codes "group") line)
    else None

-- each op by its name
unfoldable pub writer_command : ℕ → List ℕ → Data → Option CommandLine
writer_command writer op line =
    if bytes_eq op (codes "put") then put_line writer line
    else if bytes_eq op (codes "get") then option_map (Get writer) (needed as_str (codes "key") line)
    else if bytes_eq op (codes "delete") then option_map (Delete writer) (needed as_str (codes "key") line)
    else if bytes_eq op (codes "reclaim") then option_map (Reclaim writer) (needed whole (codes "extent") line)
    else group_command writer op line

-- what an object with this op asks for: any may name its writer
unfoldable pub command_of : List ℕ → Data → Option CommandLine
command_of op line = optional writer_number 0 (codes "writer") line >>= λ writer. writer_command writer op line

-- what a script asks for, or the number of its first unreadable line, counted from 1
abbrev pub commands_of : List ℕ → Result (List CommandLine) ℕ
commands_of text = lines_by command_of text
