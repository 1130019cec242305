-- What a line says.
use Rattle.std.specs.Prelude.{ℕ, [], List, Bool, false, Option, Some, None, option_map, if◌then◌else◌, codes, bytes_eq}
use Rattle.serde_json.specs.Data.{Data}
use Rattle.serde_json.specs.Find.{as_bool}
use Rattle.patch_model.specs.declared.patches.Undo.{Undo}
use Rattle.patch_model.specs.declared.patches.Undo.TheVariants.{Keep, MayDrop}
use Rattle.patch_script.specs.declared.forms.Line.{Line}
use Rattle.patch_script.specs.declared.forms.Line.TheVariants.{Patch, Merge, Send, Complete, View, Show, Disk, Group, Engage, Disengage, Depend, Close, Pending, Sync}
use Rattle.patch_script.specs.declared.forms.Span.{Span}
use Rattle.patch_script.specs.Field.{◌>>=◌, whole, wholes, positive, writer_number, hex_bytes, needed, optional}
use Rattle.patch_script.specs.Kind.{line_by}

-- whether undo bytes may be dropped
abbrev pub undo_of : Bool → Undo
undo_of drop = if drop then MayDrop else Keep

unfoldable pub patch_line : Data → Option Line
patch_line line = do
  block ← needed whole (codes "block") line
  start ← needed whole (codes "start") line
  bytes ← needed hex_bytes (codes "hex") line
  after ← optional wholes [] (codes "after") line
  drop ← optional as_bool false (codes "drop") line
  writer ← optional writer_number 0 (codes "writer") line
  Some (Patch block start bytes after (undo_of drop) writer)

unfoldable pub merge_line : Data → Option Line
merge_line line = do
  a ← needed whole (codes "a") line
  b ← needed whole (codes "b") line
  Some (Merge a b)

abbrev pub span_of : Data → Option Span
span_of line = do
  block ← needed whole (codes "block") line
  start ← needed whole (codes "start") line
  len ← needed positive (codes "len") line
  Some (record { block = block; start = start; len = len })

unfoldable pub view_line : Data → Option Line
view_line line = do
  take ← needed wholes (codes "take") line
  back ← optional wholes [] (codes "back") line
  span ← span_of line
  Some (View take back span)

unfoldable pub engage_line : Data → Option Line
engage_line line = do
  writer ← optional writer_number 0 (codes "writer") line
  group ← needed whole (codes "group") line
  Some (Engage writer group)

unfoldable pub disengage_line : Data → Option Line
disengage_line line = do
  writer ← optional writer_number 0 (codes "writer") line
  group ← needed whole (codes "group") line
  Some (Disengage writer group)

unfoldable pub depend_line : Data → Option Line
depend_line line = do
  group ← needed whole (codes "group") line
  on ← needed whole (codes "on") line
  Some (Depend group on)

-- the ops of groups by their names
unfoldable pub group_op_line : List ℕ → Data → Option Line
group_op_line op line =
    if bytes_eq op (codes "group") then Some Group
    else if bytes_eq op (codes "engage") then engage_line line
    else if bytes_eq op (codes "disengage") then disengage_line line
    else if bytes_eq op (codes "depend") then depend_line line
    else if bytes_eq op (codes "close") then option_map Close (needed whole (codes "group") line)
    else if bytes_eq op (codes "pending") then option_map Pending (needed whole (codes "group") line)
    else if bytes_eq op (codes "sync") then option_map Sync (needed whole (codes "group") line)
    else None

-- each op by its name
unfoldable pub op_line : List ℕ → Data → Option Line
op_line op line =
    if bytes_eq op (codes "patch") then patch_line line
    else if bytes_eq op (codes "merge") then merge_line line
    else if bytes_eq op (codes "send") then option_map Send (needed whole (codes "block") line)
    else if bytes_eq op (codes "complete") then option_map Complete (needed whole (codes "block") line)
    else if bytes_eq op (codes "view") then view_line line
    else if bytes_eq op (codes "show") then option_map Show (span_of line)
    else if bytes_eq op (codes "disk") then option_map Disk (span_of line)
    else group_op_line op line

-- what is on a line: nothing on a blank one
unfoldable pub line_of : List ℕ → Option (Option Line)
line_of bytes = line_by op_line bytes
