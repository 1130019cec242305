use Rattle.std.proofs.Common.{◌≡◌, ◌+◌, length}
use Rattle.patch_script.specs.Kind.{lines_of, lines_by, lines_from, behind}
use Rattle.patch_script.proofs.scripts.read_objects.Given as goal

abbrev pub invariant-loop-bytes : goal.invariant-loop-bytes
invariant-loop-bytes g l = record {
  counted : l.number ≡ length l.yielded;
  joined : behind l.found.items (lines_from (g.K.ObjectReader.says l.reader) (l.number + 1) (lines_of l.bytes-iterator.0.now)) ≡ lines_by (g.K.ObjectReader.says l.reader) l.text;
  left : l.number + length (lines_of l.bytes-iterator.0.now) ≡ length (lines_of l.text);
}
