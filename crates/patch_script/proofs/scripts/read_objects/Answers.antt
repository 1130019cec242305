use Rattle.std.proofs.Common.{◌≡◌, ◌+◌, ◌∷◌, length, Some, None, ap, arith}
use Rattle.std.proofs.lemmas.List.{length_push}
use Rattle.patch_script.specs.Kind.{line_by, lines_by, lines_of}
use Rattle.patch_script.proofs.Joining.{behind_blank, behind_line, behind_bad, behind_last}
use Rattle.patch_script.proofs.scripts.read_objects.Goals as goal

pub loop-bytes-preserved : goal.loop-bytes-preserved
loop-bytes-preserved g c =
    let says = g.K.ObjectReader.says c.args.reader.now in
    let first : lines_of c.loop-bytes.bytes-iterator.0.now ≡ c.in-Some.bytes.now ∷ lines_of c.next.new.self.0.now = c.in-Some.ensures.steps in
    let is : line_by says c.in-Some.bytes.now ≡ Some (Some c.in-Ok-Some.line) = rw c.in-Ok-Some.field-0-is at c.in-Ok-Some.ensures in
    let longer = length_push c.loop-bytes.yielded c.in-Some.bytes in
    let counted = c.loop-bytes.invariant.counted in
    let fewer = ap length first in
    let left = c.loop-bytes.invariant.left in
    record {
      counted = omega (arith, longer, counted);
      joined = behind_line says c.loop-bytes.found.items c.push.new.self.items c.in-Ok-Some.line (c.loop-bytes.number + 1) c.in-Some.bytes.now (lines_of c.loop-bytes.bytes-iterator.0.now) (lines_of c.next.new.self.0.now) (lines_by says c.args.text.now) c.in_default.ensures.items first is c.loop-bytes.invariant.joined;
      left = omega (arith, fewer, left);
    }

pub loop-bytes-preserved-in-Ok-None : goal.loop-bytes-preserved-in-Ok-None
loop-bytes-preserved-in-Ok-None g c =
    let says = g.K.ObjectReader.says c.args.reader.now in
    let first : lines_of c.loop-bytes.bytes-iterator.0.now ≡ c.in-Some.bytes.now ∷ lines_of c.next.new.self.0.now = c.in-Some.ensures.steps in
    let is : line_by says c.in-Some.bytes.now ≡ Some None = rw c.in-Ok-None.field-0-is at c.in-Ok-None.ensures in
    let longer = length_push c.loop-bytes.yielded c.in-Some.bytes in
    let counted = c.loop-bytes.invariant.counted in
    let fewer = ap length first in
    let left = c.loop-bytes.invariant.left in
    record {
      counted = omega (arith, longer, counted);
      joined = behind_blank says c.loop-bytes.found.items (c.loop-bytes.number + 1) c.in-Some.bytes.now (lines_of c.loop-bytes.bytes-iterator.0.now) (lines_of c.next.new.self.0.now) (lines_by says c.args.text.now) first is c.loop-bytes.invariant.joined;
      left = omega (arith, fewer, left);
    }

pub returns-in-Err-Unreadable : goal.returns-in-Err-Unreadable
returns-in-Err-Unreadable g c =
    let says = g.K.ObjectReader.says c.args.reader.now in
    let first : lines_of c.loop-bytes.bytes-iterator.0.now ≡ c.in-Some.bytes.now ∷ lines_of c.next.new.self.0.now = c.in-Some.ensures.steps in
    let is : line_by says c.in-Some.bytes.now ≡ None = rw c.in-Err-Unreadable.field-0-is at c.in-Err-Unreadable.ensures in
    behind_bad says c.loop-bytes.found.items (c.loop-bytes.number + 1) c.in-Some.bytes.now (lines_of c.loop-bytes.bytes-iterator.0.now) (lines_of c.next.new.self.0.now) (lines_by says c.args.text.now) first is c.loop-bytes.invariant.joined

pub returns : goal.returns
returns g c =
    let says = g.K.ObjectReader.says c.args.reader.now in
    behind_last says c.loop-bytes.found.items (c.loop-bytes.number + 1) (lines_of c.loop-bytes.bytes-iterator.0.now) (lines_by says c.args.text.now) c.in-None.ensures.steps.0 c.loop-bytes.invariant.joined
