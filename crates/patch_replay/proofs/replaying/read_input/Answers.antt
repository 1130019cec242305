use Rattle.std.proofs.Common.{◌≡◌, ◌<◌, length, ap, arith}
use Rattle.patch_replay.proofs.Reading.{all_read, too_much}
use Rattle.patch_replay.proofs.replaying.read_input.Goals as goal
use Rattle.patch_replay.proofs.replaying.read_input.Goals.{then-over, else-over}

pub returns-in-Ok-Some-eq0-clause-found : goal.returns-in-Ok-Some-eq0-clause-found
returns-in-Ok-Some-eq0-clause-found g c = elim c.if-over.branch [
  | then-over w ↦ rw (w.result-is) (too_much _ _ _ _ w.if-over.true c.reads.invariant.so_far)
  | else-over w ↦
      let size : length c.read.new.buf ≡ length c.as_mut_slice.result.now = c.read.auto.buf in
      let room : 0 < length c.read.new.buf = omega (arith, size, ap length c.as_mut_slice.ensures.value, c.reads.invariant.chunk) in
      rw (w.result-is) (all_read _ _ _ _ _ _ _ _ w.if-over.false c.reads.invariant.so_far c.in-Ok-Some-eq0.field-0-is c.in-Ok-Some-eq0.field-0-0-test room c.in-Ok-Some-eq0.ensures.bytes)
]
