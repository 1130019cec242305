use Rattle.std.proofs.Common.{◌≡◌, ◌≤◌, ◌+◌, length}
use Rattle.patch_replay.specs.Replay.{HasRead}
use Rattle.patch_replay.specs.declared.replaying.TheConstants.{CHUNK}
use Rattle.patch_script.specs.declared.scripts.TheConstants.{MAX_BYTES}
use Rattle.patch_replay.proofs.replaying.read_input.Given as goal

abbrev pub invariant-reads : goal.invariant-reads
invariant-reads g l = record {
  chunk : length l.chunk.items ≡ CHUNK;
  fits : length l.script.items ≤ MAX_BYTES;
  so_far : HasRead (g.R.Read.remaining l.fn.reader.inner) (g.R.Read.remaining l.reader.inner) l.over l.script.items;
  counted : l.counter ≤ l.reader.reads;
  few : l.reader.reads ≤ l.fn.reader.reads + l.counter;
  noted : l.reader.failure ≡ l.fn.reader.failure;
}
