use Rattle.std.proofs.Common.{ℕ, Bool, ◌≡◌, ◌+◌, ◌-◌, false, length}
use Rattle.std.specs.Prelude.{count_by}
use Rattle.patch_model.specs.Execution.{Execution}
use Rattle.patch_cache.specs.Running.{RunsBeside, held_by}
use Rattle.patch_cache.specs.Waves.{is_send, steps_since, Continues}
use Rattle.patch_cache.specs.Tries.{HoldsMore}
use Rattle.patch_cache.proofs.Passing.{Passed}
use Rattle.patch_cache.proofs.caches.Cache.send_all.Given as goal

abbrev pub decreases-loop-block : goal.decreases-loop-block
decreases-loop-block g l = 16777216 - l.from

-- the blocks so far
abbrev pub invariant-loop-block : goal.invariant-loop-block
invariant-loop-block g l = record {
  so_far : (others : Bool) (run : Execution) → RunsBeside others l.fn.self l.fn.flights run → Passed others run l.from l.sent (steps_since l.fn.self l.self) l.self l.flights;
  trace : Continues l.fn.self l.self;
  more : (others : Bool) (run : Execution) (block : ℕ) → RunsBeside others l.fn.self l.fn.flights run → HoldsMore (steps_since l.fn.self l.self) l.fn.flights l.flights block;
  count : length (held_by l.flights) ≡ length (held_by l.fn.flights) + count_by is_send (steps_since l.fn.self l.self);
  kept : l.sent ≡ false → held_by l.flights ≡ held_by l.fn.flights;
}
