use Rattle.std.proofs.Common.{Bool, ◌≡◌, length}
use Rattle.std.specs.Prelude.{count_by}
use Rattle.patch_model.specs.Execution.{Execution}
use Rattle.patch_cache.specs.Running.{Runs, RunsBeside}
use Rattle.patch_cache.specs.Waves.{is_send, steps_since, Continues, HasGoneOnBeside, StaysOnImages, StillHolds}
use Rattle.patch_cache.specs.Tries.{NoneLost}
use Rattle.patch_cache.proofs.Waving.{IsOneSoFar}
use Rattle.patch_cache.proofs.caches.Cache.complete_held.Given as goal

-- those so far were completed
abbrev pub invariant-loop-self : goal.invariant-loop-self
invariant-loop-self g l = record {
  ran : (others : Bool) (run : Execution) → RunsBeside others l.fn.self l.fn.flights run → HasGoneOnBeside others run (steps_since l.fn.self l.self) l.self l.flights;
  trace : Continues l.fn.self l.self;
  ends : count_by is_send (steps_since l.fn.self l.self) ≡ 0;
  none_lost : (others : Bool) (run : Execution) → RunsBeside others l.fn.self l.fn.flights run → NoneLost (steps_since l.fn.self l.self) l.fn.flights l.flights;
  one : (run : Execution) → Runs l.fn.self l.fn.flights run → IsOneSoFar l.fn.flights l.flights l.fn.self l.self;
  stays : (others : Bool) → StaysOnImages others l.fn.self l.self l.fn.flights;
  held : StillHolds l.fn.flights l.flights;
}

abbrev pub decreases-loop-self : goal.decreases-loop-self
decreases-loop-self g l = length l.flights.held.items
