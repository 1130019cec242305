use Rattle.std.proofs.Common.{◌≡◌, ◌++◌, length, map}
use Rattle.patch_model.specs.Execution.{Execution}
use Rattle.patch_device.specs.SameDevice.{IsSameDevice}
use Rattle.patch_cache.specs.Asks.{ask_of, answer_of, after_all, steps_added}
use Rattle.patch_cache.specs.Running.{RunsOn, HasRun, CountFaults, LeavesSafe, HaveAllWritten}
use Rattle.patch_cache.specs.Bringing.{RunsOnImages, HasRunOnImages}
use Rattle.patch_cache.proofs.caches.Cache.run.Given as goal

-- all that was answered so far is as promised
abbrev pub invariant-loop-ask : goal.invariant-loop-ask
invariant-loop-ask g l =
    let ghosts = g.D.Device in
    record {
      many : length l.answers.items ≡ l.ask-index;
      device : IsSameDevice ghosts l.fn.device l.device;
      so_far : (run : Execution) → RunsOn ghosts l.fn.self l.fn.flights l.fn.device run
          → HasRun run (map ask_of l.asks) (map answer_of l.answers.items) l.self l.flights;
      paged : (run : Execution) → RunsOnImages ghosts l.fn.self l.fn.flights l.fn.device run
          → HasRunOnImages ghosts run (map ask_of l.asks) (map answer_of l.answers.items) l.self l.flights l.fn.device l.device;
      fault : (run : Execution) → RunsOn ghosts l.fn.self l.fn.flights l.fn.device run
          → CountFaults (map answer_of l.answers.items) (ghosts.fault_count l.fn.device) (ghosts.fault_count l.device);
      trace : l.self.trace ≡ l.fn.self.trace ++ steps_added (map ask_of l.asks) (map answer_of l.answers.items);
      written : (run : Execution) → RunsOn ghosts l.fn.self l.fn.flights l.fn.device run
          → HaveAllWritten ghosts run (map ask_of l.asks) (map answer_of l.answers.items) l.fn.device l.device;
      crash : (run : Execution) → RunsOn ghosts l.fn.self l.fn.flights l.fn.device run
          → LeavesSafe ghosts run (after_all run (map ask_of l.asks) (map answer_of l.answers.items)) l.fn.device l.device;
    }
