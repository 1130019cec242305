use Rattle.std.proofs.Common.{◌≡◌, ◌++◌, length, map}
use Rattle.patch_model.specs.Execution.{Execution}
use Rattle.patch_device.specs.SameDevice.{IsSameDevice}
use Rattle.patch_group.specs.Asks.{parts, steps_of, groups_after_all}
use Rattle.patch_group.specs.Runs.{asks_of, group_answer_of, RunsWith, RunsWithImages, HasGroupRun, HasGroupRunOnImages}
use Rattle.patch_group.proofs.calls.Groups.run.Given as goal

-- all that was answered so far is as promised
abbrev pub invariant-loop-ask : goal.invariant-loop-ask
invariant-loop-ask g l =
    let old = l.fn.self in
    record {
      many : length l.answers.items ≡ l.ask-index;
      device : IsSameDevice g.D.Device l.fn.device l.device;
      groups : l.self ≡ groups_after_all old (asks_of l.asks) (map group_answer_of l.answers.items);
      trace : l.cache.trace ≡ l.fn.cache.trace ++ steps_of (parts old (asks_of l.asks) (map group_answer_of l.answers.items));
      ran : (run : Execution) → RunsWith g.D.Device l.fn.cache l.fn.flights old l.fn.device run
          → HasGroupRun g.D.Device run old (asks_of l.asks) (map group_answer_of l.answers.items) l.cache l.flights l.self l.fn.device l.device;
      ran_paged : (run : Execution) → RunsWithImages g.D.Device l.fn.cache l.fn.flights old l.fn.device run
          → HasGroupRunOnImages g.D.Device run old (asks_of l.asks) (map group_answer_of l.answers.items) l.cache l.flights l.self l.fn.device l.device;
    }
