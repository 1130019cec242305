use Rattle.std.proofs.Common.{◌≡◌, ◌<◌, ℕ, length}
use Rattle.std.specs.Prelude.{slice_get, Some}
use Rattle.patch_model.specs.Execution.{Execution}
use Rattle.patch_model.specs.History.{cached, history_of}
use Rattle.patch_cache.specs.Meaning.{IsCacheOf}
use Rattle.patch_device.specs.SameDevice.{IsSameDevice}
use Rattle.patch_shared.proofs.reading_back.read_back.Given as goal

-- it is the same device, holds what it held, and in the blocks so far what is cached
abbrev pub invariant-loop-n : goal.invariant-loop-n
invariant-loop-n g l = record {
  same : IsSameDevice g.D.Device l.fn.device l.device;
  moment : g.D.Device.moment l.device ≡ g.D.Device.moment l.fn.device;
  contents_are : g.D.Device.is_honest l.fn.device → g.D.Device.contents l.device ≡ g.D.Device.contents l.fn.device;
  hold : g.D.Device.is_honest l.fn.device → (run : Execution) → IsCacheOf l.cache run → g.D.Device.block_count l.fn.device ≡ length run.first
      → (b : ℕ) → b < l.n → slice_get (g.D.Device.contents l.fn.device) b ≡ Some (cached (history_of run b));
}
