use Rattle.std.proofs.Common.{◌≡◌, ◌↔◌, length, take}
use Rattle.patch_device.specs.Device.{Elapses}
use Rattle.patch_device.proofs.loading.load.Given as goal

-- the blocks so far are read, with no fault
abbrev pub invariant-loop-n : goal.invariant-loop-n
invariant-loop-n g l = record {
  honesty : g.D.Device.is_honest l.fn.device ↔ g.D.Device.is_honest l.device;
  count : g.D.Device.block_count l.device ≡ g.D.Device.block_count l.fn.device;
  faults : g.D.Device.fault_count l.device ≡ g.D.Device.fault_count l.fn.device;
  blocks : length l.blocks.items ≡ l.n;
  gives : g.D.Device.is_honest l.fn.device → l.blocks.items ≡ take l.n (g.D.Device.contents l.fn.device);
  same : g.D.Device.is_honest l.fn.device → g.D.Device.contents l.device ≡ g.D.Device.contents l.fn.device;
  spent : g.D.Device.is_spent l.fn.device → g.D.Device.is_spent l.device;
  time : Elapses (g.D.Device.moment l.fn.device) (g.D.Device.moment l.device) (g.D.Device.left_at l.fn.device) (g.D.Device.left_at l.device);
  moment : g.D.Device.moment l.device ≡ g.D.Device.moment l.fn.device;
}
