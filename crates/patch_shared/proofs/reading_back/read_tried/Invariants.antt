use Rattle.std.proofs.Common.{◌≡◌, length}
use Rattle.patch_model.specs.declared.blocks.TheConstants.{BLOCK}
use Rattle.patch_device.specs.SameDevice.{IsSameDevice}
use Rattle.patch_cache.specs.Waves.{HasRisenBy}
use Rattle.patch_shared.specs.Serving.{AreUnread}
use Rattle.patch_shared.proofs.reading_back.read_tried.Given as goal

-- it is the same device, with one fault and one refused read for each try, and holds what it held
abbrev pub invariant-loop-tried : goal.invariant-loop-tried
invariant-loop-tried g l = record {
  same : IsSameDevice g.D.Device l.fn.device l.device;
  contents_are : g.D.Device.is_honest l.fn.device → g.D.Device.contents l.device ≡ g.D.Device.contents l.fn.device;
  moment : g.D.Device.moment l.device ≡ g.D.Device.moment l.fn.device;
  unread : AreUnread g.D.Device l._tried l.fn.device l.device;
  whole : length l.into ≡ BLOCK;
  risen : HasRisenBy l._tried (g.D.Device.fault_count l.fn.device) (g.D.Device.fault_count l.device);
}
