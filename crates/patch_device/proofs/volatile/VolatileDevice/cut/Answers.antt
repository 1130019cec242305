use Rattle.patch_device.specs.Blocks.{zeros}
use Rattle.patch_device.proofs.Caching.{cut_made, cut_left}
use Rattle.patch_device.proofs.volatile.VolatileDevice.cut.Goals as goal

-- the writes up to the last sync are all done, and of those behind it those that land
pub returns-clause-may_be_left : goal.returns-clause-may_be_left
returns-clause-may_be_left g c =
    cut_left (zeros c.args.self.now.count) c.args.self.now.events.items c.args.lands.now _
    (cut_made (zeros c.args.self.now.count) _ c.args.self.now.events.items c.as_slice.result.now c.args.self.now.synced c.args.lands.now c.split_at.result.0.now c.split_at.result.1.now _ _
    c.args.self.now.last_sync c.in_ok-blocks.ensures c.as_slice.ensures.value c.split_at.ensures.front c.split_at.ensures.back c.replay.ensures c.replay_some.ensures)
