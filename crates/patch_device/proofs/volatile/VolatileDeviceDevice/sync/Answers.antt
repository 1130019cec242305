use Rattle.std.proofs.Common.{◌≡◌, [], ◌∷◌, ◌++◌, None, length, arith, ◌∙◌, sym}
use Rattle.std.proofs.lemmas.Grind.{common_steps}
use Rattle.patch_device.specs.Blocks.{zeros}
use Rattle.patch_device.proofs.Caching.{more_synced, no_more_left, synced_sync}
use Rattle.patch_device.proofs.volatile.VolatileDeviceDevice.sync.Goals as goal

pub invariant_of-self-2-clause-replayed : goal.invariant_of-self-2-clause-replayed
invariant_of-self-2-clause-replayed g c =
    let more : c.push.new.self.items ≡ c.args.self.now.events.items ++ None ∷ [] = grind (arith, common_steps) in
    c.args.self.now.replayed ∙ sym (more_synced (zeros c.args.self.now.count) c.args.self.now.events.items c.push.new.self.items more)

pub invariant_of-self-2-clause-last_sync : goal.invariant_of-self-2-clause-last_sync
invariant_of-self-2-clause-last_sync g c =
    let more : c.push.new.self.items ≡ c.args.self.now.events.items ++ None ∷ [] = grind (arith, common_steps) in
    let all : c.len-self.result ≡ length c.push.new.self.items = grind (arith, common_steps) in
    synced_sync (zeros c.args.self.now.count) c.args.self.now.events.items c.push.new.self.items c.len-self.result more all

pub returns-clause-no_more : goal.returns-clause-no_more
returns-clause-no_more g c =
    let more : c.push.new.self.items ≡ c.args.self.now.events.items ++ None ∷ [] = grind (arith, common_steps) in
    no_more_left (zeros c.args.self.now.count) c.args.self.now.events.items c.push.new.self.items more
