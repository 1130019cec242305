use Rattle.std.proofs.Common.{◌≡◌, [], ◌∷◌, ◌++◌, None, true, arith, ap, length, subst, sym, ◌∙◌}
use Rattle.std.proofs.lemmas.Grind.{common_steps}
use Rattle.patch_device.specs.Blocks.{AreWhole}
use Rattle.patch_device.proofs.Filing.{synced_then, no_more_then, lasts_then}
use Rattle.patch_device.proofs.files.FileDeviceDevice.sync.Goals as goal

-- no block changes
pub invariant_of-self-clause-counted : goal.invariant_of-self-clause-counted
invariant_of-self-clause-counted g c =
    ap length (synced_then c.sync_file.new.self.past.first c.behind_sync-self.result.first c.sync_file.new.self.past.events c.behind_sync-self.result.events c.behind_sync-self.ensures.0
    c.behind_sync-self.ensures.1)
    ∙ c.sync_file.new.self.counted

pub invariant_of-self-clause-whole : goal.invariant_of-self-clause-whole
invariant_of-self-clause-whole g c =
    subst AreWhole
    (sym (synced_then c.sync_file.new.self.past.first c.behind_sync-self.result.first c.sync_file.new.self.past.events c.behind_sync-self.result.events c.behind_sync-self.ensures.0
    c.behind_sync-self.ensures.1))
    c.sync_file.new.self.whole

pub returns-clause-same : goal.returns-clause-same
returns-clause-same g c =
    let same : c.behind_sync-self.result.first ≡ c.args.self.now.past.first = rw (← c.sync_file.ensures.past) c.behind_sync-self.ensures.0 in
    let more : c.behind_sync-self.result.events ≡ c.args.self.now.past.events ++ None ∷ [] = rw (← c.sync_file.ensures.past) c.behind_sync-self.ensures.1 in
    synced_then c.args.self.now.past.first c.behind_sync-self.result.first c.args.self.now.past.events c.behind_sync-self.result.events same more

pub returns-clause-no_more : goal.returns-clause-no_more
returns-clause-no_more g c =
    let same : c.behind_sync-self.result.first ≡ c.args.self.now.past.first = rw (← c.sync_file.ensures.past) c.behind_sync-self.ensures.0 in
    let more : c.behind_sync-self.result.events ≡ c.args.self.now.past.events ++ None ∷ [] = rw (← c.sync_file.ensures.past) c.behind_sync-self.ensures.1 in
    let on : c.args.self.now.barriers ≡ true = grind (arith, common_steps) in
    no_more_then c.args.self.now.barriers c.sync_file.new.self.barriers c.args.self.now.past.first c.behind_sync-self.result.first c.args.self.now.past.events c.behind_sync-self.result.events
    on (c.sync_file.ensures.barriers ∙ on) same more

pub returns-clause-lasts : goal.returns-clause-lasts
returns-clause-lasts g c =
    let on : c.args.self.now.barriers ≡ true = grind (arith, common_steps) in
    lasts_then c.sync_file.new.self.barriers c.sync_file.new.self.past.first c.behind_sync-self.result.first c.sync_file.new.self.past.events c.behind_sync-self.result.events
    (c.sync_file.ensures.barriers ∙ on) c.behind_sync-self.ensures.0 c.behind_sync-self.ensures.1

-- nor what is remembered
pub invariant_of-self-clause-remembers : goal.invariant_of-self-clause-remembers
invariant_of-self-clause-remembers g c blocks is =
    c.sync_file.new.self.remembers blocks is
    ∙ sym (synced_then c.sync_file.new.self.past.first c.behind_sync-self.result.first c.sync_file.new.self.past.events c.behind_sync-self.result.events c.behind_sync-self.ensures.0
    c.behind_sync-self.ensures.1)
