use Rattle.std.proofs.Common.{◌∙◌, sym, ap, refl, subst}
use Rattle.patch_model.specs.Execution.{followed_by}
use Rattle.patch_device.specs.MemDevice.{contents_of}
use Rattle.patch_cache.specs.Waves.{steps_since, HoldImages}
use Rattle.patch_plans.specs.Groups.{patches_of, why_not_counted}
use Rattle.patch_plans.specs.Order.{AreGroupsOf}
use Rattle.patch_group.specs.Syncing.{IsSynced}
use Rattle.patch_replay.specs.Answering.{IsAnswered}
use Rattle.patch_replay.specs.World.{World}
use Rattle.patch_replay.proofs.Asking.{counted, grouped}
use Rattle.patch_replay.proofs.Syncing.{synced, not_synced}
use Rattle.patch_replay.proofs.cached_disk.CachedDisk.sync.Goals as goal

pub returns-in-Ok : goal.returns-in-Ok
unfolding IsAnswered
returns-in-Ok c = λ w at.
    let ran = c.in-Ok.ensures in
    let core = c.args.self.now in
    let now = c.sync-synced.new in
    let steps = steps_since core.cache now.cache in
    let next : World = record { run = followed_by w.run steps; groups = w.groups; disk = contents_of now.device } in
    let stands = ran.stands w.run (record { on = record { runs = at.runs; blocks = counted core w at }; groups_are = grouped core w at }) in
    let images : HoldImages next.run next.disk = (ran.disk tt w.run at.runs).images (subst (HoldImages w.run) (sym at.disk) at.images) in (
      next,
      synced w next c.args.group (ap (λ gs. why_not_counted gs c.args.group) (sym at.groups) ∙ ran.known) (record {
        steps = steps;
        synced = subst (λ gs. IsSynced (patches_of gs c.args.group) w.run steps) at.groups (ran.steps w.run at.runs);
        run_is = refl;
        groups_are = refl;
        images = images;
      }),
      record { runs = stands.on.runs; groups = at.groups; groups_are = subst (AreGroupsOf next.run) at.groups stands.groups_are; disk = refl; images = images },
    )

pub returns-in-Err : goal.returns-in-Err
unfolding IsAnswered
returns-in-Err c = λ w at. not_synced w c.args.self.now _ c.args.group c.sync-synced.result c.in-Err.refusal c.in-Err.is
    c.answer_of_sync_refusal.result c.answer_of_sync_refusal.ensures.why c.answer_of_sync_refusal.ensures.is at c.sync-synced.ensures.no_group refl c.sync-synced.ensures.unchanged
