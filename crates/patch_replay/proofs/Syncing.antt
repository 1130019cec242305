-- A sync, as a line is answered it.
use Rattle.std.proofs.Common.{◌≡◌, ◌∙◌, ◌↔◌, Result, Ok, Err, Some, None, ℕ, refl, sym, ap}
use Rattle.std.specs.Prelude.{IfOk}
use Rattle.patch_model.specs.declared.refusals.OutOfMemory.{OutOfMemory}
use Rattle.patch_model.specs.declared.refusals.RefusalKind.TheVariants as kind
use Rattle.patch_model.specs.Refusing.{bare}
use Rattle.patch_device.specs.MemDevice.{contents_of}
use Rattle.patch_plans.specs.Groups.{why_not_counted}
use Rattle.patch_group.specs.declared.refusals.SyncRefusal.{SyncRefusal}
use Rattle.patch_group.specs.declared.refusals.SyncRefusal.TheVariants.{NoSuchGroup}
use Rattle.patch_script.specs.declared.answers.Answer.{Answer}
use Rattle.patch_script.specs.declared.answers.Answer.TheVariants.{Synced, Refused}
use Rattle.patch_replay.specs.Answering.{IsAfterSync, IsSyncAnswered, HasComeTo}
use Rattle.patch_replay.specs.World.{World}
use Rattle.patch_replay.specs.CachedDisk.{IsAt}
use Rattle.patch_replay.specs.declared.cached_disk.CachedDisk.{CachedDisk}

pub synced : (w next : World) (group : ℕ) → why_not_counted w.groups group ≡ None → IsAfterSync w group next → IsSyncAnswered w group Synced next
synced w next group known is = rw (known, IsSyncAnswered) (refl, is)

-- where there is no such group
refused : (w : World) (group : ℕ) (line : Answer) → why_not_counted w.groups group ≡ Some (bare kind.NoSuchGroup) → line ≡ Refused (bare kind.NoSuchGroup) → IsSyncAnswered w group line w
refused w group line unknown is = rw (unknown, IsSyncAnswered) (is, refl)

pub not_synced : {T : Type 0} (w : World) (core now : CachedDisk) (group : ℕ) (result : Result T SyncRefusal) (refusal : SyncRefusal) → result ≡ Err refusal
    → (line : Result Answer OutOfMemory) → IfOk line (λ _. refusal ≡ NoSuchGroup) → IfOk line (λ l. l ≡ Refused (bare kind.NoSuchGroup))
    → IsAt core w → (result ≡ Err NoSuchGroup) ↔ (why_not_counted core.groups group ≡ Some (bare kind.NoSuchGroup)) → now.groups ≡ core.groups
    → (result ≡ Err NoSuchGroup → (now.cache ≡ core.cache) × (now.flights ≡ core.flights) × (now.device ≡ core.device))
    → IfOk line (λ l. HasComeTo (IsSyncAnswered w group l) (IsAt now))
not_synced w core now group result refusal err (Err e) why is at unknown groups unchanged = tt
not_synced w core now group result refusal err (Ok line) why is at unknown groups unchanged =
    let none : result ≡ Err NoSuchGroup = err ∙ ap Err why in
    let same = unchanged none in (
      w,
      refused w group line (ap (λ gs. why_not_counted gs group) (sym at.groups) ∙ unknown.0 none) is,
      record { runs = rw (same.0, same.1) at.runs; groups = groups ∙ at.groups; groups_are = at.groups_are; disk = ap contents_of same.2 ∙ at.disk; images = at.images },
    )
