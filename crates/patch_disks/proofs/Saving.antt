-- What a save has done.
use Rattle.std.proofs.Common.{◌≡◌, ℕ, List, refl, sym, subst}
use Rattle.patch_model.specs.Step.{Step}
use Rattle.patch_model.specs.Execution.{followed_by}
use Rattle.patch_device.specs.SameDevice.{IsSameDevice}
use Rattle.patch_device.specs.declared.devices.Device.{Ghosts}
use Rattle.patch_cache.specs.Joining.{SafeJoin}
use Rattle.patch_cache.specs.Waves.{HasKept, HoldImages, IsFlushed}
use Rattle.patch_history.specs.History.{History, execution_of}
use Rattle.patch_store.specs.Flushing.{HoldCached, HasWritten, with_writes}
use Rattle.patch_store.specs.Meaning.{Store, IsStoreOf}
use Rattle.patch_disks.specs.Going.{GoesSafely, EndsSafely}
use Rattle.patch_disks.specs.Running.{StandsOn, HasSaved}
use Rattle.patch_disks.proofs.Going.{goes_alike, goes_both, goes_by_writes, writes_behind}

-- The store was flushed, and the device has finished.
pub flushed_goes : {D : Type 0} (g : Ghosts D) → SafeJoin g → (h : History) (steps : List Step) (before mid now : D) → HasKept g (execution_of h) steps before mid
    → IsSameDevice g mid now → g.moment now ≡ g.moment mid → GoesSafely g h (with_writes h steps) before now
flushed_goes g join h steps before mid now kept device none =
    goes_both g join h (with_writes h steps) (with_writes h steps) before mid now (goes_by_writes g h steps before mid kept)
    (goes_alike g (with_writes h steps) mid now device none)

pub flushed_ends : {D : Type 0} (g : Ghosts D) (h : History) (steps : List Step) (flushed : Store) (before now : D) → HasWritten h steps flushed
    → GoesSafely g h (with_writes h steps) before now → EndsSafely g h before now
flushed_ends g h steps flushed before now written goes = record { last = with_writes h steps; legal = written.represents.legal; goes = goes }

-- and the trace was let go
pub saved_so : {D : Type 0} (g : Ghosts D) (h : History) (steps : List Step) (flushed new : Store) (before mid now : D) → StandsOn flushed (with_writes h steps) (g.contents mid)
    → IsFlushed (execution_of (with_writes h steps)) → HoldCached (execution_of (with_writes h steps)) (g.contents mid) → g.contents now ≡ g.contents mid
    → ((h : History) → IsStoreOf flushed h → IsStoreOf new h) → GoesSafely g h (with_writes h steps) before now → HasSaved g h new before now
saved_so g h steps flushed new before mid now stands none cached same drained goes =
    let run = execution_of (with_writes h steps) in
    record {
      next = with_writes h steps;
      saved = record { writes = steps; new_is = refl; flushed = none };
      stands = record {
        still = record { represents = drained _ stands.still.represents; no_flight = stands.still.no_flight };
        images = subst (HoldImages run) (sym same) stands.images;
      };
      disk = subst (HoldCached run) (sym same) cached;
      goes = goes;
    }

-- how the store stands behind a flush
pub flushed_stands : (h : History) (steps : List Step) (flushed : Store) (contents : List (List ℕ)) → HasWritten h steps flushed
    → IsFlushed (followed_by (execution_of h) steps) → HoldImages (followed_by (execution_of h) steps) contents
    → HoldCached (followed_by (execution_of h) steps) contents
    → StandsOn flushed (with_writes h steps) contents × IsFlushed (execution_of (with_writes h steps)) × HoldCached (execution_of (with_writes h steps)) contents
flushed_stands h steps flushed contents written none images cached =
    let is = writes_behind h steps in
    let now = subst IsFlushed is none in (
      record {
        still = record { represents = written.represents; no_flight = now.no_flight };
        images = subst (λ run. HoldImages run contents) is images;
      },
      now,
      subst (λ run. HoldCached run contents) is cached,
    )
