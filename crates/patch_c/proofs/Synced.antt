-- What a flush leaves to be said once its steps are let go.
use Rattle.std.proofs.Common.{◌≡◌, ◌∙◌, ℕ, List, [], ◌∷◌, ◌++◌, map, refl, sym, ap, subst}
use Rattle.std.specs.Prelude.{flat_map}
use Rattle.std.proofs.lemmas.Grind.{flat_map-append}
use Rattle.patch_model.specs.Step.{Step}
use Rattle.patch_model.specs.Execution.{followed_by}
use Rattle.patch_cache.specs.Waves.{HoldImages, IsFlushed}
use Rattle.patch_history.specs.History.{History, Moved, steps_in, execution_of}
use Rattle.patch_store.specs.Flushing.{HoldCached, HasWritten, with_writes}
use Rattle.patch_store.specs.Meaning.{Store, IsStoreOf}
use Rattle.patch_c.specs.Saving.{IsSynced, HasSaved, HasWrittenOn}

steps_of_writes : (steps : List Step) → flat_map steps_in (map Moved steps) ≡ steps
steps_of_writes [] = refl
steps_of_writes (step ∷ steps) = ap (λ all. step ∷ all) (steps_of_writes steps)

-- the execution behind writes
pub writes_behind : (h : History) (steps : List Step) → followed_by (execution_of h) steps ≡ execution_of (with_writes h steps)
writes_behind h steps =
    ap (λ all. record (execution_of h) { steps = all })
    (sym (flat_map-append steps_in h.events (map Moved steps) ∙ ap (λ all. flat_map steps_in h.events ++ all) (steps_of_writes steps)))

-- nothing is left to be written
pub synced_so : (h : History) (steps : List Step) (flushed new : Store) → HasWritten h steps flushed → IsFlushed (followed_by (execution_of h) steps)
    → ((h : History) → IsStoreOf flushed h → IsStoreOf new h) → IsSynced h new
synced_so h steps flushed new written none kept =
    let now = subst IsFlushed (writes_behind h steps) none in
    record {
      next = with_writes h steps;
      saved = record { writes = steps; new_is = refl; flushed = now };
      still = record { represents = kept _ written.represents; no_flight = now.no_flight };
    }

-- and the blocks are the cached ones
pub saved_so : (h : History) (steps : List Step) (flushed new : Store) (blocks : List (List ℕ)) → HasWritten h steps flushed
    → IsFlushed (followed_by (execution_of h) steps) → HoldImages (followed_by (execution_of h) steps) blocks
    → HoldCached (followed_by (execution_of h) steps) blocks → ((h : History) → IsStoreOf flushed h → IsStoreOf new h) → HasSaved h new blocks
saved_so h steps flushed new blocks written none images cached kept =
    let is = writes_behind h steps in
    let now = subst IsFlushed is none in
    record {
      next = with_writes h steps;
      saved = record { writes = steps; new_is = refl; flushed = now };
      stands = record {
        still = record { represents = kept _ written.represents; no_flight = now.no_flight };
        images = subst (λ run. HoldImages run blocks) is images;
      };
      disk = subst (λ run. HoldCached run blocks) is cached;
    }

-- or some writes were made
pub written_so : (h : History) (steps : List Step) (flushed new : Store) → HasWritten h steps flushed
    → ((h : History) → IsStoreOf flushed h → IsStoreOf new h) → HasWrittenOn h new
written_so h steps flushed new written kept = record { writes = steps; represents = kept _ written.represents }
