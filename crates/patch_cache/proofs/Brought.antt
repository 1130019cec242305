-- Blocks that are read from the device as they are named.
use Rattle.std.proofs.Common.{◌≡◌, ◌<◌, ◌≤◌, ◌⊎◌, ℕ, inl, inr, ◌∙◌, false, Some, None, length, refl, sym, subst, arith}
use Rattle.std.proofs.lemmas.Bool.{cases_Bool, cases_lt}
use Rattle.patch_model.specs.declared.refusals.RefusalKind.TheVariants as kind
use Rattle.patch_model.specs.Execution.{Execution}
use Rattle.patch_model.specs.Refusing.{bare}
use Rattle.patch_device.specs.Device.{HasRisen, most_faults}
use Rattle.patch_device.specs.SameDevice.{IsSameDevice}
use Rattle.patch_device.specs.declared.devices.Device.{Ghosts}
use Rattle.patch_cache.specs.Contents.{Contents, is_resident}
use Rattle.patch_cache.specs.Meaning.{IsPagedCacheOf}
use Rattle.patch_cache.specs.Paging.{why_not_resident}
use Rattle.patch_cache.specs.Refusals.{bring_cause}
use Rattle.patch_cache.specs.Asks.{Ask, Create, Merge, Send, Complete, View, Answer, Refused, IsFault, IsMissing, block_named, is_complete}
use Rattle.patch_cache.specs.Running.{IsServedBy, HasWritten}
use Rattle.patch_cache.specs.Waves.{HoldImages}
use Rattle.patch_cache.specs.Bringing.{RunsOnImages, IsServedOnImages}
use Rattle.patch_cache.specs.declared.flights.Flights.{Flights}
use Rattle.patch_cache.specs.declared.refusals.BringRefusal.{BringRefusal}
use Rattle.patch_cache.specs.declared.refusals.BringRefusal.TheVariants.{Fault, OutOfMemory}
use Rattle.patch_cache.proofs.Absent.{resident_missed, beyond_missed}
use Rattle.patch_cache.proofs.Crashing.{untouched, joined_ask}
use Rattle.patch_cache.proofs.GivenUp.{risen_once_later}
use Rattle.patch_cache.proofs.HeldFlights.{StatesExtend, ImagesStay}
use Rattle.patch_cache.proofs.Imaging.{images_after}
use Rattle.patch_cache.proofs.Serving.{memory_faultless, unchanged}

-- an ask that names a block completes nothing
names_no_end : (ask : Ask) (block : ℕ) → block_named ask ≡ Some block → is_complete ask ≡ false
names_no_end (Create at start bytes after undo) block named = refl
names_no_end (Merge a b) block named = refl
names_no_end (Send at) block named = refl
names_no_end (Complete at) block named = absurd (cc)
names_no_end (View at moves start len) block named = refl

gives_up : (refusal : BringRefusal) → (Refused (bring_cause refusal) ≡ Refused (bare kind.OutOfMemory)) ⊎ (Refused (bring_cause refusal) ≡ Refused (bare kind.Fault))
gives_up Fault = inr refl
gives_up OutOfMemory = inl refl

fault_of : (refusal : BringRefusal) → IsFault (Refused (bring_cause refusal)) → refusal ≡ Fault
fault_of Fault is = refl
fault_of OutOfMemory is = absurd (memory_faultless is)

-- a block that wasn't brought is one of the cache's, and has no live patch
pub missing : (run : Execution) (cache : Contents) (block : ℕ) → IsPagedCacheOf cache run → (why_not_resident cache block ≡ None → ⊥) → IsMissing run block
missing run cache block at missed = elim (cases_lt block (length cache.blocks)) [
  | inr past ↦ absurd (missed (beyond_missed cache block past))
  | inl known ↦
      let placed : block < length run.first = let count = at.count in omega (arith, known, count) in
      elim (cases_Bool (is_resident cache block)) [
        | inl there ↦ absurd (missed (resident_missed cache block there))
        | inr absent ↦ record { known = placed; clean = at.absent block placed absent }
      ]
]

-- An ask whose block wasn't brought is given up, and nothing else is done.
pub given_up : {A D : Type 0} (g : Ghosts D) (run : Execution) (ask : Ask) (block : ℕ) (refusal : BringRefusal) (cache : Contents) (flights : Flights A) (before now : D)
    → RunsOnImages g cache flights before run → block_named ask ≡ Some block → IsMissing run block → IsSameDevice g before now
    → (refusal ≡ Fault → length cache.blocks ≡ g.block_count before → HasRisen (g.fault_count before) (g.fault_count now))
    → g.contents now ≡ g.contents before → g.moment now ≡ g.moment before → IsServedOnImages g run ask (Refused (bring_cause refusal)) cache flights before now
given_up g run ask block refusal cache flights before now on named missed device fault same moment =
    record {
      served = record {
        answered = record {
          right = inr (inr (record { block = block; named = named; missing = missed; gives_up = gives_up refusal }));
          runs = on.on.runs;
        };
        fault = λ is. fault (fault_of refusal is) (on.on.runs.cache_is.count ∙ sym on.on.blocks);
        written = λ honest. subst (HasWritten run ask (Refused (bring_cause refusal)) (g.contents before)) (sym same) (unchanged run ask (Refused (bring_cause refusal)) (g.contents before) (names_no_end ask block named));
        crash = λ honest left. untouched g run before now device.time moment left;
      };
      images = subst (HoldImages run) (sym same) on.images;
    }

-- An ask that is served holds the images still.
pub served_images : StatesExtend → ImagesStay → {A D : Type 0} (g : Ghosts D) (run : Execution) (ask : Ask) (answer : Answer) (cache : Contents) (flights : Flights A) (before now : D)
    → g.is_honest before → HoldImages run (g.contents before) → IsServedBy g false run ask answer cache flights before now → IsServedOnImages g run ask answer cache flights before now
served_images extend stay g run ask answer cache flights before now honest images served =
    record { served = served; images = images_after extend stay run ask answer (g.contents before) (g.contents now) served.answered.right (served.written honest) images }

-- So it is of one that is served once its block was brought.
pub served_behind : {A D : Type 0} (g : Ghosts D) (run : Execution) (ask : Ask) (answer : Answer) (cache : Contents) (flights : Flights A) (before mid now : D)
    → g.fault_count now ≤ most_faults → IsSameDevice g before mid → (g.is_honest before → g.contents mid ≡ g.contents before) → g.moment mid ≡ g.moment before
    → IsServedOnImages g run ask answer cache flights mid now → IsServedOnImages g run ask answer cache flights before now
served_behind g run ask answer cache flights before mid now fits device same moment later = record {
  served = record {
    answered = later.served.answered;
    fault = λ is. risen_once_later (g.fault_count before) (g.fault_count mid) (g.fault_count now) device.faults fits (later.served.fault is);
    written = λ honest. subst (λ old. HasWritten run ask answer old (g.contents now)) (same honest) (later.served.written (device.honesty.0 honest));
    crash = λ honest left.
        let first = untouched g run before mid device.time moment left in
        joined_ask g run run ask answer before mid now first (later.served.crash (device.honesty.0 honest) first.left);
  };
  images = later.images;
}
