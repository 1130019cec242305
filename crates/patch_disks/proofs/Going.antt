-- How what a cut of the power leaves goes on with a store's history.
use Rattle.std.proofs.Common.{◌≡◌, ℕ, ◌+◌, ◌≤◌, ◌∙◌, inl, inr, List, [], ◌∷◌, ◌++◌, length, map, refl, sym, ap, subst, arith, append_assoc, length-append}
use Rattle.std.specs.Prelude.{Result, Ok, Err, OnOk, flat_map}
use Rattle.std.proofs.lemmas.List.{append-nil}
use Rattle.std.proofs.lemmas.Grind.{flat_map-append}
use Rattle.patch_model.specs.Step.{Step}
use Rattle.patch_model.specs.Execution.{Execution, followed_by}
use Rattle.patch_model.specs.Crash.{MayLeave}
use Rattle.patch_device.specs.Device.{Elapses, elapses_still}
use Rattle.patch_device.specs.SameDevice.{IsSameDevice, IsLasting, LeavesOnly, may_leave}
use Rattle.patch_device.specs.declared.devices.Device.{Ghosts}
use Rattle.patch_cache.specs.Joining.{SafeJoin}
use Rattle.patch_cache.specs.Running.{IsCrashSafe}
use Rattle.patch_cache.specs.Waves.{HasKept}
use Rattle.patch_history.specs.History.{History, Moved, steps_in, steps_of, execution_of}
use Rattle.patch_store.specs.Flushing.{with_writes}
use Rattle.patch_store.specs.Meaning.{Store}
use Rattle.patch_store.specs.Opening.{IsOpened, unchanged, at_opening}
use Rattle.patch_disks.specs.Going.{GoesSafely, EndsSafely, WentSafely, StillLasts}
use Rattle.patch_disks.specs.Running.{StandsOn}

-- A device of which nothing new can be left: no moment was begun.

pub left_alike : {D : Type 0} (g : Ghosts D) (before now : D) → Elapses (g.moment before) (g.moment now) (g.left_at before) (g.left_at now)
    → g.moment now ≡ g.moment before → (disk : List (List ℕ)) → may_leave g now disk → may_leave g before disk
left_alike g before now time none disk may = (time.past (g.moment before) disk (omega arith)).1 (subst (λ t. g.left_at now t disk) none may)

pub lasts_alike : {D : Type 0} (g : Ghosts D) (before now : D) → IsSameDevice g before now → g.moment now ≡ g.moment before
    → g.contents now ≡ g.contents before → StillLasts g before now
lasts_alike g before now device none same lasting disk may = lasting disk (left_alike g before now device.time none disk may) ∙ sym same

pub safe_alike : {D : Type 0} (g : Ghosts D) (run : Execution) (before now : D) → IsSameDevice g before now → g.moment now ≡ g.moment before
    → LeavesOnly g before (MayLeave run) → IsCrashSafe g run run before now
safe_alike g run before now device none left = record {
  time = device.time;
  counts = [];
  moments = omega (arith, none);
  trail = omega arith;
  left = λ disk may. left disk (left_alike g before now device.time none disk may);
}

-- One history and a later one.

behind_none : (h : History) → execution_of h ≡ followed_by (execution_of h) []
behind_none h = ap (λ all. record (execution_of h) { steps = all }) (sym (append-nil (steps_of h)))

pub goes_alike : {D : Type 0} (g : Ghosts D) (h : History) (before now : D) → IsSameDevice g before now → g.moment now ≡ g.moment before
    → GoesSafely g h h before now
goes_alike g h before now device none = record {
  more = [];
  goes_on = behind_none h;
  crash = λ left. safe_alike g (execution_of h) before now device none left;
}

pub goes_still : {D : Type 0} (g : Ghosts D) (h : History) (device : D) → GoesSafely g h h device device
goes_still g h device = record {
  more = [];
  goes_on = behind_none h;
  crash = λ left. record { time = elapses_still (g.moment device) (g.left_at device); counts = []; moments = omega arith; trail = omega arith; left = left };
}

-- where a call was made, on a device that nothing was done to
pub goes_by_call : {D : Type 0} (g : Ghosts D) (h next : History) (more : List Step) (device : D) → execution_of next ≡ followed_by (execution_of h) more
    → ((disk : List (List ℕ)) → MayLeave (execution_of h) disk → MayLeave (execution_of next) disk) → GoesSafely g h next device device
goes_by_call g h next more device is stays =
    let long : length (steps_of h ++ more) ≡ length (steps_of h) + length more = length-append (steps_of h) more in
    record {
      more = more;
      goes_on = is;
      crash = λ left. record {
        time = elapses_still (g.moment device) (g.left_at device);
        counts = [];
        moments = omega arith;
        trail = subst (λ (run : Execution). length (steps_of h) ≤ length run.steps) (sym is) (omega (arith, long));
        left = λ disk may. stays disk (left disk may);
      };
    }

pub goes_both : {D : Type 0} (g : Ghosts D) → SafeJoin g → (a b c : History) (before mid now : D) → GoesSafely g a b before mid → GoesSafely g b c mid now
    → GoesSafely g a c before now
goes_both g join a b c before mid now first second = record {
  more = first.more ++ second.more;
  goes_on = second.goes_on ∙ ap (λ (run : Execution). followed_by run second.more) first.goes_on
      ∙ ap (λ all. record (execution_of a) { steps = all }) (append_assoc (steps_of a) first.more second.more);
  crash = λ left.
      let one = first.crash left in
      let two = second.crash one.left in
      subst (λ run. IsCrashSafe g (execution_of a) run before now) (sym second.goes_on)
      (join (execution_of a) (execution_of b) second.more before mid now one (subst (λ run. IsCrashSafe g (execution_of b) run mid now) second.goes_on two));
}

-- writes

steps_of_writes : (steps : List Step) → flat_map steps_in (map Moved steps) ≡ steps
steps_of_writes [] = refl
steps_of_writes (step ∷ steps) = ap (λ all. step ∷ all) (steps_of_writes steps)

pub writes_behind : (h : History) (steps : List Step) → followed_by (execution_of h) steps ≡ execution_of (with_writes h steps)
writes_behind h steps =
    ap (λ all. record (execution_of h) { steps = all })
    (sym (flat_map-append steps_in h.events (map Moved steps) ∙ ap (λ all. flat_map steps_in h.events ++ all) (steps_of_writes steps)))

pub goes_by_writes : {D : Type 0} (g : Ghosts D) (h : History) (steps : List Step) (before now : D) → HasKept g (execution_of h) steps before now
    → GoesSafely g h (with_writes h steps) before now
goes_by_writes g h steps before now kept = record {
  more = steps;
  goes_on = sym (writes_behind h steps);
  crash = λ left. subst (λ run. IsCrashSafe g (execution_of h) run before now) (writes_behind h steps) (kept.crash left);
}

-- However it ended.

pub ends_still : {D : Type 0} (g : Ghosts D) (h : History) (store : Store) (contents : List (List ℕ)) (device : D) → StandsOn store h contents
    → EndsSafely g h device device
ends_still g h store contents device stands = record { last = h; legal = stands.still.represents.legal; goes = goes_still g h device }

pub ends_at : {D : Type 0} (g : Ghosts D) (h next : History) (store : Store) (contents : List (List ℕ)) (before now : D) → StandsOn store next contents
    → GoesSafely g h next before now → EndsSafely g h before now
ends_at g h next store contents before now stands goes = record { last = next; legal = stands.still.represents.legal; goes = goes }

pub ends_behind : {D : Type 0} (g : Ghosts D) → SafeJoin g → (h next : History) (before mid now : D) → GoesSafely g h next before mid → EndsSafely g next mid now
    → EndsSafely g h before now
ends_behind g join h next before mid now goes ends = record {
  last = ends.last;
  legal = ends.legal;
  goes = goes_both g join h next ends.last before mid now goes ends.goes;
}

-- From the opening on.

-- a crash before any step leaves the first blocks
abbrev pub FirstBytes : Type 0
FirstBytes = (first : List (List ℕ)) → MayLeave (unchanged first) first

lasting_left : FirstBytes → {D : Type 0} (g : Ghosts D) (device : D) (contents : List (List ℕ)) → contents ≡ g.contents device → IsLasting g device
    → LeavesOnly g device (MayLeave (unchanged contents))
lasting_left first g device contents is lasting disk may = subst (λ d. MayLeave (unchanged contents) d) (is ∙ sym (lasting disk may)) (first contents)

-- nothing was written
pub went_nowhere : FirstBytes → {D : Type 0} (g : Ghosts D) (before now : D) → IsSameDevice g before now → g.moment now ≡ g.moment before → IsLasting g before
    → WentSafely g (g.contents before) before now
went_nowhere first g before now device none lasting =
    inl (safe_alike g (unchanged (g.contents before)) before now device none (lasting_left first g before (g.contents before) refl lasting))

-- a store was opened, and went on from there
pub went_so : FirstBytes → {D : Type 0} (g : Ghosts D) → SafeJoin g → (store : Store) (before mid now : D) (opened : IsOpened (g.contents before) store)
    → IsSameDevice g before mid → g.moment mid ≡ g.moment before → IsLasting g before → EndsSafely g (at_opening (g.contents before) opened.ledger) mid now
    → WentSafely g (g.contents before) before now
went_so first g join store before mid now opened device none lasting ends =
    let h = at_opening (g.contents before) opened.ledger in
    let whole = goes_both g join h h ends.last before mid now (goes_alike g h before mid device none) ends.goes in
    inr (
      ends.last,
      ends.legal,
      ap (λ (run : Execution). run.first) whole.goes_on,
      whole.crash (lasting_left first g before (g.contents before) refl lasting),
    )

-- what lasts over some calls and then some more
pub lasts_both : {D : Type 0} (g : Ghosts D) (before mid now : D) → StillLasts g before mid → StillLasts g mid now → StillLasts g before now
lasts_both g before mid now first second lasting = second (first lasting)

pub each_still : {D T E : Type 0} (g : Ghosts D) (r : Result T E) (device : D) → OnOk r (StillLasts g device device)
each_still g (Ok x) device = λ lasting. lasting
each_still g (Err e) device = tt
