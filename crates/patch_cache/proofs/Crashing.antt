-- What asks leave on a device.
use Rattle.std.proofs.Common.{◌≡◌, ◌≢◌, ℕ, suc, Bool, true, false, ◌+◌, ◌<◌, ◌≤◌, inl, inr, ◌∙◌, Option, Some, None, List, [], ◌∷◌, ◌++◌, length, refl, sym, ap, subst, arith, slice_set, length-append}
use Rattle.std.specs.Prelude.{if◌then◌else◌}
use Rattle.std.proofs.Math.Seq.{take-length}
use Rattle.std.proofs.lemmas.List.{append-nil}
use Rattle.patch_model.specs.Step.{Step}
use Rattle.patch_model.specs.Step as the
use Rattle.patch_model.specs.Execution.{Execution, extended, followed_by, cut}
use Rattle.patch_model.specs.State.{State, after_step, after_steps, at_first, state_of}
use Rattle.patch_model.specs.Legal.{IsLegal, IsLegalStep, AreLegal}
use Rattle.patch_model.specs.History.{history_of, image}
use Rattle.patch_model.specs.Crash.{HasTrail, MayLeave}
use Rattle.patch_model.specs.Trails.{trails_join}
use Rattle.patch_device.specs.Device.{IsOldOrNew, LandsOrNot, LeavesNoMore, Elapses, elapses_still, elapses_both}
use Rattle.patch_device.specs.SameDevice.{LeavesOnly, may_leave}
use Rattle.patch_device.specs.declared.devices.Device.{Ghosts}
use Rattle.std.proofs.lemmas.Bool.{cases_eq}
use Rattle.patch_cache.specs.Asks.{Ask, Create, Merge, Send, Complete, View, Answer, is_complete, is_refused, step_for, extended_by, after}
use Rattle.patch_cache.specs.Running.{IsCrashSafe}

-- the laws of crashes, as they are handed on
abbrev pub DisksStay : Type 0
DisksStay = (run : Execution) (step : Step) (disk : List (List ℕ)) → IsLegal run → IsLegalStep (length run.first) (state_of run) step → ((block : ℕ) → step ≢ the.Complete block)
    → MayLeave run disk → MayLeave (extended run step) disk

abbrev pub ImagesLand : Type 0
ImagesLand = (run : Execution) (disk : List (List ℕ)) (block : ℕ) → block < length run.first → MayLeave run disk → MayLeave run (slice_set disk block (image (history_of run block)))

abbrev pub WritesEnd : Type 0
WritesEnd = (run : Execution) (disk : List (List ℕ)) (block : ℕ) → IsLegal run → block < length run.first → MayLeave run disk
    → MayLeave (extended run (the.Complete block)) (slice_set disk block (image (history_of run block)))

-- the last step of a legal execution is legal
pub legal_last : (blocks : ℕ) (st : State) (steps : List Step) (step : Step) → AreLegal blocks st (steps ++ step ∷ []) → IsLegalStep blocks (after_steps st steps) step
legal_last blocks st [] step h = h.0
legal_last blocks st (s ∷ ss) step h = legal_last blocks (after_step st s) ss step h.1

-- on a device that is as before, with an execution that is
pub unmoved : {D : Type 0} (g : Ghosts D) (run : Execution) (device : D) → LeavesOnly g device (MayLeave run) → IsCrashSafe g run run device device
unmoved g run device left = record { time = elapses_still (g.moment device) (g.left_at device); counts = []; moments = omega arith; trail = omega arith; left = left }

pub longer : (run : Execution) (step : Step) → length run.steps ≤ length (extended run step).steps
longer run step = let e : length (run.steps ++ step ∷ []) ≡ length run.steps + 1 = length-append run.steps (step ∷ []) in omega (arith, e)

-- or with more steps, where a crash leaves behind them what it may leave now
pub unmoved_steps : {D : Type 0} (g : Ghosts D) (run : Execution) (more : List Step) (device : D) → LeavesOnly g device (MayLeave (followed_by run more)) → IsCrashSafe g run (followed_by run more) device device
unmoved_steps g run more device left = record {
  time = elapses_still (g.moment device) (g.left_at device);
  counts = [];
  moments = omega arith;
  trail = let long : length (run.steps ++ more) ≡ length run.steps + length more = length-append run.steps more in omega (arith, long);
  left = left;
}

-- as behind a step that ends no write
pub unwritten_step : DisksStay → {D : Type 0} (g : Ghosts D) (run : Execution) (step : Step) (device : D) → ((block : ℕ) → step ≢ the.Complete block)
    → IsLegal run → IsLegal (extended run step) → LeavesOnly g device (MayLeave run) → IsCrashSafe g run (extended run step) device device
unwritten_step stay g run step device other legal longer_legal left =
    unmoved_steps g run (step ∷ []) device (λ disk may. stay run step disk legal (legal_last (length run.first) at_first run.steps step longer_legal.steps) other (left disk may))

if_unwritten : DisksStay → {D : Type 0} (g : Ghosts D) (run : Execution) (refused : Bool) (next : Option Step) (device : D)
    → ((s : Step) (block : ℕ) → next ≡ Some s → s ≢ the.Complete block) → IsLegal run → IsLegal (if refused then run else extended_by run next) → LeavesOnly g device (MayLeave run)
    → IsCrashSafe g run (if refused then run else extended_by run next) device device
if_unwritten stay g run true next device other legal longer_legal left = unmoved g run device left
if_unwritten stay g run false None device other legal longer_legal left = unmoved g run device left
if_unwritten stay g run false (Some s) device other legal longer_legal left = unwritten_step stay g run s device (λ block. other s block refl) legal longer_legal left

ends_no_write : (ask : Ask) → is_complete ask ≡ false → (s : Step) (block : ℕ) → step_for ask ≡ Some s → s ≢ the.Complete block
ends_no_write (Create b start bytes names undo) other s block is = λ e. absurd (cc)
ends_no_write (Merge a b) other s block is = λ e. absurd (cc)
ends_no_write (Send b) other s block is = λ e. absurd (cc)
ends_no_write (Complete b) other s block is = λ e. absurd (cc)
ends_no_write (View b moves start len) other s block is = λ e. absurd (cc)

-- an ask that completes nothing leaves the device as it is
pub unwritten : DisksStay → {D : Type 0} (g : Ghosts D) (run : Execution) (ask : Ask) (answer : Answer) (device : D) → is_complete ask ≡ false
    → IsLegal run → IsLegal (after run ask answer) → LeavesOnly g device (MayLeave run) → IsCrashSafe g run (after run ask answer) device device
unwritten stay g run ask answer device other legal longer_legal left =
    if_unwritten stay g run (is_refused answer) (step_for ask) device (ends_no_write ask other) legal longer_legal left

cut_whole : (run : Execution) → cut (length run.steps) run ≡ run
cut_whole run = ap (λ steps. let v : Execution = record { first = run.first; steps = steps } in v) (take-length run.steps)

-- a call of the device that begins one moment at most, at which a cut leaves what a crash may leave
pub one_moment : {D : Type 0} (g : Ghosts D) (run : Execution) (before now : D) → Elapses (g.moment before) (g.moment now) (g.left_at before) (g.left_at now) → g.moment now ≤ g.moment before + 1
    → LeavesOnly g now (MayLeave run) → IsCrashSafe g run run before now
one_moment g run before now time few left = elim (cases_eq (g.moment now) (g.moment before)) [
  | inl same ↦ record { time = time; counts = []; moments = omega (arith, same); trail = omega arith; left = left }
  | inr other ↦
      let later = time.later in
      let next : g.moment now ≡ suc (g.moment before) = omega (arith, later, few, other) in record {
        time = time;
        counts = length run.steps ∷ [];
        moments = omega (arith, next);
        trail = (
          omega arith,
          λ disk may. subst (λ r. MayLeave r disk) (sym (cut_whole run)) (left disk (subst (λ t. g.left_at now t disk) (sym next) may)),
          omega arith,
        );
        left = left;
      }
]

-- a call of the device that begins none, and writes nothing
pub untouched : {D : Type 0} (g : Ghosts D) (run : Execution) (before now : D) → Elapses (g.moment before) (g.moment now) (g.left_at before) (g.left_at now) → g.moment now ≡ g.moment before
    → LeavesOnly g before (MayLeave run) → IsCrashSafe g run run before now
untouched g run before now time same left =
    one_moment g run before now time (omega (arith, same)) (λ disk may. left disk ((time.past (g.moment before) disk (omega arith)).1 (subst (λ t. g.left_at now t disk) same may)))

either_left : ImagesLand → (run : Execution) (block : ℕ) (bytes : List ℕ) (contents now : List (List ℕ)) → block < length run.first → bytes ≡ image (history_of run block)
    → IsOldOrNew contents block bytes now → MayLeave run contents → MayLeave run now
either_left land run block bytes contents now known is (inl same) left = subst (MayLeave run) (sym same) left
either_left land run block bytes contents now known is (inr new) left =
    subst (MayLeave run) (sym (new ∙ ap (λ b. slice_set contents block b) is)) (land run contents block known left)

-- a write of the block's image, which may land or not
pub write_lands : ImagesLand → {D : Type 0} (g : Ghosts D) (run : Execution) (block : ℕ) (bytes : List ℕ) (before now : D) → block < length run.first
    → bytes ≡ image (history_of run block) → Elapses (g.moment before) (g.moment now) (g.left_at before) (g.left_at now) → g.moment now ≤ g.moment before + 1
    → LandsOrNot (may_leave g before) block bytes (may_leave g now) → LeavesOnly g before (MayLeave run) → IsCrashSafe g run run before now
write_lands land g run block bytes before now known is time few lands left =
    one_moment g run before now time few (λ disk may. let from = lands disk may in either_left land run block bytes from.0 disk known is from.2 (left from.0 from.1))

-- a sync, after which a cut leaves nothing more
pub synced : {D : Type 0} (g : Ghosts D) (run : Execution) (before now : D) → Elapses (g.moment before) (g.moment now) (g.left_at before) (g.left_at now) → g.moment now ≤ g.moment before + 1
    → LeavesNoMore (may_leave g before) (may_leave g now) → LeavesOnly g before (MayLeave run) → IsCrashSafe g run run before now
synced g run before now time few fewer left = one_moment g run before now time few (λ disk may. left disk (fewer disk may))

-- one call after another
pub joined : {D : Type 0} (g : Ghosts D) (a b c : Execution) (more : List Step) (before mid now : D) → c ≡ followed_by b more
    → IsCrashSafe g a b before mid → IsCrashSafe g b c mid now → IsCrashSafe g a c before now
joined g a b c more before mid now follows first second = record {
  time = elapses_both (g.moment before) (g.moment mid) (g.moment now) (g.left_at before) (g.left_at mid) (g.left_at now) first.time second.time;
  counts = first.counts ++ second.counts;
  moments = let one = first.moments in let two = second.moments in let both = length-append first.counts second.counts in omega (arith, one, two, both);
  trail =
      let at : suc (g.moment mid) ≡ suc (g.moment before) + length first.counts = let one = first.moments in omega (arith, one) in
      let later : HasTrail (followed_by b more) (g.left_at now) (suc (g.moment before) + length first.counts) (length b.steps) second.counts =
      subst (λ t. HasTrail (followed_by b more) (g.left_at now) t (length b.steps) second.counts) at
      (subst (λ r. HasTrail r (g.left_at now) (suc (g.moment mid)) (length b.steps) second.counts) follows second.trail) in
      subst (λ r. HasTrail r (g.left_at now) (suc (g.moment before)) (length a.steps) (first.counts ++ second.counts)) (sym follows)
      (trails_join b more (g.left_at mid) (g.left_at now) (suc (g.moment before)) (length a.steps) first.counts second.counts
      (λ t disk within may. (second.time.past t disk (omega (arith, within, at))).1 may) first.trail later);
  left = second.left;
}

if_follows : (run : Execution) (refused : Bool) (next : Option Step) → (more : List Step) × ((if refused then run else extended_by run next) ≡ followed_by run more)
if_follows run true next = ([], ap (λ steps. let v : Execution = record { first = run.first; steps = steps } in v) (sym (append-nil run.steps)))
if_follows run false None = ([], ap (λ steps. let v : Execution = record { first = run.first; steps = steps } in v) (sym (append-nil run.steps)))
if_follows run false (Some s) = (s ∷ [], refl)

-- one ask more
pub joined_ask : {D : Type 0} (g : Ghosts D) (first run : Execution) (ask : Ask) (answer : Answer) (before mid now : D)
    → IsCrashSafe g first run before mid → IsCrashSafe g run (after run ask answer) mid now → IsCrashSafe g first (after run ask answer) before now
joined_ask g first run ask answer before mid now so_far one =
    let r = if_follows run (is_refused answer) (step_for ask) in joined g first run (after run ask answer) r.0 before mid now r.1 so_far one
