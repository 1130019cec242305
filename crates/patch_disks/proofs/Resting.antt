-- A call begins no write and ends none, so none is under way behind it, the images of the blocks stay, and a crash may leave what it could.
use Rattle.std.proofs.Common.{◌≡◌, ◌≢◌, ℕ, ◌+◌, ◌∙◌, inl, inr, Bool, true, false, List, [], ◌∷◌, ◌++◌, refl, sym, ap, subst, append_assoc}
use Rattle.std.specs.Prelude.{length, ◌==◌, IsFalse, MatchBool, Option, Some, None, option_to_list, if◌then◌else◌, fold, flat_map}
use Rattle.std.proofs.lemmas.List.{append-nil}
use Rattle.std.proofs.lemmas.Grind.{flat_map-append}
use Rattle.patch_model.specs.Step.{Step, Create, Merge, Send, Complete}
use Rattle.patch_model.specs.Execution.{Execution, extended, followed_by}
use Rattle.patch_model.specs.State.{State, state_of, after_step, after_steps, at_first, has_flight}
use Rattle.patch_model.specs.Legal.{IsLegal, IsLegalStep, AreLegal}
use Rattle.patch_model.specs.Crash.{MayLeave}
use Rattle.patch_model.specs.History.{history_of, image}
use Rattle.patch_model.specs.Progress.{history_after}
use Rattle.patch_cache.specs.Waves.{HoldImages}
use Rattle.patch_recovery.specs.Change.{Change, Data, Point, Fill, Clear, Widen, Made}
use Rattle.patch_plans.specs.Extents.{Extents, extent_at}
use Rattle.patch_plans.specs.Writing.{after_change, merge_behind, merge_with, written, steps_by}
use Rattle.patch_history.specs.Command.{Command, Reply, is_refused, may_be_cut}
use Rattle.patch_history.specs.StoreState.{Standing, plan_of, made_by}
use Rattle.patch_history.specs.History.{History, Event, Call, IsWhole, IsCut, IsRight, AreRight, after_event, steps_in, execution_of, with_event}
use Rattle.patch_store.specs.Running.{with_calls}

-- patches and merges
abbrev pub AreQuiet : List Step → Type 0
AreQuiet [] = Unit {0}
AreQuiet (Create block start bytes after undo ∷ steps) = AreQuiet steps
AreQuiet (Merge a b ∷ steps) = AreQuiet steps
AreQuiet (Send block ∷ steps) = ⊥
AreQuiet (Complete block ∷ steps) = ⊥

quiet_first : (a b : List Step) → AreQuiet (a ++ b) → AreQuiet a
quiet_first [] b q = tt
quiet_first (Create block start bytes after undo ∷ a) b q = quiet_first a b q
quiet_first (Merge x y ∷ a) b q = quiet_first a b q
quiet_first (Send block ∷ a) b q = absurd q
quiet_first (Complete block ∷ a) b q = absurd q

behind_merge : (n : ℕ) (before : Option ℕ) (steps : List Step) → AreQuiet steps → AreQuiet (option_to_list (merge_with n before) ++ steps)
behind_merge n None steps q = q
behind_merge n (Some before) steps q = q

behind_choice : (first : Bool) (n : ℕ) (before : Option ℕ) (steps : List Step) → AreQuiet steps
    → AreQuiet (option_to_list (if first then None else merge_with n before) ++ steps)
behind_choice true n before steps q = q
behind_choice false n before steps q = behind_merge n before steps q

behind_change : (s : Extents) (n : ℕ) (c : Change) (steps : List Step) → AreQuiet steps → AreQuiet (option_to_list (merge_behind s n c) ++ steps)
behind_change s n (Data extent offset bytes) steps q = q
behind_change s n (Point extent generation offset) steps q = behind_choice (offset == 0) n (extent_at s extent).point steps q
behind_change s n (Fill slot fields) steps q = q
behind_change s n (Clear slot) steps q = q
behind_change s n Widen steps q = q

-- the steps of a plan are such
by_plan : (choices : List Bool) (s : Extents) (n : ℕ) (plan : List Made) → AreQuiet (steps_by choices (written s n plan))
by_plan [] s n [] = tt
by_plan (c ∷ choices) s n [] = tt
by_plan [] s n (m ∷ plan) = by_plan [] (after_change s n m.change) (n + 1) plan
by_plan (true ∷ choices) s n (m ∷ plan) = behind_change s n m.change _ (by_plan choices (after_change s n m.change) (n + 1) plan)
by_plan (false ∷ choices) s n (m ∷ plan) = by_plan choices (after_change s n m.change) (n + 1) plan

of_whole : (st : Standing) (plan : List Made) (steps : List Step) → IsWhole st plan steps → AreQuiet steps
of_whole st plan steps whole = subst AreQuiet (sym whole.1) (by_plan whole.0 st.shelf.extents (made_by st) plan)

of_cut : (st : Standing) (plan : List Made) (steps : List Step) → IsCut st plan steps → AreQuiet steps
of_cut st plan steps cut = quiet_first steps cut.0 (of_whole st plan (steps ++ cut.0) cut.2)

of_none : (steps : List Step) → steps ≡ [] → AreQuiet steps
of_none steps none = subst AreQuiet (sym none) tt

of_answer : (refused : Bool) (st : Standing) (plan : List Made) (steps : List Step) → MatchBool refused (steps ≡ []) (IsWhole st plan steps) → AreQuiet steps
of_answer true st plan steps none = of_none steps none
of_answer false st plan steps whole = of_whole st plan steps whole

of_stop : (cut : Bool) (st : Standing) (plan : List Made) (steps : List Step) → MatchBool cut (IsCut st plan steps) (steps ≡ []) → AreQuiet steps
of_stop true st plan steps some = of_cut st plan steps some
of_stop false st plan steps none = of_none steps none

-- and those of a call that is right
of_call : (st : Standing) (writer : ℕ) (command : Command) (reply : Reply) (steps : List Step) → IsRight st (Call writer command reply steps) → AreQuiet steps
of_call st writer command reply steps (inl answered) = of_answer (is_refused reply) st (plan_of st writer command) steps answered.1
of_call st writer command reply steps (inr stopped) = of_stop (may_be_cut command) st (plan_of st writer command) steps stopped.cut

last_right : (st : Standing) (events : List Event) (event : Event) → AreRight st (events ++ event ∷ []) → IsRight (fold after_event st events) event
last_right st [] event right = right.0
last_right st (e ∷ events) event right = last_right (after_event st e) events event right.1

-- the laws of steps
abbrev pub StatesExtend : Type 0
StatesExtend = (run : Execution) (step : Step) → state_of (extended run step) ≡ after_step (state_of run) step

abbrev pub ImagesStay : Type 0
ImagesStay = (run : Execution) (step : Step) (block : ℕ) → step ≢ Send block → image (history_after run step block) ≡ image (history_of run block)

-- no write is under way, and the device has the images
pub record Rests (run : Execution) (contents : List (List ℕ)) : Type 0 where
  pub no_flight : (block : ℕ) → IsFalse (has_flight (state_of run) block)
  pub images : HoldImages run contents

one_step : StatesExtend → ImagesStay → (run : Execution) (step : Step) (contents : List (List ℕ)) → (after_step (state_of run) step).flights ≡ (state_of run).flights
    → ((block : ℕ) → step ≢ Send block) → Rests run contents → Rests (extended run step) contents
one_step extend stay run step contents same other rests =
    let flies : (block : ℕ) → has_flight (state_of (extended run step)) block ≡ has_flight (state_of run) block =
    λ block. ap (λ st. has_flight st block) (extend run step) ∙ ap (λ flights. has_flight (record (state_of run) { flights = flights }) block) same in
    record {
      no_flight = λ block. flies block ∙ rests.no_flight block;
      images = record {
        count = rests.images.count;
        images = λ b known none. rests.images.images b known (rests.no_flight b) ∙ sym (stay run step b (other b));
      };
    }

over_steps : StatesExtend → ImagesStay → (run : Execution) (steps : List Step) (contents : List (List ℕ)) → AreQuiet steps → Rests run contents
    → Rests (followed_by run steps) contents
over_steps extend stay run [] contents q rests = subst (λ all. Rests (record run { steps = all }) contents) (sym (append-nil run.steps)) rests
over_steps extend stay run (Create block start bytes after undo ∷ steps) contents q rests =
    let step = Create block start bytes after undo in
    subst (λ all. Rests (record run { steps = all }) contents) (append_assoc run.steps (step ∷ []) steps)
    (over_steps extend stay (extended run step) steps contents q (one_step extend stay run step contents refl (λ b e. absurd (cc)) rests))
over_steps extend stay run (Merge a b ∷ steps) contents q rests =
    let step = Merge a b in
    subst (λ all. Rests (record run { steps = all }) contents) (append_assoc run.steps (step ∷ []) steps)
    (over_steps extend stay (extended run step) steps contents q (one_step extend stay run step contents refl (λ b e. absurd (cc)) rests))
over_steps extend stay run (Send block ∷ steps) contents q rests = absurd q
over_steps extend stay run (Complete block ∷ steps) contents q rests = absurd q

-- the execution behind a call
pub run_behind : (h : History) (event : Event) → execution_of (with_event h event) ≡ followed_by (execution_of h) (steps_in event)
run_behind h event =
    ap (λ all. record (execution_of h) { steps = all })
    (flat_map-append steps_in h.events (event ∷ []) ∙ ap (λ all. flat_map steps_in h.events ++ all) (append-nil (steps_in event)))

-- and behind several
pub run_behind_calls : (h : History) (calls : List Event) → execution_of (with_calls h calls) ≡ followed_by (execution_of h) (flat_map steps_in calls)
run_behind_calls h calls = ap (λ all. record (execution_of h) { steps = all }) (flat_map-append steps_in h.events calls)

pub rests_behind : StatesExtend → ImagesStay → (h : History) (writer : ℕ) (command : Command) (reply : Reply) (steps : List Step) (contents : List (List ℕ))
    → (st : Standing) → AreRight st (h.events ++ Call writer command reply steps ∷ []) → Rests (execution_of h) contents
    → Rests (execution_of (with_event h (Call writer command reply steps))) contents
rests_behind extend stay h writer command reply steps contents st right rests =
    let quiet = of_call (fold after_event st h.events) writer command reply steps (last_right st h.events (Call writer command reply steps) right) in
    subst (λ run. Rests run contents) (sym (run_behind h (Call writer command reply steps))) (over_steps extend stay (execution_of h) steps contents quiet rests)

-- What a crash may leave.

abbrev pub DisksStay : Type 0
DisksStay = (run : Execution) (step : Step) (disk : List (List ℕ)) → IsLegal run → IsLegalStep (length run.first) (state_of run) step
    → ((block : ℕ) → step ≢ Complete block) → MayLeave run disk → MayLeave (extended run step) disk

-- the first steps of a legal execution are legal, and so is each step behind them
legal_first : (blocks : ℕ) (st : State) (steps more : List Step) → AreLegal blocks st (steps ++ more) → AreLegal blocks st steps
legal_first blocks st [] more legal = tt
legal_first blocks st (s ∷ steps) more legal = (legal.0, legal_first blocks (after_step st s) steps more legal.1)

legal_at : (blocks : ℕ) (st : State) (steps : List Step) (step : Step) (more : List Step) → AreLegal blocks st (steps ++ step ∷ more)
    → IsLegalStep blocks (after_steps st steps) step
legal_at blocks st [] step more legal = legal.0
legal_at blocks st (s ∷ steps) step more legal = legal_at blocks (after_step st s) steps step more legal.1

legal_before : (run : Execution) (more : List Step) → IsLegal (followed_by run more) → IsLegal run
legal_before run more legal =
    record { some = legal.some; few = legal.few; blocks = legal.blocks; steps = legal_first (length run.first) at_first run.steps more legal.steps }

one_disk : DisksStay → (run : Execution) (step : Step) (more : List Step) (disk : List (List ℕ)) → ((block : ℕ) → step ≢ Complete block)
    → IsLegal (followed_by run (step ∷ more)) → MayLeave run disk → MayLeave (extended run step) disk
one_disk stay run step more disk other legal may =
    stay run step disk (legal_before run (step ∷ more) legal) (legal_at (length run.first) at_first run.steps step more legal.steps) other may

legal_on : (run : Execution) (step : Step) (more : List Step) → IsLegal (followed_by run (step ∷ more)) → IsLegal (followed_by (extended run step) more)
legal_on run step more legal = subst (λ all. IsLegal (record run { steps = all })) (sym (append_assoc run.steps (step ∷ []) more)) legal

disks_over : DisksStay → (run : Execution) (steps : List Step) (disk : List (List ℕ)) → AreQuiet steps → IsLegal (followed_by run steps) → MayLeave run disk
    → MayLeave (followed_by run steps) disk
disks_over stay run [] disk q legal may = subst (λ all. MayLeave (record run { steps = all }) disk) (sym (append-nil run.steps)) may
disks_over stay run (Create block start bytes after undo ∷ steps) disk q legal may =
    let step = Create block start bytes after undo in
    subst (λ all. MayLeave (record run { steps = all }) disk) (append_assoc run.steps (step ∷ []) steps)
    (disks_over stay (extended run step) steps disk q (legal_on run step steps legal) (one_disk stay run step steps disk (λ b e. absurd (cc)) legal may))
disks_over stay run (Merge a b ∷ steps) disk q legal may =
    let step = Merge a b in
    subst (λ all. MayLeave (record run { steps = all }) disk) (append_assoc run.steps (step ∷ []) steps)
    (disks_over stay (extended run step) steps disk q (legal_on run step steps legal) (one_disk stay run step steps disk (λ b e. absurd (cc)) legal may))
disks_over stay run (Send block ∷ steps) disk q legal may = absurd q
disks_over stay run (Complete block ∷ steps) disk q legal may = absurd q

pub disks_behind : DisksStay → (h : History) (writer : ℕ) (command : Command) (reply : Reply) (steps : List Step) (disk : List (List ℕ))
    → (st : Standing) → AreRight st (h.events ++ Call writer command reply steps ∷ []) → IsLegal (execution_of (with_event h (Call writer command reply steps)))
    → MayLeave (execution_of h) disk → MayLeave (execution_of (with_event h (Call writer command reply steps))) disk
disks_behind stay h writer command reply steps disk st right legal may =
    let event = Call writer command reply steps in
    let quiet = of_call (fold after_event st h.events) writer command reply steps (last_right st h.events event right) in
    let is = run_behind h event in
    subst (λ run. MayLeave run disk) (sym is) (disks_over stay (execution_of h) steps disk quiet (subst IsLegal is legal) may)
