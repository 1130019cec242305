-- The groups of a standing are those of its execution: each event keeps them so.
use Rattle.std.proofs.Common.{◌≡◌, ℕ, ◌+◌, ◌≤◌, ◌∙◌, inl, inr, Bool, true, false, List, [], ◌∷◌, ◌++◌, length}
use Rattle.std.proofs.Common.{Option, Some, None, refl, sym, ap, arith, subst}
use Rattle.std.specs.Prelude.{◌==◌, option_to_list, fold, take, unwrap_or}
use Rattle.std.proofs.lemmas.Bool.{cases_Bool}
use Rattle.std.proofs.lemmas.List.{append_assoc, append-nil, length-map, length_push, length-take}
use Rattle.patch_model.specs.Step.{Step, Create, Merge, Send, Complete}
use Rattle.patch_model.specs.Execution.{Execution, extended, followed_by}
use Rattle.patch_model.specs.State.{state_of, entries_of, after_step}
use Rattle.patch_model.specs.declared.patches.Undo.TheVariants.{MayDrop}
use Rattle.patch_recovery.specs.Change.{Change, Data, Point, Fill, Clear, Widen, Made, step_of, block_of, start_of, bytes_of}
use Rattle.patch_recovery.specs.Store.{makes_nothing}
use Rattle.patch_plans.specs.Groups.{Groups, named, with_patch, why_not_engaged, why_not_ordered}
use Rattle.patch_plans.specs.Order.{AreGroupsOf, NoneAreOfAny, StepsKeep, PatchesKeep, CallsKeep}
use Rattle.patch_plans.specs.Extents.{Extents, extent_at}
use Rattle.patch_plans.specs.Writing.{after_change, with_patches, named_plan, merge_behind, merge_with, written, steps_by}
use Rattle.patch_history.specs.Command.{Command, Reply, Put, Get, Delete, Reclaim, Upgrade, Group, Engage, Disengage, Depend}
use Rattle.patch_history.specs.Command.{CloseGroup, Pending, Done, is_refused, may_be_cut}
use Rattle.patch_history.specs.StoreState.{Standing, at_opening, made_by, maker_of, plan_for, plan_of, creates, onto, after_call, groups_after}
use Rattle.patch_history.specs.Refusing.{reply_of}
use Rattle.patch_history.specs.History.{Event, Call, Moved, IsRight, AreRight, IsWhole, is_write}
use Rattle.patch_history.specs.History.{after_event, standing_of}
use Rattle.patch_history.specs.Laws.{GroupsAreKept}
use Rattle.patch_history.proofs.Extending.{standings_run}
use Rattle.patch_history.proofs.Going.{onto_length}
use Rattle.patch_history.proofs.Judged.{no_cause}
use Rattle.patch_history.proofs.Stepping.{length-named_plan}

-- what patch_model says of one step more
abbrev pub StateLaw : Type 0
StateLaw = (run : Execution) (step : Step) → state_of (extended run step) ≡ after_step (state_of run) step

-- How many patches there are then.

count_made : StateLaw → (run : Execution) (block start : ℕ) (bytes after : List ℕ)
    → length (entries_of (extended run (Create block start bytes after MayDrop))) ≡ length (entries_of run) + 1
count_made law run block start bytes after =
    ap (λ st. length st.entries) (law run (Create block start bytes after MayDrop)) ∙ length_push (entries_of run) _

count_same : StateLaw → (run : Execution) (step : Step) → makes_nothing step ≡ true
    → length (entries_of (extended run step)) ≡ length (entries_of run)
count_same law run (Create block start bytes after undo) nothing = absurd (let g : false ≡ true = nothing in cc)
count_same law run (Merge a b) nothing = ap (λ st. length st.entries) (law run (Merge a b)) ∙ length-map (entries_of run) _
count_same law run (Send block) nothing = ap (λ st. length st.entries) (law run (Send block)) ∙ length-map (entries_of run) _
count_same law run (Complete block) nothing =
    ap (λ st. length st.entries) (law run (Complete block)) ∙ length-map (entries_of run) _

-- a merge behind a patch makes none
abbrev IsMerge : Option Step → Type 0
IsMerge None = Unit {0}
IsMerge (Some (Merge a b)) = Unit {0}
IsMerge (Some (Create block start bytes after undo)) = ⊥
IsMerge (Some (Send block)) = ⊥
IsMerge (Some (Complete block)) = ⊥

with_merge : (n : ℕ) (o : Option ℕ) → IsMerge (merge_with n o)
with_merge n None = tt
with_merge n (Some before) = tt

behind_merge : (s : Extents) (n : ℕ) (c : Change) → IsMerge (merge_behind s n c)
behind_merge s n (Data extent offset bytes) = tt
behind_merge s n (Point extent generation offset) =
    elim (cases_Bool (offset == 0)) [ inl u ↦ rw u tt | inr u ↦ rw u (with_merge n (extent_at s extent).point) ]
behind_merge s n (Fill slot fields) = tt
behind_merge s n (Clear slot) = tt
behind_merge s n Widen = tt

-- some first steps of a plan: these groups are the execution's, and so many patches were made
record KeptPlan (run : Execution) (steps : List Step) (gs : Groups) (w : Option ℕ) (n : ℕ) (plan : List Made) : Type 0 where
  groups : AreGroupsOf (followed_by run steps) (with_patches gs w n (creates steps))
  count : length (entries_of (followed_by run steps)) ≡ n + creates steps
  few : creates steps ≤ length plan

-- where groups are the execution's, and n patches were made
record Stands (run : Execution) (gs : Groups) (n : ℕ) : Type 0 where
  groups : AreGroupsOf run gs
  count : length (entries_of run) ≡ n

followed_none : (run : Execution) → run ≡ followed_by run []
followed_none run = ap (λ steps. record run { steps = steps }) (sym (append-nil run.steps))

followed_first : (run : Execution) (step : Step) (steps : List Step) → followed_by (extended run step) steps ≡ followed_by run (step ∷ steps)
followed_first run step steps = ap (λ all. record run { steps = all }) (append_assoc run.steps (step ∷ []) steps)

kept_none : (run : Execution) (gs : Groups) (w : Option ℕ) (n : ℕ) (plan : List Made) → Stands run gs n → KeptPlan run [] gs w n plan
kept_none run gs w n plan stands = record {
  groups = subst (λ r. AreGroupsOf r gs) (followed_none run) stands.groups;
  count = ap (λ r. length (entries_of r)) (sym (followed_none run)) ∙ stands.count ∙ omega arith;
  few = omega arith;
}

-- the plan goes on behind a patch
abbrev GoesOn : (rest tail : List Step) → Groups → Option ℕ → ℕ → List Made → Type 0
GoesOn rest tail gs w n plan =
    (run : Execution) (steps : List Step) → Stands run gs n → steps ++ rest ≡ tail → KeptPlan run steps gs w n plan

-- and behind its merge, if it has one
past_merge : StateLaw → StepsKeep → (o : Option Step) (rest tail : List Step) (gs : Groups) (w : Option ℕ) (n : ℕ) (plan : List Made) → IsMerge o → GoesOn rest tail gs w n plan
    → GoesOn rest (option_to_list o ++ tail) gs w n plan
past_merge law keep None rest tail gs w n plan is go run steps stands all = go run steps stands all
past_merge law keep (Some (Create block start bytes after undo)) rest tail gs w n plan is go run steps stands all = absurd is
past_merge law keep (Some (Send block)) rest tail gs w n plan is go run steps stands all = absurd is
past_merge law keep (Some (Complete block)) rest tail gs w n plan is go run steps stands all = absurd is
past_merge law keep (Some (Merge a b)) rest tail gs w n plan is go run [] stands all = kept_none run gs w n plan stands
past_merge law keep (Some (Merge a b)) rest tail gs w n plan is go run (x ∷ steps) stands all =
    let first : x ≡ Merge a b = cc in
    let more : steps ++ rest ≡ tail = cc in
    let kept = go (extended run (Merge a b)) steps (record {
      groups = keep run gs (Merge a b) stands.groups;
      count = count_same law run (Merge a b) refl ∙ stands.count;
    }) more in
    subst (λ s. KeptPlan run (s ∷ steps) gs w n plan) (sym first) (record {
      groups = subst (λ r. AreGroupsOf r (with_patches gs w n (creates steps))) (followed_first run (Merge a b) steps) kept.groups;
      count = ap (λ r. length (entries_of r)) (sym (followed_first run (Merge a b) steps)) ∙ kept.count;
      few = kept.few;
    })

module _ (law : StateLaw) (keep : StepsKeep) (patches : PatchesKeep) where
  one_more : (run : Execution) (s : Extents) (gs : Groups) (w : Option ℕ) (n : ℕ) (m : Made) → Stands run gs n
      → Stands (extended run (step_of s.geometry (record m { after = named gs w m.after }))) (with_patch gs w n) (n + 1)
  one_more run s gs w n m stands = record {
    groups = subst (λ k. AreGroupsOf (extended run (step_of s.geometry (record m { after = named gs w m.after }))) (with_patch gs w k)) stands.count
        (patches run gs w (block_of s.geometry m.change) (start_of m.change) (bytes_of s.geometry m.change) m.after MayDrop stands.groups);
    count = count_made law run _ _ _ _ ∙ ap (λ k. k + 1) stands.count;
  }

  -- the first patch, and what follows it
  patch_first : (run : Execution) (s : Extents) (gs : Groups) (w : Option ℕ) (n : ℕ) (m : Made) (plan : List Made) (rest tail steps : List Step) → Stands run gs n
      → GoesOn rest tail (with_patch gs w n) w (n + 1) plan
      → steps ++ rest ≡ step_of s.geometry (record m { after = named gs w m.after }) ∷ tail → KeptPlan run steps gs w n (m ∷ plan)
  patch_first run s gs w n m plan rest tail [] stands go all = kept_none run gs w n (m ∷ plan) stands
  patch_first run s gs w n m plan rest tail (x ∷ steps) stands go all =
      let create = step_of s.geometry (record m { after = named gs w m.after }) in
      let first : x ≡ step_of s.geometry (record m { after = named gs w m.after }) = cc in
      let more : steps ++ rest ≡ tail = cc in
      let kept = go (extended run create) steps (one_more run s gs w n m stands) more in
      let count = kept.count in
      let few = kept.few in
      subst (λ y. KeptPlan run (y ∷ steps) gs w n (m ∷ plan)) (sym first) (record {
        groups = subst (λ r. AreGroupsOf r (with_patches (with_patch gs w n) w (n + 1) (creates steps))) (followed_first run create steps) kept.groups;
        count = ap (λ r. length (entries_of r)) (sym (followed_first run create steps)) ∙ kept.count ∙ omega arith;
        few = omega (arith, few);
      })

  plan_kept : (choices : List Bool) (s : Extents) (gs : Groups) (w : Option ℕ) (n : ℕ) (plan : List Made) (rest : List Step)
      → GoesOn rest (steps_by choices (written s n (named_plan gs w n plan))) gs w n plan
  plan_kept choices s gs w n [] rest run [] stands all = kept_none run gs w n [] stands
  plan_kept choices s gs w n [] rest run (x ∷ steps) stands all = absurd (let g : x ∷ (steps ++ rest) ≡ [] = all in cc)
  plan_kept [] s gs w n (m ∷ plan) rest run steps stands all =
      patch_first run s gs w n m plan rest _ steps stands (plan_kept [] (after_change s n m.change) (with_patch gs w n) w (n + 1) plan rest) all
  plan_kept (false ∷ choices) s gs w n (m ∷ plan) rest run steps stands all =
      patch_first run s gs w n m plan rest _ steps stands (plan_kept choices (after_change s n m.change) (with_patch gs w n) w (n + 1) plan rest) all
  plan_kept (true ∷ choices) s gs w n (m ∷ plan) rest run steps stands all =
      patch_first run s gs w n m plan rest _ steps stands
      (past_merge law keep (merge_behind s n m.change) rest _ (with_patch gs w n) w (n + 1) plan (behind_merge s n m.change)
      (plan_kept choices (after_change s n m.change) (with_patch gs w n) w (n + 1) plan rest)) all

-- Events.

-- the groups of a standing are the execution's, and its changes as many as the patches
abbrev AreKept : Standing → Type 0
AreKept st = Stands st.run st.groups (made_by st)

count_after : (st : Standing) (writer : ℕ) (command : Command) (steps : List Step)
    → creates steps ≤ length (unwrap_or (plan_for st command) [])
    → length (onto (take (creates steps) (plan_of st writer command)) st.made) ≡ made_by st + creates steps
count_after st writer command steps few =
    let long = length-named_plan st.groups (maker_of writer command) (made_by st) (unwrap_or (plan_for st command) []) in
    let taken = length-take (creates steps) (plan_of st writer command) in
    let all = onto_length (take (creates steps) (plan_of st writer command)) st.made in
    omega (arith, long, taken, all, few)

-- some first steps of the command's plan were made
abbrev AreFirst : Standing → ℕ → Command → List Step → Type 0
AreFirst st writer command steps =
    (choices : List Bool) × (rest : List Step) × (steps ++ rest ≡ steps_by choices (written st.shelf.extents (made_by st) (plan_of st writer command)))

abbrev joined : Standing → ℕ → Command → List Step → Groups
joined st writer command steps = with_patches st.groups (maker_of writer command) (made_by st) (creates steps)

module _ (law : StateLaw) (keep : StepsKeep) (patches : PatchesKeep) (calls : CallsKeep) where
  joined_kept : (st : Standing) (writer : ℕ) (command : Command) (reply : Reply) (steps : List Step) → AreKept st → AreFirst st writer command steps
      → Stands (followed_by st.run steps) (joined st writer command steps) (made_by (after_call st writer command reply steps))
  joined_kept st writer command reply steps stands all =
      let kept = plan_kept law keep patches all.0 st.shelf.extents st.groups (maker_of writer command) (made_by st) (unwrap_or (plan_for st command) []) all.1 st.run steps stands all.2 in
      record { groups = kept.groups; count = kept.count ∙ sym (count_after st writer command steps kept.few) }

  refused_kept : (st : Standing) (writer : ℕ) (command : Command) (reply : Reply) (steps : List Step) → AreKept st → is_refused reply ≡ true → AreFirst st writer command steps
      → AreKept (after_call st writer command reply steps)
  refused_kept st writer command reply steps stands lost all = let kept = joined_kept st writer command reply steps stands all in
      record { groups = rw lost kept.groups; count = kept.count }

  -- a command without patches has no steps
  no_steps : (st : Standing) (writer : ℕ) (command : Command) (steps : List Step) → steps ≡ [] → AreFirst st writer command steps
  no_steps st writer command steps none =
      ([], steps_by [] (written st.shelf.extents (made_by st) (plan_of st writer command)), ap (λ s. s ++ steps_by [] (written st.shelf.extents (made_by st) (plan_of st writer command))) none)

  done_kept : (st : Standing) (writer : ℕ) (command : Command) (reply : Reply) (steps : List Step) → AreKept st → is_refused reply ≡ false → AreFirst st writer command steps
      → (AreGroupsOf (followed_by st.run steps) (joined st writer command steps) → AreGroupsOf (followed_by st.run steps) (groups_after (joined st writer command steps) writer command))
      → AreKept (after_call st writer command reply steps)
  done_kept st writer command reply steps stands fine all call = let kept = joined_kept st writer command reply steps stands all in
      record { groups = rw fine (call kept.groups); count = kept.count }

  -- what each call makes of the groups
  call_kept : (st : Standing) (writer : ℕ) (command : Command) (steps : List Step) (run : Execution) → is_refused (reply_of st writer command) ≡ false → IsWhole st (plan_of st writer command) steps
      → AreGroupsOf run (joined st writer command steps) → AreGroupsOf run (groups_after (joined st writer command steps) writer command)
  call_kept st writer (Put key value) steps run fine whole are = are
  call_kept st writer (Get key) steps run fine whole are = are
  call_kept st writer (Delete key) steps run fine whole are = are
  call_kept st writer (Reclaim extent) steps run fine whole are = are
  call_kept st writer Upgrade steps run fine whole are = are
  call_kept st writer (Pending group) steps run fine whole are = are
  call_kept st writer Group steps run fine whole are = calls.begun run _ are
  call_kept st writer (Engage group) steps run fine whole are =
      calls.engaged run _ writer group are (ap (λ s. why_not_engaged (joined st writer (Engage group) s) writer group) whole.1 ∙ no_cause _ Done fine)
  call_kept st writer (Disengage group) steps run fine whole are = calls.disengaged run _ writer group are
  call_kept st writer (Depend group on) steps run fine whole are =
      calls.ordered run _ group on are (ap (λ s. why_not_ordered (joined st writer (Depend group on) s) group on) whole.1 ∙ no_cause _ Done fine)
  call_kept st writer (CloseGroup group) steps run fine whole are = calls.closed run _ group are

  write_kept : (step : Step) → is_write step ≡ true → makes_nothing step ≡ true
  write_kept (Create block start bytes after undo) h = h
  write_kept (Merge a b) h = refl
  write_kept (Send block) h = refl
  write_kept (Complete block) h = refl

  event_kept : (st : Standing) (event : Event) → AreKept st → IsRight st event → AreKept (after_event st event)
  event_kept st (Call writer command reply steps) stands (inl answered) = elim (cases_Bool (is_refused reply)) [
    | inl u ↦ (let made = answered.1 in refused_kept st writer command reply steps stands u (no_steps st writer command steps (rw u at made)))
    | inr u ↦ (
        let made = answered.1 in
        let whole : IsWhole st (plan_of st writer command) steps = rw u at made in
        done_kept st writer command reply steps stands u (whole.0, [], append-nil steps ∙ whole.1)
        (call_kept st writer command steps (followed_by st.run steps) (ap is_refused (sym answered.0) ∙ u) whole))
  ]
  event_kept st (Call writer command reply steps) stands (inr lacked) = elim (cases_Bool (may_be_cut command)) [
    | inl u ↦ (
        let cut = lacked.cut in
        let some = rw u at cut in
        refused_kept st writer command reply steps stands (ap is_refused lacked.reply_is) (some.2.0, some.0, some.2.1))
    | inr u ↦ (
        let cut = lacked.cut in
        refused_kept st writer command reply steps stands (ap is_refused lacked.reply_is) (no_steps st writer command steps (rw u at cut)))
  ]
  event_kept st (Moved step) stands right = record {
    groups = keep st.run st.groups step stands.groups;
    count = count_same law st.run step (write_kept step right) ∙ stands.count;
  }

  events_kept : (st : Standing) (events : List Event) → AreKept st → AreRight st events → AreKept (fold after_event st events)
  events_kept st [] stands right = stands
  events_kept st (event ∷ events) stands right = events_kept (after_event st event) events (event_kept st event stands right.0) right.1

pub groups_are_kept : StateLaw → NoneAreOfAny → StepsKeep → PatchesKeep → CallsKeep → GroupsAreKept
groups_are_kept law none keep patches calls h l =
    subst (λ run. AreGroupsOf run (standing_of h).groups) (standings_run h)
    (events_kept law keep patches calls (at_opening h.opening h.first) h.events
    (record { groups = none _; count = refl }) l.right).groups
