-- Legal histories of one execution have left out as many merges: what was counted is what their steps tell.
use Rattle.std.proofs.Common.{◌≡◌, ℕ, ◌+◌, ◌∙◌, Bool, true, false, inl, inr, Result, Ok, List, [], ◌∷◌, ◌++◌, length, map, take, append-nil, refl, sym, ap, subst}
use Rattle.std.specs.Prelude.{fold, flat_map}
use Rattle.std.proofs.lemmas.Bool.{cases_Bool}
use Rattle.patch_model.specs.Step.{Step, Create, Merge, Send, Complete}
use Rattle.patch_model.specs.Execution.{followed_by}
use Rattle.patch_extent.specs.Merging.{is_made}
use Rattle.patch_cache.specs.Meaning.{IsCacheOf}
use Rattle.patch_plans.specs.Joining.{written-++}
use Rattle.patch_plans.specs.Writing.{Written, after_plan, written, steps_by}
use Rattle.patch_recovery.specs.Change.{Made}
use Rattle.patch_recovery.specs.Ledger.{Ledger}
use Rattle.patch_recovery.specs.Reading.{reading, Fault}
use Rattle.patch_history.specs.Command.{Command, Reply, is_refused, may_be_cut}
use Rattle.patch_history.specs.Shelf.{opened}
use Rattle.patch_history.specs.StoreState.{Standing, at_opening, made_by, plan_of, creates, onto}
use Rattle.patch_history.specs.History.{History, Event, Call, Moved, IsLegalHistory, IsWhole, IsCut, is_write, after_event, steps_in, steps_of, execution_of, standing_of}
use Rattle.patch_history.specs.History as histories
use Rattle.patch_history.specs.Single.{ChangesAreSingle, ShelvesAreSingle}
use Rattle.patch_history.specs.Steps.{ShelvesGoOn}
use Rattle.patch_store.specs.Laws.{CountsAreSingle, StoresAreOfSteps}
use Rattle.patch_store.specs.Merging.{counted_with, AreCounted}
use Rattle.patch_store.proofs.Counted.{onto_length}
use Rattle.patch_store.proofs.Outcomes.{outcomes_made, take_written}
use Rattle.patch_store.proofs.Told.{begins_merged, AreTold, IsToldApart, plan_begins, some_begin, first_begin, call_tells, told_apart}

-- The steps of a call that is right are first ones of its plan's, and perhaps all.

abbrev Begin : List Written → List Step → Type 0
Begin ws steps = (choices : List Bool) × (rest : List Step) × (steps ++ rest ≡ steps_by choices ws)

none_begin : (ws : List Written) (steps : List Step) → steps ≡ [] → Begin ws steps
none_begin ws steps none = ([], steps_by [] ws, ap (λ xs. xs ++ steps_by [] ws) none)

abbrev written_by : Standing → ℕ → Command → List Written
written_by st writer command = written st.shelf.extents (made_by st) (plan_of st writer command)

call_begins : (st : Standing) (writer : ℕ) (command : Command) (reply : Reply) (steps : List Step)
    → histories.IsRight st (Call writer command reply steps) → Begin (written_by st writer command) steps
call_begins st writer command reply steps (inl answered) = elim (cases_Bool (is_refused reply)) [
  | inl u ↦ (let made = answered.1 in none_begin (written_by st writer command) steps (rw u at made))
  | inr u ↦ (
      let made = answered.1 in
      let whole : IsWhole st (plan_of st writer command) steps = rw u at made in
      (whole.0, [], append-nil steps ∙ whole.1))
]
call_begins st writer command reply steps (inr lacked) = elim (cases_Bool (may_be_cut command)) [
  | inl u ↦ (
      let cut = lacked.cut in
      let some : IsCut st (plan_of st writer command) steps = rw u at cut in
      (some.2.0, some.0, some.2.1))
  | inr u ↦ (let cut = lacked.cut in none_begin (written_by st writer command) steps (rw u at cut))
]

-- So no event begins with a merge: each stands in the call of its patch.

write_plain : (step : Step) → is_write step ≡ true → begins_merged (step ∷ []) ≡ false
write_plain (Create block start bytes after undo) writes = refl
write_plain (Merge a b) writes = let g : false ≡ true = writes in absurd (cc)
write_plain (Send block) writes = refl
write_plain (Complete block) writes = refl

call_plain : (st : Standing) (writer : ℕ) (command : Command) (steps : List Step) → Begin (written_by st writer command) steps → begins_merged steps ≡ false
call_plain st writer command steps begin =
    first_begin steps begin.1 (ap begins_merged begin.2
    ∙ plan_begins begin.0 st.shelf.extents (made_by st) (plan_of st writer command))

events_plain : (st : Standing) (events : List Event) → histories.AreRight st events → begins_merged (flat_map steps_in events) ≡ false
events_plain st [] right = refl
events_plain st (Call writer command reply steps ∷ events) right =
    some_begin steps (flat_map steps_in events) (call_plain st writer command steps (call_begins st writer command reply steps right.0))
    (events_plain (after_event st (Call writer command reply steps)) events right.1)
events_plain st (Moved step ∷ events) right =
    some_begin (step ∷ []) (flat_map steps_in events) (write_plain step right.0) (events_plain (after_event st (Moved step)) events right.1)

-- The changes of some events, the oldest first.

abbrev made_in : Standing → Event → List Made
made_in st (Call writer command reply steps) = take (creates steps) (plan_of st writer command)
made_in st (Moved step) = []

abbrev changes_of : Standing → List Event → List Made
changes_of st [] = []
changes_of st (event ∷ events) = made_in st event ++ changes_of (after_event st event) events

onto-++ : (p q made : List Made) → onto (p ++ q) made ≡ onto q (onto p made)
onto-++ [] q made = refl
onto-++ (m ∷ p) q made = onto-++ p q (m ∷ made)

onto_onto : (plan made later : List Made) → onto (onto plan made) later ≡ onto made (plan ++ later)
onto_onto [] made later = refl
onto_onto (m ∷ plan) made later = onto_onto plan (m ∷ made) later

event_made : (st : Standing) (event : Event) → (after_event st event).made ≡ onto (made_in st event) st.made
event_made st (Call writer command reply steps) = refl
event_made st (Moved step) = refl

events_made : (st : Standing) (events : List Event) → (fold after_event st events).made ≡ onto (changes_of st events) st.made
events_made st [] = refl
events_made st (event ∷ events) =
    events_made (after_event st event) events ∙ ap (onto (changes_of (after_event st event) events)) (event_made st event)
    ∙ sym (onto-++ (made_in st event) (changes_of (after_event st event) events) st.made)

module _ (go : ShelvesGoOn) where
  -- the changes of a call, and those behind it, as they are written
  call_written : (st : Standing) (writer : ℕ) (command : Command) (reply : Reply) (steps : List Step) (more : List Made)
      → written st.shelf.extents (made_by st) (take (creates steps) (plan_of st writer command) ++ more)
      ≡ take (creates steps) (written_by st writer command)
      ++ written (after_event st (Call writer command reply steps)).shelf.extents (made_by (after_event st (Call writer command reply steps))) more
  call_written st writer command reply steps more =
      let s = st.shelf.extents in
      let n = made_by st in
      let first = take (creates steps) (plan_of st writer command) in
      let later = after_event st (Call writer command reply steps) in
      let extents : later.shelf.extents ≡ after_plan s n first = go st.shelf n first in
      let count : made_by later ≡ n + length first = onto_length first st.made in
      written-++ s n first more
      ∙ ap (λ ws. ws ++ written (after_plan s n first) (n + length first) more) (sym (take_written (creates steps) s n (plan_of st writer command)))
      ∙ ap (λ t. take (creates steps) (written_by st writer command) ++ written t (n + length first) more) (sym extents)
      ∙ ap (λ k. take (creates steps) (written_by st writer command) ++ written later.shelf.extents k more) (sym count)

  -- What was counted of some events is what their steps tell.

  told : (st : Standing) (events : List Event) (before after : ℕ) → histories.AreRight st events → AreCounted st events before after
      → AreTold st.run (flat_map steps_in events) (written st.shelf.extents (made_by st) (changes_of st events)) before after
  told st [] before after right counted = counted
  told st (Call writer command reply steps ∷ events) before after right counted =
      let s = st.shelf.extents in
      let n = made_by st in
      let plan = plan_of st writer command in
      let later = after_event st (Call writer command reply steps) in
      let rest = flat_map steps_in events in
      let merged = counted.1 in
      let os = merged.outcomes in
      let vs = written later.shelf.extents (made_by later) (changes_of later events) in
      let count : length os ≡ creates steps = outcomes_made st.run s n plan steps before counted.0 merged in
      let behind : AreTold (followed_by st.run steps) rest vs counted.0 after = told later events counted.0 after right.1 counted.2 in
      let between = fold counted_with before os in
      let here : AreTold (followed_by st.run (steps_by (map is_made os) (take (length os) (written s n plan)))) rest vs between after =
      subst (λ xs. AreTold (followed_by st.run xs) rest vs between after) merged.steps_are
      (subst (λ c. AreTold (followed_by st.run steps) rest vs c after) merged.counted behind) in
      let all = call_tells os st.run s n plan rest vs before after merged.right (events_plain later events right.1) here in
      subst (λ ws. AreTold st.run (steps ++ rest) ws before after) (sym (call_written st writer command reply steps (changes_of later events)))
      (subst (λ k. AreTold st.run (steps ++ rest) (take k (written s n plan) ++ vs) before after) count
      (subst (λ xs. AreTold st.run (xs ++ rest) (take (length os) (written s n plan) ++ vs) before after) (sym merged.steps_are) all))
  told st (Moved (Create block start bytes names undo) ∷ events) before after right counted = absurd (let g : false ≡ true = right.0 in cc)
  told st (Moved (Merge a b) ∷ events) before after right counted = absurd (let g : false ≡ true = right.0 in cc)
  told st (Moved (Send block) ∷ events) before after right counted =
      told (after_event st (Moved (Send block))) events before after right.1
      (subst (λ c. AreCounted (after_event st (Moved (Send block))) events c after) counted.1 counted.2)
  told st (Moved (Complete block) ∷ events) before after right counted =
      told (after_event st (Moved (Complete block))) events before after right.1
      (subst (λ c. AreCounted (after_event st (Moved (Complete block))) events c after) counted.1 counted.2)

  counted : (st : Standing) (events : List Event) (before after : ℕ) → histories.AreRight st events
      → AreTold st.run (flat_map steps_in events) (written st.shelf.extents (made_by st) (changes_of st events)) before after
      → AreCounted st events before after
  counted st [] before after right tells = tells
  counted st (Call writer command reply steps ∷ events) before after right tells =
      let s = st.shelf.extents in
      let n = made_by st in
      let plan = plan_of st writer command in
      let later = after_event st (Call writer command reply steps) in
      let rest = flat_map steps_in events in
      let vs = written later.shelf.extents (made_by later) (changes_of later events) in
      let begin = call_begins st writer command reply steps right.0 in
      let here : AreTold st.run (steps ++ rest) (take (creates steps) (written s n plan) ++ vs) before after =
      subst (λ ws. AreTold st.run (steps ++ rest) ws before after) (call_written st writer command reply steps (changes_of later events)) tells in
      let apart : IsToldApart st.run (written s n plan) steps rest vs before after =
      told_apart rest vs after (events_plain later events right.1) plan begin.0 st.run s n steps begin.1 before begin.2 here in
      (apart.0, apart.1, counted later events apart.0 after right.1 apart.2)
  counted st (Moved (Create block start bytes names undo) ∷ events) before after right tells = absurd (let g : false ≡ true = right.0 in cc)
  counted st (Moved (Merge a b) ∷ events) before after right tells = absurd (let g : false ≡ true = right.0 in cc)
  counted st (Moved (Send block) ∷ events) before after right tells =
      (before, refl, counted (after_event st (Moved (Send block))) events before after right.1 tells)
  counted st (Moved (Complete block) ∷ events) before after right tells =
      (before, refl, counted (after_event st (Moved (Complete block))) events before after right.1 tells)

  -- Histories of one execution.

  one_ledger : (read : Result Ledger Fault) (l k : Ledger) → read ≡ Ok l → read ≡ Ok k → l ≡ k
  one_ledger read l k a b = let same : Ok l ≡ Ok k = sym a ∙ b in cc

  -- all changes of a history, the oldest first
  abbrev all_changes : History → List Made
  all_changes h = changes_of (at_opening h.opening h.first) h.events

  all_made : (h : History) → onto (standing_of h).made [] ≡ all_changes h
  all_made h =
      ap (λ made. onto made []) (events_made (at_opening h.opening h.first) h.events)
      ∙ onto_onto (all_changes h) [] [] ∙ append-nil (all_changes h)

  abbrev all_written : History → List Written
  all_written h = written (opened h.first).extents 0 (all_changes h)

  pub counts_are_single : ChangesAreSingle → CountsAreSingle
  counts_are_single single h other count l k same leaves =
      let none : List Made = [] in
      let first : h.first ≡ other.first = one_ledger (reading h.opening) h.first other.first l.reads (ap (λ r. reading r.first) same ∙ k.reads) in
      let changes : all_changes h ≡ all_changes other = sym (all_made h) ∙ ap (λ made. onto made []) (single h other l k same) ∙ all_made other in
      let ws : all_written h ≡ all_written other =
      ap (λ f. written (opened f).extents 0 (all_changes h)) first ∙ ap (written (opened other.first).extents 0) changes in
      let tells : AreTold (record { first = h.opening; steps = [] }) (steps_of h) (all_written h) 0 count =
      told (at_opening h.opening h.first) h.events 0 count l.right leaves in
      counted (at_opening other.opening other.first) other.events 0 count k.right
      (subst (λ run. AreTold (record { first = run.first; steps = [] }) run.steps (all_written other) 0 count) same
      (subst (λ vs. AreTold (record { first = h.opening; steps = [] }) (steps_of h) vs 0 count) ws tells))

pub stores_are_of_steps : ShelvesAreSingle → CountsAreSingle → StoresAreOfSteps
stores_are_of_steps shelves counts s h other was legal same groups = record {
  legal = legal;
  cache_is = subst (IsCacheOf s.cache) (sym same) was.cache_is;
  groups_are = was.groups_are ∙ sym groups;
  shelf_is = was.shelf_is ∙ sym (shelves other h legal was.legal same);
  left_out_is = counts h other s.left_out was.legal legal (sym same) was.left_out_is;
}
