-- A book stays what every book is.
use Rattle.std.proofs.Common.{◌≡◌, ◌≤◌, ◌+◌, ◌∙◌, ◌==◌, ℕ, Bool, true, false, List, [], ◌∷◌, ◌++◌, inl, inr, refl, sym, ap, subst, length, map, arith, length-append, length-set, append-nil, cond, get_or}
use Rattle.std.proofs.lemmas.List.{map-append, length-map}
use Rattle.std.proofs.lemmas.List.FromFn.{fill_by_all}
use Rattle.std.proofs.lemmas.List.Sums.{sum_by-append, sum_by-cons, count_by-le-length}
use Rattle.std.proofs.lemmas.Grind.{common_steps, flat_map-append}
use Rattle.std.proofs.lemmas.Bool.Decides.{nat_tests}
use Rattle.std.specs.Prelude.{count_by, flat_map, option_to_list, if◌then◌else◌, slice_index_or, slice_set, replicate, Option, Some, None, MatchBool}
use Rattle.patch_model.specs.declared.patches.Undo.{Undo}
use Rattle.patch_model.specs.declared.limits.TheConstants.{MAX_WRITER}
use Rattle.patch_model.specs.Step.{Step, Create, Merge, Send, Complete}
use Rattle.patch_model.specs.StepOf.{step_of as step_told}
use Rattle.patch_model.specs.declared.steps.Step.{Step as CodeStep}
use Rattle.patch_model.specs.Legal.{IsLegal}
use Rattle.patch_cache.specs.Meaning.{IsCacheOf}
use Rattle.patch_cache.specs.Waves.{is_send}
use Rattle.patch_plans.specs.Extents.{Extents, extent_at}
use Rattle.patch_plans.specs.Writing.{written, steps_by, merge_behind, merge_with, after_change}
use Rattle.patch_history.specs.Command.{Command, Reply, is_refused, may_be_cut}
use Rattle.patch_history.specs.History.{History, BookCall, Event, Call, Moved, IsRight, IsWhole, IsCut, steps_in, steps_of, calls_from, calls_of, execution_of, with_event}
use Rattle.patch_history.specs.StoreState.{Standing, plan_of, made_by}
use Rattle.patch_recovery.specs.Change.{Change, Made, Data, Point, Fill, Clear, Widen, step_of}
use Rattle.patch_model.specs.Renewed.{cached_blocks}
use Rattle.patch_store.specs.Meaning.{Store, HasGained, HasAnswered, Answers}
use Rattle.patch_store.specs.Opening.{at_opening}
use Rattle.patch_shared.specs.declared.actors.Counts.{Counts}
use Rattle.patch_shared.specs.declared.actors.Actor.TheVariants.{Writer}
use Rattle.patch_shared.specs.declared.entries.Entry.{Entry as CodeEntry}
use Rattle.patch_shared.specs.Calling.{raised}
use Rattle.patch_shared.specs.Books.{Entry, Book, entry_of, run_of, IsHistoryOf, entry_for, is_completion, is_by, IsCounted, IsKept, IsFresh, no_counts}

-- The cached blocks of an execution of no steps are its first ones.
pub cached_unchanged : (blocks : List (List ℕ)) → cached_blocks (record { first = blocks; steps = [] }) ≡ blocks
cached_unchanged blocks = sym (fill_by_all (λ k. get_or blocks k []) blocks (length blocks) [] refl (λ k less. refl))

-- What one more event adds to the calls.
calls_push : (n : ℕ) (events : List Event) (event : Event)
    → calls_from n (events ++ event ∷ []) ≡ calls_from n events ++ calls_from (n + length (flat_map steps_in events)) (event ∷ [])
calls_push n [] event = let k : n ≡ n + 0 = omega arith in ap (λ k. calls_from k (event ∷ [])) k
calls_push n (Call writer command reply steps ∷ events) event =
    let k : n + length steps + length (flat_map steps_in events) ≡ n + length (steps ++ flat_map steps_in events) =
    omega (arith, length-append steps (flat_map steps_in events)) in
    let first : BookCall = record { writer = writer; command = command; reply = reply; before = n; after = n + length steps } in
    ap (λ calls. first ∷ calls) (calls_push (n + length steps) events event
    ∙ ap (λ m. calls_from (n + length steps) events ++ calls_from m (event ∷ [])) k)
calls_push n (Moved step ∷ events) event =
    let k : n + 1 + length (flat_map steps_in events) ≡ n + length (step ∷ flat_map steps_in events) = omega arith in
    calls_push (n + 1) events event ∙ ap (λ m. calls_from (n + 1) events ++ calls_from m (event ∷ [])) k

steps_push : (events : List Event) (event : Event) → flat_map steps_in (events ++ event ∷ []) ≡ flat_map steps_in events ++ steps_in event
steps_push events event = flat_map-append steps_in events (event ∷ []) ∙ ap (λ steps. flat_map steps_in events ++ steps) (append-nil (steps_in event))

-- The calls of one event, at the end of the steps of a book.
calls_behind : (b : Book) (h : History) (event : Event) → IsHistoryOf b h
    → calls_of (with_event h event) ≡ calls_of h ++ calls_from (length b.store.cache.trace) (event ∷ [])
calls_behind b h event is =
    let k : 0 + length (steps_of h) ≡ length b.store.cache.trace = (let z : 0 + length (steps_of h) ≡ length (steps_of h) = omega arith in z) ∙ ap length is.steps_are in
    calls_push 0 h.events event ∙ ap (λ m. calls_of h ++ calls_from m (event ∷ [])) k

-- the steps behind an event that the store has gained
steps_behind : (b : Book) (h : History) (event : Event) (new : Store) → IsHistoryOf b h → HasGained h event b.store new
    → steps_of (with_event h event) ≡ new.cache.trace
steps_behind b h event new is gained =
    steps_push h.events event ∙ ap (λ steps. steps ++ steps_in event) is.steps_are ∙ sym gained.trace_is

-- The history of a book, and of the book with an answered call.
pub history_call : (b : Book) (h : History) (n : ℕ) (c : Command) (r : Reply) (new : Store) → IsHistoryOf b h → (a : HasAnswered h n c r b.store new)
    → IsHistoryOf (record { store = new; opening = b.opening; calls = b.calls ++ record { actor = Writer n; command = c; reply = r; before = length b.store.cache.trace; after = length new.cache.trace } ∷ []; counts = raised b.counts (Writer n) })
    (with_event h (Call n c r a.steps))
history_call b h n c r new is a =
    let event = Call n c r a.steps in
    let old = length b.store.cache.trace in
    let k : old + length a.steps ≡ length new.cache.trace = sym (length-append b.store.cache.trace a.steps) ∙ sym (ap length a.gained.trace_is) in
    record {
      represents = a.gained.represents;
      opening_is = is.opening_is;
      steps_are = steps_behind b h event new is a.gained;
      calls_are =
          ap (λ calls. calls ++ record { actor = Writer n; command = c; reply = r; before = old; after = length new.cache.trace } ∷ []) is.calls_are
          ∙ ap (λ m. map entry_for (calls_of h) ++ record { actor = Writer n; command = c; reply = r; before = old; after = m } ∷ []) (sym k)
          ∙ sym (map-append entry_for (calls_of h) (calls_from old (event ∷ [])))
          ∙ sym (ap (map entry_for) (calls_behind b h event is));
    }

-- and with a step of a write
pub history_move : (b : Book) (h : History) (step : Step) (new : Store) → IsHistoryOf b h → HasGained h (Moved step) b.store new
    → (counts : Counts) → IsHistoryOf (record { store = new; opening = b.opening; calls = b.calls; counts = counts }) (with_event h (Moved step))
history_move b h step new is gained counts = record {
  represents = gained.represents;
  opening_is = is.opening_is;
  steps_are = steps_behind b h (Moved step) new is gained;
  calls_are = is.calls_are ∙ sym (ap (map entry_for) (calls_behind b h (Moved step) is ∙ append-nil (calls_of h)));
}

-- The execution of a book is that of its history.
pub run_is : (b : Book) (h : History) → IsHistoryOf b h → execution_of h ≡ run_of b
run_is b h is =
    ap (λ first. record { first = first; steps = steps_of h }) is.opening_is
    ∙ ap (λ steps. record { first = b.opening; steps = steps }) is.steps_are

pub kept_so : (b : Book) (h : History) → IsHistoryOf b h → IsCounted b.calls b.store.cache.trace b.counts → IsKept b
kept_so b h is counted = record {
  legal = subst IsLegal (run_is b h is) is.represents.legal.legal;
  cache_is = subst (IsCacheOf b.store.cache) (run_is b h is) is.represents.cache_is;
  history = h;
  is_history = is;
  counted = counted;
}

-- The steps of a command neither begin a write nor end one.

pub count_append : {X : Type 0} (p : X → Bool) (xs ys : List X) → count_by p (xs ++ ys) ≡ count_by p xs + count_by p ys
count_append p xs ys = sum_by-append (λ x. cond (p x) 1 0) xs ys

-- a test of steps that no patch and no merge passes
record IsOfWrites (p : Step → Bool) : Type 0 where
  create : (block start : ℕ) (bytes after : List ℕ) (undo : Undo) → p (Create block start bytes after undo) ≡ false
  merge : (a b : ℕ) → p (Merge a b) ≡ false

skip : (p : Step → Bool) (step : Step) (steps : List Step) → p step ≡ false → count_by p steps ≡ 0 → count_by p (step ∷ steps) ≡ 0
skip p step steps fails none =
    let bit : cond {A = ℕ} (p step) 1 0 ≡ 0 = rw fails refl in
    let more = sum_by-cons (λ x. cond (p x) 1 0) step steps in
    omega (arith, bit, more, none)

-- the step that may stand behind a patch is a merge
abbrev IsMerge : Option Step → Type 0
IsMerge None = Unit {0}
IsMerge (Some (Merge a b)) = Unit {0}
IsMerge (Some (Create block start bytes after undo)) = ⊥
IsMerge (Some (Send block)) = ⊥
IsMerge (Some (Complete block)) = ⊥

merges_with : (n : ℕ) (before : Option ℕ) → IsMerge (merge_with n before)
merges_with n None = tt
merges_with n (Some before) = tt

merges_or_none : (n : ℕ) (first : Bool) (before : Option ℕ) → IsMerge (if first then None else merge_with n before)
merges_or_none n true before = tt
merges_or_none n false before = merges_with n before

merges : (s : Extents) (n : ℕ) (change : Change) → IsMerge (merge_behind s n change)
merges s n (Data extent offset bytes) = tt
merges s n (Point extent generation offset) = merges_or_none n (offset == 0) (extent_at s extent).point
merges s n (Fill slot fields) = tt
merges s n (Clear slot) = tt
merges s n Widen = tt

merge_skipped : (p : Step → Bool) → IsOfWrites p → (merge : Option Step) → IsMerge merge → (steps : List Step) → count_by p steps ≡ 0
    → count_by p (option_to_list merge ++ steps) ≡ 0
merge_skipped p q None is steps none = none
merge_skipped p q (Some (Merge a b)) is steps none = skip p (Merge a b) steps (q.merge a b) none
merge_skipped p q (Some (Create block start bytes after undo)) is steps none = absurd is
merge_skipped p q (Some (Send block)) is steps none = absurd is
merge_skipped p q (Some (Complete block)) is steps none = absurd is

none_in_plan : (p : Step → Bool) → IsOfWrites p → (choices : List Bool) (s : Extents) (n : ℕ) (plan : List Made)
    → count_by p (steps_by choices (written s n plan)) ≡ 0
none_in_plan p q choices s n [] = refl
none_in_plan p q [] s n (m ∷ plan) =
    let rest = steps_by [] (written (after_change s n m.change) (n + 1) plan) in
    skip p (step_of s.geometry m) rest (q.create _ _ _ _ _) (none_in_plan p q [] (after_change s n m.change) (n + 1) plan)
none_in_plan p q (true ∷ choices) s n (m ∷ plan) =
    let rest = steps_by choices (written (after_change s n m.change) (n + 1) plan) in
    skip p (step_of s.geometry m) (option_to_list (merge_behind s n m.change) ++ rest) (q.create _ _ _ _ _)
    (merge_skipped p q (merge_behind s n m.change) (merges s n m.change) rest (none_in_plan p q choices (after_change s n m.change) (n + 1) plan))
none_in_plan p q (false ∷ choices) s n (m ∷ plan) =
    let rest = steps_by choices (written (after_change s n m.change) (n + 1) plan) in
    skip p (step_of s.geometry m) rest (q.create _ _ _ _ _) (none_in_plan p q choices (after_change s n m.change) (n + 1) plan)

none_in_whole : (p : Step → Bool) → IsOfWrites p → (st : Standing) (plan : List Made) (steps : List Step) → IsWhole st plan steps → count_by p steps ≡ 0
none_in_whole p q st plan steps (choices, is) = ap (count_by p) is ∙ none_in_plan p q choices st.shelf.extents (made_by st) plan

none_in_cut : (p : Step → Bool) → IsOfWrites p → (st : Standing) (plan : List Made) (steps : List Step) → IsCut st plan steps → count_by p steps ≡ 0
none_in_cut p q st plan steps (rest, some, whole) =
    let all = none_in_whole p q st plan (steps ++ rest) whole in
    let parts = count_append p steps rest in
    omega (arith, all, parts)

none_unless : (p : Step → Bool) → IsOfWrites p → (st : Standing) (plan : List Made) (steps : List Step) (b : Bool)
    → MatchBool b (steps ≡ []) (IsWhole st plan steps) → count_by p steps ≡ 0
none_unless p q st plan steps true is = ap (count_by p) is
none_unless p q st plan steps false is = none_in_whole p q st plan steps is

none_or_cut : (p : Step → Bool) → IsOfWrites p → (st : Standing) (plan : List Made) (steps : List Step) (b : Bool)
    → MatchBool b (IsCut st plan steps) (steps ≡ []) → count_by p steps ≡ 0
none_or_cut p q st plan steps true is = none_in_cut p q st plan steps is
none_or_cut p q st plan steps false is = ap (count_by p) is

none_in_call : (p : Step → Bool) → IsOfWrites p → (st : Standing) (n : ℕ) (c : Command) (r : Reply) (steps : List Step) → IsRight st (Call n c r steps)
    → count_by p steps ≡ 0
none_in_call p q st n c r steps (inl answered) = none_unless p q st (plan_of st n c) steps (is_refused r) answered.1
none_in_call p q st n c r steps (inr given_up) = none_or_cut p q st (plan_of st n c) steps (may_be_cut c) given_up.cut

sends_are : IsOfWrites is_send
sends_are = record { create = λ block start bytes after undo. refl; merge = λ a b. refl }

completions_are : IsOfWrites is_completion
completions_are = record { create = λ block start bytes after undo. refl; merge = λ a b. refl }

-- The counts, with one call more.

one_writer : (ws : List ℕ) (n m : ℕ) → length ws ≡ 8 → n ≤ MAX_WRITER → (b : Bool) → (n == m) ≡ b
    → slice_index_or (slice_set ws n (slice_index_or ws n 0 + 1)) m 0 ≡ slice_index_or ws m 0 + cond b 1 0
one_writer ws n m eight low true is = grind (arith, common_steps, nat_tests)
one_writer ws n m eight low false is = grind (arith, common_steps, nat_tests)

-- a count fits where the list of the calls does
pub count_fits : {A : Type 0} (n : ℕ) (xs : List (CodeEntry A)) (steps : List Step) (counts : Counts) → IsCounted (map entry_of xs) steps counts
    → n ≤ MAX_WRITER → slice_index_or counts.writers n 0 ≤ length xs
count_fits n xs steps counts counted low =
    let is = counted.writers n low in
    let less = count_by-le-length (is_by n) (map entry_of xs) in
    let long = length-map xs entry_of in
    omega (arith, is, less, long)

-- and so does a count of steps where the trace does, with one step more
pub steps_fit : {A : Type 0} (p : Step → Bool) (trace : List (CodeStep A)) (old new : List Step) (step : Step) → map step_told trace ≡ new
    → new ≡ old ++ step ∷ [] → count_by p old + 1 ≤ length trace
steps_fit p trace old new step is adds =
    let less = count_by-le-length p old in
    let same = ap length is in
    let more = ap length adds ∙ length-append old (step ∷ []) in
    let long = length-map trace step_told in
    omega (arith, less, same, more, long)

counted_call : (b : Book) (n before after : ℕ) (c : Command) (r : Reply) (new steps : List Step) → IsCounted b.calls b.store.cache.trace b.counts
    → n ≤ MAX_WRITER → new ≡ b.store.cache.trace ++ steps → count_by is_send steps ≡ 0 → count_by is_completion steps ≡ 0
    → IsCounted (b.calls ++ record { actor = Writer n; command = c; reply = r; before = before; after = after } ∷ []) new (raised b.counts (Writer n))
counted_call b n before after c r new steps counted low trace sends completions =
    let e : Entry = record { actor = Writer n; command = c; reply = r; before = before; after = after } in record {
      eight = omega (arith, counted.eight, length-set b.counts.writers n (slice_index_or b.counts.writers n 0 + 1));
      writers = λ m few. one_writer b.counts.writers n m counted.eight low (n == m) refl
          ∙ omega (arith, count_append (is_by m) b.calls (e ∷ []), counted.writers m few);
      flusher = rw trace (omega (arith, count_append is_send b.store.cache.trace steps, counted.flusher, sends));
      completer = rw trace (omega (arith, count_append is_completion b.store.cache.trace steps, counted.completer, completions));
    }

counted_move : (b : Book) (new : List Step) (step : Step) (counts : Counts) → IsCounted b.calls b.store.cache.trace b.counts
    → new ≡ b.store.cache.trace ++ step ∷ [] → counts.writers ≡ b.counts.writers
    → counts.flusher ≡ b.counts.flusher + cond (is_send step) 1 0 → counts.completer ≡ b.counts.completer + cond (is_completion step) 1 0
    → IsCounted b.calls new counts
counted_move b new step counts counted trace writers flusher completer = record {
  eight = ap length writers ∙ counted.eight;
  writers = λ n few. ap (λ ws. slice_index_or ws n 0) writers ∙ counted.writers n few;
  flusher = rw trace (omega (arith, count_append is_send b.store.cache.trace (step ∷ []), counted.flusher, flusher));
  completer = rw trace (omega (arith, count_append is_completion b.store.cache.trace (step ∷ []), counted.completer, completer));
}

-- A book is kept by each of its calls.

pub kept_call : (b : Book) (n : ℕ) (c : Command) (r : Reply) (new : Store) → IsKept b → n ≤ MAX_WRITER → Answers n c r b.store new
    → IsKept (record { store = new; opening = b.opening; calls = b.calls ++ record { actor = Writer n; command = c; reply = r; before = length b.store.cache.trace; after = length new.cache.trace } ∷ []; counts = raised b.counts (Writer n) })
kept_call b n c r new kept low answers =
    let a = answers kept.history kept.is_history.represents in
    kept_so _ _ (history_call b kept.history n c r new kept.is_history a)
    (counted_call b n _ _ c r new.cache.trace a.steps kept.counted low a.gained.trace_is
    (none_in_call is_send sends_are _ n c r a.steps a.gained.right) (none_in_call is_completion completions_are _ n c r a.steps a.gained.right))

pub kept_move : (b : Book) (step : Step) (new : Store) (counts : Counts) (kept : IsKept b) → HasGained kept.history (Moved step) b.store new
    → counts.writers ≡ b.counts.writers → counts.flusher ≡ b.counts.flusher + cond (is_send step) 1 0
    → counts.completer ≡ b.counts.completer + cond (is_completion step) 1 0
    → IsKept (record { store = new; opening = b.opening; calls = b.calls; counts = counts })
kept_move b step new counts kept gained writers flusher completer =
    kept_so _ _ (history_move b kept.history step new kept.is_history gained counts)
    (counted_move b new.cache.trace step counts kept.counted gained.trace_is writers flusher completer)

zero_at : (count n : ℕ) → ◌≡◌ {A = ℕ} (slice_index_or (replicate count 0) n 0) 0
zero_at count n = grind (arith, common_steps, nat_tests)

-- A book begins as one.
pub kept_first : (s : Store) (blocks : List (List ℕ)) → IsFresh s blocks → IsKept (record { store = s; opening = blocks; calls = []; counts = no_counts })
kept_first s blocks fresh =
    let o = fresh.opened in
    kept_so _ (at_opening blocks o.ledger)
    (record { represents = o.represents; opening_is = refl; steps_are = sym fresh.no_steps; calls_are = refl })
    (record {
      eight = refl;
      writers = λ n few. zero_at 8 n;
      flusher = sym (ap (count_by is_send) fresh.no_steps);
      completer = sym (ap (count_by is_completion) fresh.no_steps);
    })
