-- What the store says of its histories, said of the book.
use Rattle.std.proofs.Common.{◌≡◌, ◌+◌, ◌∙◌, ℕ, List, [], ◌∷◌, ◌++◌, length, map, refl, sym, ap, subst, arith}
use Rattle.std.proofs.lemmas.List.{length-map, map-append}
use Rattle.std.specs.Prelude.{None, Contains}
use Rattle.patch_model.specs.Step.{Step, Send, Complete}
use Rattle.patch_model.specs.StepOf.{step_of}
use Rattle.patch_model.specs.declared.steps.Step.{Step as CodeStep}
use Rattle.patch_model.specs.Execution.{Execution}
use Rattle.patch_model.specs.Refusing.{why_not_sent}
use Rattle.patch_model.specs.State.{entries_of, state_of, flying_of, numbers_of}
use Rattle.patch_cache.specs.Flights.{IsSent}
use Rattle.patch_cache.specs.Meaning.{IsCacheOf}
use Rattle.patch_cache.specs.declared.flights.Flight.{Flight}
use Rattle.patch_cache.specs.declared.flights.Landed.{Landed}
use Rattle.patch_cache.specs.declared.writes.Done.{Done}
use Rattle.patch_history.specs.Command.{Command, Reply}
use Rattle.patch_history.specs.Commands.{command_of, reply_told}
use Rattle.patch_history.specs.History.{execution_of}
use Rattle.patch_model.specs.Renewed.{cached_blocks}
use Rattle.patch_store.specs.Meaning.{Store, Answers}
use Rattle.patch_store.specs.Sending.{HasBegun as StoreHasBegun, HasEnded as StoreHasEnded}
use Rattle.patch_shared.specs.declared.actors.Actor.TheVariants.{Writer, Flusher, Completer}
use Rattle.patch_shared.specs.declared.entries.Entry.{Entry as CodeEntry}
use Rattle.patch_shared.specs.Books.{Entry, Book, entry_of, IsKept, IsFresh, no_counts, run_of}
use Rattle.patch_shared.specs.Calling.{raised, AddsCall, HasBegun, BeginsNone, HasEnded, IsStranger}
use Rattle.patch_shared.proofs.Keeping.{cached_unchanged, kept_first, kept_move, run_is}

-- A fresh store's cached blocks are those that it was opened on.
pub opened_on : (s : Store) (opening blocks : List (List ℕ)) → IsFresh s blocks
    → ((run : Execution) → IsCacheOf s.cache run → opening ≡ cached_blocks run) → opening ≡ blocks
opened_on s opening blocks fresh copied = copied (record { first = blocks; steps = [] }) fresh.opened.represents.cache_is ∙ cached_unchanged blocks

pub kept_open : (s : Store) (opening blocks : List (List ℕ)) (calls : List Entry) → IsFresh s blocks
    → ((run : Execution) → IsCacheOf s.cache run → opening ≡ cached_blocks run) → calls ≡ []
    → IsKept (record { store = s; opening = opening; calls = calls; counts = no_counts })
kept_open s opening blocks calls fresh copied none = rw (opened_on s opening blocks fresh copied, none) (kept_first s blocks fresh)

-- A write that is begun.
pub sent_by : {A : Type 0} (b new : Book) (kept : IsKept b) (flight : Flight A) → StoreHasBegun kept.history flight b.store new.store
    → new.opening ≡ b.opening → new.calls ≡ b.calls → new.counts ≡ raised b.counts Flusher → HasBegun b new Flusher flight
sent_by b new kept flight begun opening calls counts =
    let same : execution_of kept.history ≡ run_of b = run_is b kept.history kept.is_history in
    record {
      can = subst (λ run. why_not_sent run flight.block ≡ None) same begun.can;
      least = λ n can. begun.least n (subst (λ run. why_not_sent run n ≡ None) (sym same) can);
      sent = subst (λ run. IsSent run flight.block flight) same begun.sent;
      adds = record { opening = opening; steps = begun.gained.trace_is; calls = calls; counts = counts };
    }

pub none_sent : (b new : Book) (kept : IsKept b) → ((n : ℕ) → why_not_sent (execution_of kept.history) n ≡ None → ⊥) → new ≡ b → BeginsNone b new
none_sent b new kept none same =
    let run : execution_of kept.history ≡ run_of b = run_is b kept.history kept.is_history in
    record { none = λ n can. none n (subst (λ r. why_not_sent r n ≡ None) (sym run) can); same = same }

-- A write that is ended.
pub ended_by : {A : Type 0} (b new : Book) (kept : IsKept b) (landed : Landed) (done : Done A) → StoreHasEnded kept.history landed done b.store new.store
    → new.opening ≡ b.opening → new.calls ≡ b.calls → new.counts ≡ raised b.counts Completer → HasEnded b new Completer landed done
ended_by b new kept landed done ended opening calls counts =
    let same : execution_of kept.history ≡ run_of b = run_is b kept.history kept.is_history in
    record {
      known = subst (λ run. Contains (state_of run).flights (landed.block, landed.sequence)) same ended.known;
      block_is = ended.block_is;
      numbers_are = subst (λ run. done.numbers ≡ numbers_of (flying_of (entries_of run) landed.block)) same ended.numbers_are;
      adds = record { opening = opening; steps = ended.gained.trace_is; calls = calls; counts = counts };
    }

pub stranger_to : (b : Book) (kept : IsKept b) (landed : Landed)
    → (Contains (state_of (execution_of kept.history)).flights (landed.block, landed.sequence) → ⊥) → IsStranger b landed
stranger_to b kept landed unknown =
    subst (λ run. Contains (state_of run).flights (landed.block, landed.sequence) → ⊥) (run_is b kept.history kept.is_history) unknown

-- A command that is answered.
pub called_by : (b new : Book) (kept : IsKept b) (n : ℕ) (c : Command) (r : Reply) → Answers n c r b.store new.store → new.opening ≡ b.opening
    → new.calls ≡ b.calls ++ record { actor = Writer n; command = c; reply = r; before = length b.store.cache.trace; after = length new.store.cache.trace } ∷ []
    → new.counts ≡ raised b.counts (Writer n) → AddsCall b new (Writer n) c r
called_by b new kept n c r answers opening calls counts =
    let a = answers kept.history kept.is_history.represents in
    record { run = a.steps; opening = opening; steps = a.gained.trace_is; calls = calls; counts = counts }

-- The book is kept by a write that is begun, and by one that is ended.
pub kept_sent : {A : Type 0} (b : Book) (new : Store) (kept : IsKept b) (flight : Flight A) → StoreHasBegun kept.history flight b.store new
    → IsKept (record { store = new; opening = b.opening; calls = b.calls; counts = raised b.counts Flusher })
kept_sent b new kept flight begun =
    kept_move b (Send flight.block) new (raised b.counts Flusher) kept begun.gained refl refl (let e : b.counts.completer ≡ b.counts.completer + 0 = omega arith in e)

pub kept_ended : {A : Type 0} (b : Book) (new : Store) (kept : IsKept b) (landed : Landed) (done : Done A) → StoreHasEnded kept.history landed done b.store new
    → IsKept (record { store = new; opening = b.opening; calls = b.calls; counts = raised b.counts Completer })
kept_ended b new kept landed done ended =
    kept_move b (Complete landed.block) new (raised b.counts Completer) kept ended.gained refl (let e : b.counts.flusher ≡ b.counts.flusher + 0 = omega arith in e) refl

-- The entries with the one that was pushed.
pub pushed_is : {A B : Type 0} (xs mid new : List (CodeEntry A)) (e : CodeEntry A) (n : ℕ) (c : Command) (r : Reply) (first last : List (CodeStep B)) (before after : List Step)
    → new ≡ mid ++ e ∷ [] → mid ≡ xs → e.actor ≡ Writer n → command_of e.command ≡ c → reply_told e.reply ≡ r
    → e.before ≡ length first → map step_of first ≡ before → e.after ≡ length last → map step_of last ≡ after
    → map entry_of xs ++ record { actor = Writer n; command = c; reply = r; before = length before; after = length after } ∷ [] ≡ map entry_of new
pushed_is xs mid new e n c r first last before after pushed same actor command reply start first_is stop last_is =
    let b : e.before ≡ length before = start ∙ sym (length-map first step_of) ∙ ap length first_is in
    let a : e.after ≡ length after = stop ∙ sym (length-map last step_of) ∙ ap length last_is in
    let is : entry_of e ≡ record { actor = Writer n; command = c; reply = r; before = length before; after = length after } =
    ap (λ x. let v : Entry = record (entry_of e) { actor = x } in v) actor
    ∙ ap (λ x. let v : Entry = record (entry_of e) { actor = Writer n; command = x } in v) command
    ∙ ap (λ x. let v : Entry = record (entry_of e) { actor = Writer n; command = c; reply = x } in v) reply
    ∙ ap (λ x. let v : Entry = record (entry_of e) { actor = Writer n; command = c; reply = r; before = x } in v) b
    ∙ ap (λ x. let v : Entry = record { actor = Writer n; command = c; reply = r; before = length before; after = x } in v) a in
    sym (ap (map entry_of) (pushed ∙ ap (λ ys. ys ++ e ∷ []) same) ∙ map-append entry_of xs (e ∷ []) ∙ ap (λ x. map entry_of xs ++ x ∷ []) is)
