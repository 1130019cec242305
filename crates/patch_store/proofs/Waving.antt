-- A store behind writes that were begun and ended.
use Rattle.std.proofs.Common.{◌≡◌, ℕ, Bool, ◌+◌, ◌≤◌, ◌∙◌, inl, true, false, List, [], ◌∷◌, ◌++◌, map, refl, sym, ap, subst}
use Rattle.std.specs.Prelude.{fold, flat_map, count_by, Some, None, Result, Ok, Err, OnOk, IsFalse, slice_get}
use Rattle.std.specs.List.{list_all}
use Rattle.std.proofs.lemmas.Bool.{and_parts}
use Rattle.std.proofs.lemmas.List.{append_assoc}
use Rattle.patch_model.specs.Step.{Step, Create, Merge, Send, Complete}
use Rattle.patch_model.specs.Execution.{Execution, followed_by}
use Rattle.patch_model.specs.State.{entries_of, state_of, has_flight}
use Rattle.patch_model.specs.History.{history_of, image, cached}
use Rattle.patch_cache.specs.Contents.{Contents}
use Rattle.patch_cache.specs.Meaning.{IsCacheOf}
use Rattle.patch_cache.specs.Flights.{AreFlightsOf, AreFlightsBeside}
use Rattle.patch_cache.specs.Running.{Runs, RunsBeside, held_by}
use Rattle.patch_cache.specs.Waves.{is_write, is_send, classes_in_memory, steps_since, HasGoneOnBeside, HoldImages, IsFlushed}
use Rattle.patch_cache.specs.declared.flights.Flights.{Flights}
use Rattle.patch_cache.specs.Refused.{HasRefused, IfGivenUp}
use Rattle.patch_cache.specs.declared.refusals.FlushRefusal.{FlushRefusal}
use Rattle.patch_cache.specs.declared.refusals.FlushRefusal.TheVariants as flush
use Rattle.patch_device.specs.declared.devices.Device.{Ghosts}
use Rattle.patch_model.specs.Member.{In}
use Rattle.patch_history.specs.History.{History, Event, Moved, steps_in, after_event, execution_of, standing_of, IsLegalHistory, AreRight}
use Rattle.patch_history.specs.History as histories
use Rattle.patch_history.specs.StoreState.{Standing, at_opening}
use Rattle.patch_store.specs.Meaning.{Store, IsStoreOf}
use Rattle.patch_store.specs.Merging.{AreCounted}
use Rattle.patch_store.specs.Flushing.{StandsStill, with_writes, HasWritten, HoldCached, IfRefused}

-- The history with the writes.

steps_moved : (steps : List Step) → flat_map steps_in (map Moved steps) ≡ steps
steps_moved [] = refl
steps_moved (step ∷ steps) = ap (λ all. step ∷ all) (steps_moved steps)

steps_behind : (events : List Event) (steps : List Step) → flat_map steps_in (events ++ map Moved steps) ≡ flat_map steps_in events ++ steps
steps_behind [] steps = steps_moved steps
steps_behind (event ∷ events) steps =
    ap (λ all. steps_in event ++ all) (steps_behind events steps) ∙ sym (append_assoc (steps_in event) (flat_map steps_in events) steps)

pub run_behind : (h : History) (steps : List Step) → execution_of (with_writes h steps) ≡ followed_by (execution_of h) steps
run_behind h steps = ap (λ all. record (execution_of h) { steps = all }) (steps_behind h.events steps)

write_is : (step : Step) → is_write step ≡ true → histories.is_write step ≡ true
write_is (Create block start bytes after undo) h = h
write_is (Merge a b) h = h
write_is (Send block) h = refl
write_is (Complete block) h = refl

moved_right : (st : Standing) (steps : List Step) → list_all is_write steps ≡ true → AreRight st (map Moved steps)
moved_right st [] all = tt
moved_right st (step ∷ steps) all =
    let both = and_parts (is_write step) (list_all is_write steps) all in
    (write_is step both.0, moved_right (after_event st (Moved step)) steps both.1)

right_behind : (st : Standing) (events : List Event) (steps : List Step) → AreRight st events → list_all is_write steps ≡ true
    → AreRight st (events ++ map Moved steps)
right_behind st [] steps right all = moved_right st steps all
right_behind st (event ∷ events) steps right all = (right.0, right_behind (after_event st event) events steps right.1 all)

-- writes are not counted
moved_counted : (st : Standing) (steps : List Step) (before after : ℕ) → after ≡ before → AreCounted st (map Moved steps) before after
moved_counted st [] before after same = same
moved_counted st (step ∷ steps) before after same = (before, refl, moved_counted (after_event st (Moved step)) steps before after same)

counted_behind : (st : Standing) (events : List Event) (steps : List Step) (before after : ℕ) → AreCounted st events before after
    → AreCounted st (events ++ map Moved steps) before after
counted_behind st [] steps before after are = moved_counted st steps before after are
counted_behind st (event ∷ events) steps before after are =
    (are.0, are.1, counted_behind (after_event st event) events steps are.0 after are.2)

-- groups and shelf stay
record IsBeside (now st : Standing) : Type 0 where
  groups : now.groups ≡ st.groups
  shelf : now.shelf ≡ st.shelf

moved_beside : (st : Standing) (steps : List Step) → IsBeside (fold after_event st (map Moved steps)) st
moved_beside st [] = record { groups = refl; shelf = refl }
moved_beside st (step ∷ steps) = let rest = moved_beside (after_event st (Moved step)) steps in record { groups = rest.groups; shelf = rest.shelf }

beside : (st : Standing) (events : List Event) (steps : List Step) → IsBeside (fold after_event st (events ++ map Moved steps)) (fold after_event st events)
beside st [] steps = moved_beside st steps
beside st (event ∷ events) steps = beside (after_event st event) events steps

pub written_so : {A : Type 0} {others : Bool} (h : History) (steps : List Step) (old : Store) (cache : Contents) (flights : Flights A) → IsStoreOf old h
    → HasGoneOnBeside others (execution_of h) steps cache flights → HasWritten h steps (record old { cache = cache })
written_so h steps old cache flights was gone =
    let is = run_behind h steps in
    let stands : IsCacheOf cache (execution_of (with_writes h steps)) = subst (IsCacheOf cache) (sym is) gone.runs.cache_is in
    let same = beside (at_opening h.opening h.first) h.events steps in
    record {
      represents = record {
        legal = record {
          bytes = was.legal.bytes;
          reads = was.legal.reads;
          legal = stands.legal;
          right = right_behind (at_opening h.opening h.first) h.events steps was.legal.right gone.writes;
        };
        cache_is = stands;
        groups_are = was.groups_are ∙ sym same.groups;
        shelf_is = was.shelf_is ∙ sym same.shelf;
        left_out_is = counted_behind (at_opening h.opening h.first) h.events steps 0 old.left_out was.left_out_is;
      };
      sends = subst (λ run. count_by is_send steps + classes_in_memory (entries_of run) ≤ classes_in_memory (entries_of (execution_of h))) (sym is) gone.sends;
    }

-- With no write under way there are no flights.

none_at : {X : Type 0} (i : ℕ) (x : X) → slice_get [] i ≡ Some x → ⊥
none_at i x is = let g : None ≡ Some x = is in cc

no_flights : {A : Type 0} (run : Execution) → ((block : ℕ) → IsFalse (has_flight (state_of run) block)) → AreFlightsOf {A = A} run []
no_flights run none = record {
  each = λ flight among. absurd among;
  all = λ alone block flying. absurd (let n = none block in let g : true ≡ false = sym flying ∙ n in cc);
  once = λ i j f g at other same. absurd (none_at i f at);
}

pub runs_so : {A : Type 0} (h : History) (old : Store) (flights : Flights A) → held_by flights ≡ [] → StandsStill old h → Runs old.cache flights (execution_of h)
runs_so h old flights none still = record {
  cache_is = still.represents.cache_is;
  flights_are = subst (AreFlightsOf (execution_of h)) (sym none) (no_flights (execution_of h) still.no_flight);
}

-- Whatever is under way is held elsewhere.

none_beside : {A : Type 0} (run : Execution) → AreFlightsBeside {A = A} true run []
none_beside run = record {
  each = λ flight among. absurd among;
  all = λ alone block flying. absurd (let no : true ≡ false = alone in cc);
  once = λ i j f g at other same. absurd (none_at i f at);
}

pub runs_beside : {A : Type 0} (h : History) (old : Store) (flights : Flights A) → held_by flights ≡ [] → IsStoreOf old h → RunsBeside true old.cache flights (execution_of h)
runs_beside h old flights none was = record {
  cache_is = was.cache_is;
  flights_are = subst (AreFlightsBeside true (execution_of h)) (sym none) (none_beside (execution_of h));
}

-- what is said of the view of a store is said of the store
pub written_view : {A : Type 0} (old now : Store) (cache : Contents) (flights after : Flights A) → old ≡ now → held_by flights ≡ []
    → ((run : Execution) → RunsBeside true old.cache flights run → HasGoneOnBeside true run (steps_since old.cache cache) cache after)
    → (h : History) → IsStoreOf now h → HasWritten h (steps_since now.cache cache) (record old { cache = cache })
written_view old now cache flights after is none ran h was =
    subst (λ s. IsStoreOf s h → HasWritten h (steps_since s.cache cache) (record old { cache = cache })) is
    (λ w. written_so h (steps_since old.cache cache) old cache after w (ran (execution_of h) (runs_beside h old flights none w))) was

pub said_beside : {A : Type 0} (P : History → List Step → Type 0) (old now : Store) (cache : Contents) (flights : Flights A) → old ≡ now → held_by flights ≡ []
    → ((h : History) → RunsBeside true old.cache flights (execution_of h) → P h (steps_since old.cache cache))
    → (h : History) → IsStoreOf now h → P h (steps_since now.cache cache)
said_beside P old now cache flights is none said h was =
    subst (λ s. IsStoreOf s h → P h (steps_since s.cache cache)) is (λ w. said h (runs_beside h old flights none w)) was

pub said_view : {A : Type 0} (P : History → List Step → Type 0) (old now : Store) (cache : Contents) (flights : Flights A) → old ≡ now → held_by flights ≡ []
    → ((h : History) → Runs old.cache flights (execution_of h) → P h (steps_since old.cache cache))
    → (h : History) → StandsStill now h → P h (steps_since now.cache cache)
said_view P old now cache flights is none said h still =
    subst (λ s. StandsStill s h → P h (steps_since s.cache cache)) is (λ w. said h (runs_so h old flights none w)) still

-- where nothing is left, images are what is cached
pub cached_so : ((run : Execution) (block : ℕ) → IsFlushed run → image (history_of run block) ≡ cached (history_of run block))
    → (run : Execution) (contents : List (List ℕ)) → IsFlushed run → HoldImages run contents → HoldCached run contents
cached_so law run contents flushed hold = record {
  count = hold.count;
  blocks = λ b less. hold.images b less (flushed.no_flight b) ∙ law run b flushed;
}

pub ok_map : (X Y : Type 0) (flushed : Result (Unit {0}) FlushRefusal) → (X → Y) → OnOk flushed X → OnOk flushed Y
ok_map X Y (Ok done) f x = f x
ok_map X Y (Err refusal) f x = tt

-- A flight that the device gave up holds its block's image.

first_in : {X : Type 0} (xs : List X) (x : X) → slice_get xs 0 ≡ Some x → In xs x
first_in [] x is = absurd (none_at 0 x is)
first_in (y ∷ xs) x is = inl (let same : Some y ≡ Some x = is in cc)

pub refused_image : {A D T : Type 0} (g : Ghosts D) (result : Result T FlushRefusal) (run : Execution) (cache : Contents) (flights : Flights A) (before now : D)
    → RunsBeside true cache flights run → IfGivenUp g result flights before now → IfRefused g result run before now
refused_image g (Ok done) run cache flights before now runs told = tt
refused_image g (Err (flush.DeviceGaveUp block)) run cache flights before now runs told =
    let is = runs.flights_are.each told.flight told.inside in
    subst (λ b. HasRefused g b (image (history_of run b)) before now) told.of
    (subst (λ bytes. HasRefused g told.flight.block bytes before now) is.image_is told.refused)
refused_image g (Err flush.SyncFailed) run cache flights before now runs told = told
refused_image g (Err flush.OutOfMemory) run cache flights before now runs told = tt
