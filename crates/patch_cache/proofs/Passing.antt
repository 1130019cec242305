-- All writes that can begin, until none can.
use Rattle.std.proofs.Common.{◌≡◌, ◌≢◌, ℕ, Bool, true, false, ◌+◌, ◌<◌, ◌≤◌, inl, inr, ◌∙◌, None, List, [], ◌∷◌, ◌++◌, length, map, filter, refl, sym, ap, subst, arith}
use Rattle.std.specs.Prelude.{◌==◌, ◌&&◌, ◌||◌, not, count_by, IsTrue, Contains}
use Rattle.std.specs.List.{list_any}
use Rattle.std.proofs.lemmas.List.{append-nil}
use Rattle.std.proofs.lemmas.Bool.{cases_Bool, cases_eq, and_parts, and_from}
use Rattle.std.proofs.lemmas.Bool.Decides.{nat_tests}
use Rattle.patch_model.specs.declared.patches.Mark.{Mark}
use Rattle.patch_model.specs.declared.patches.Mark.TheVariants.{Memory, Flight, Durable}
use Rattle.patch_model.specs.Step.{Step, Send, Complete}
use Rattle.patch_model.specs.Execution.{Execution, extended, followed_by}
use Rattle.patch_model.specs.Entry.{Entry, is_memory, is_live, is_flight, is_among, marks_memory, marks_flight, marks_durable}
use Rattle.patch_model.specs.State.{state_of, entries_of, has_flight, at_first}
use Rattle.patch_model.specs.Ready.{ready, IsLargestWritable}
use Rattle.patch_model.specs.Orderly.{IsOrderly}
use Rattle.patch_model.specs.Legal.{IsLegal, IsLegalStep}
use Rattle.patch_model.specs.Refusing.{why_not_sent}
use Rattle.patch_model.specs.Member.{In, Contains-from_In, filter-In}
use Rattle.patch_model.specs.Pile.{pile}
use Rattle.patch_model.specs.History.{history_of, image, cached}
use Rattle.patch_device.specs.declared.devices.Device.{Ghosts}
use Rattle.patch_graph.specs.Between.{HasNoRing}
use Rattle.patch_graph.specs.Meaning.{IsGraphOf}
use Rattle.patch_graph.specs.Ready.{IsShut}
use Rattle.patch_cache.specs.Contents.{Contents}
use Rattle.patch_cache.specs.Running.{Runs, RunsBeside, held_by}
use Rattle.patch_cache.specs.Flights.{AreFlightsOf}
use Rattle.patch_cache.specs.Waves.{is_send, steps_since, classes_in_memory, live_classes, HasGoneOnBeside, HasKept, HasStayed, Continues, EndsOne, HoldsBegun, begun, IsPass, IsFlushed, IsSentOr}
use Rattle.patch_cache.specs.declared.flights.Flights.{Flights}
use Rattle.patch_cache.specs.declared.flights.Flight.{Flight as Held}
use Rattle.patch_cache.proofs.Crashing.{DisksStay, legal_last}
use Rattle.patch_cache.proofs.HeldFlights.{StatesExtend, ImagesStay}
use Rattle.patch_cache.proofs.Counting.{count_le, count-append}
use Rattle.patch_cache.proofs.Shut.{FlyingLaw, RingLaw, none_between}
use Rattle.patch_cache.proofs.Waving.{since_is, since_both, sends_since, continues, gone_still, gone_send, gone_both, kept_aside, stayed_still, stayed_both, went_by, keeps_by, fewer_sent, images_sent}

-- the law of what a write of a block needs
abbrev pub SentLaw : Type 0
SentLaw = (run : Execution) (block : ℕ)
    → ((why_not_sent run block ≡ None) → ((block < length run.first) × IsLegalStep (length run.first) (state_of run) (Send block)))
    × (((block < length run.first) × IsLegalStep (length run.first) (state_of run) (Send block)) → (why_not_sent run block ≡ None))

abbrev pub OrderlyLaw : Type 0
OrderlyLaw = (run : Execution) → IsLegal run → IsOrderly (entries_of run)

abbrev pub LargestLaw : Type 0
LargestLaw = (run : Execution) (block : ℕ) → IsLargestWritable (entries_of run) block (ready (entries_of run) block)

-- some write was begun, or none can begin of the blocks so far
abbrev pub IsPassTo : Execution → ℕ → Bool → List Step → Type 0
IsPassTo run at true steps = 0 < count_by is_send steps
IsPassTo run at false steps = (steps ≡ []) × ((b : ℕ) → b < at → why_not_sent run b ≡ None → ⊥)

pub record Passed {A : Type 0} (others : Bool) (run : Execution) (at : ℕ) (sent : Bool) (steps : List Step) (cache : Contents) (flights : Flights A) : Type 0 where
  pub gone : HasGoneOnBeside others run steps cache flights
  pub stayed : (contents : List (List ℕ)) → HasStayed run steps contents
  pub pass : IsPassTo run at sent steps

pub no_end : (block b : ℕ) → Send block ≢ Complete b
no_end block b e = absurd (cc)

-- a write of one block
pub one_sent : {A : Type 0} {others : Bool} → StatesExtend → OrderlyLaw → LargestLaw → SentLaw → (run : Execution) (block : ℕ) (cache : Contents) (flights : Flights A) → IsLegal run → why_not_sent run block ≡ None
    → RunsBeside others cache flights (extended run (Send block)) → HasGoneOnBeside others run (Send block ∷ []) cache flights
one_sent extend orderly largest law run block cache flights legal why runs =
    let may = (law run block).0 why in gone_send run block cache flights (fewer_sent extend run block (orderly run legal) (largest run block) may.1.1) runs

pub one_stayed : StatesExtend → ImagesStay → DisksStay → (run : Execution) (block : ℕ) (contents : List (List ℕ)) → IsLegal run → IsLegal (extended run (Send block))
    → HasStayed run (Send block ∷ []) contents
one_stayed extend stay disks run block contents legal longer =
    record {
      crash = λ left. disks run (Send block) contents legal (legal_last (length run.first) at_first run.steps (Send block) longer.steps) (no_end block) left;
      images = λ held. images_sent extend stay run block contents held;
    }

same_run : (run : Execution) (steps : List Step) → steps ≡ [] → followed_by run steps ≡ run
same_run run steps none = ap (λ s. let v : Execution = record { first = run.first; steps = run.steps ++ s } in v) none ∙ ap (λ s. let v : Execution = record { first = run.first; steps = s } in v) (append-nil run.steps)

-- one block, of which a write may have begun
pub one_gone : {A : Type 0} {others : Bool} → StatesExtend → OrderlyLaw → LargestLaw → SentLaw → (run : Execution) (block : ℕ) (sent : Bool) (cache : Contents) (flights : Flights A) → IsLegal run
    → IsSentOr others run block sent cache flights → HasGoneOnBeside others run (begun block sent) cache flights
one_gone extend orderly largest law run block true cache flights legal one = one_sent extend orderly largest law run block cache flights legal one.0 one.1
one_gone extend orderly largest law run block false cache flights legal one = gone_still run cache flights one.1

pub maybe_stayed : {A : Type 0} → StatesExtend → ImagesStay → DisksStay → (others : Bool) (run : Execution) (block : ℕ) (sent : Bool) (cache : Contents) (flights : Flights A) (contents : List (List ℕ)) → IsLegal run
    → IsSentOr others run block sent cache flights → HasStayed run (begun block sent) contents
maybe_stayed extend stay disks others run block true cache flights contents legal one = one_stayed extend stay disks run block contents legal one.1.cache_is.legal
maybe_stayed extend stay disks others run block false cache flights contents legal one = stayed_still run contents

pub sent_true : {A : Type 0} {others : Bool} (run : Execution) (block : ℕ) (b : Bool) (cache : Contents) (flights : Flights A) → b ≡ true → IsSentOr others run block b cache flights → (why_not_sent run block ≡ None) × RunsBeside others cache flights (extended run (Send block))
sent_true run block true cache flights e h = h
sent_true run block false cache flights e h = absurd (cc)

-- one block, of which a write has begun
pub begun_by : (old still now : Contents) (block : ℕ) (sent : Bool) → still ≡ old → sent ≡ true → now.trace ≡ still.trace ++ begun block sent → now.trace ≡ old.trace ++ Send block ∷ []
begun_by old still now block sent same is added = added ∙ ap (λ b. still.trace ++ begun block b) is ∙ ap (λ (x : Contents). x.trace ++ Send block ∷ []) same

pub sent_still : {A : Type 0} {others : Bool} (run : Execution) (block : ℕ) (old still now : Contents) (sent : Bool) (flights held : Flights A) → still ≡ old → sent ≡ true → (RunsBeside others still flights run → IsSentOr others run block sent now held) → RunsBeside others old flights run
    → (why_not_sent run block ≡ None) × RunsBeside others now held (extended run (Send block))
sent_still {others = others} run block old still now sent flights held same is one runs = sent_true run block sent now held is (one (subst (λ (x : Contents). RunsBeside others x flights run) (sym same) runs))

pub begun_gone : {A : Type 0} {others : Bool} → StatesExtend → OrderlyLaw → LargestLaw → SentLaw → (run : Execution) (block : ℕ) (old still now : Contents) (sent : Bool) (flights held : Flights A) → still ≡ old → sent ≡ true
    → now.trace ≡ still.trace ++ begun block sent → (RunsBeside others still flights run → IsSentOr others run block sent now held) → RunsBeside others old flights run → HasGoneOnBeside others run (steps_since old now) now held
begun_gone extend orderly largest law run block old still now sent flights held same is added one runs =
    let told = sent_still run block old still now sent flights held same is one runs in
    went_by run old now (Send block ∷ []) held (begun_by old still now block sent same is added) (one_sent extend orderly largest law run block now held runs.cache_is.legal told.0 told.1)

pub begun_kept : {A D : Type 0} {others : Bool} → StatesExtend → ImagesStay → DisksStay → (g : Ghosts D) (run : Execution) (block : ℕ) (old still now : Contents) (sent : Bool) (flights held : Flights A) (device : D)
    → still ≡ old → sent ≡ true → now.trace ≡ still.trace ++ begun block sent → (RunsBeside others still flights run → IsSentOr others run block sent now held) → RunsBeside others old flights run → HasKept g run (steps_since old now) device device
begun_kept extend stay disks g run block old still now sent flights held device same is added one runs =
    let told = sent_still run block old still now sent flights held same is one runs in
    keeps_by g run old now (Send block ∷ []) device device (begun_by old still now block sent same is added)
    (kept_aside g run (Send block ∷ []) device (λ contents. one_stayed extend stay disks run block contents runs.cache_is.legal told.1.cache_is.legal))

pub begun_few : (block : ℕ) (sent : Bool) → count_by is_send (begun block sent) ≤ 1
begun_few block true = omega arith
begun_few block false = omega arith

-- how many writes began where one did and nothing behind it
pub begun_sends : (old still mid now : Contents) (block : ℕ) (sent : Bool) → still ≡ old → mid.trace ≡ still.trace ++ begun block sent → Continues mid now
    → count_by is_send (steps_since old now) ≡ count_by is_send (begun block sent) + count_by is_send (steps_since mid now)
begun_sends old still mid now block sent same is more =
    let added : mid.trace ≡ old.trace ++ begun block sent = is ∙ ap (λ (x : Contents). x.trace ++ begun block sent) same in
    sends_since old mid now (continues old mid (begun block sent) added) more ∙ ap (λ s. count_by is_send s + count_by is_send (steps_since mid now)) (since_is old mid (begun block sent) added)

-- where none was held, and the one that was begun is completed
pub one_written : {A : Type 0} (block : ℕ) (sent : Bool) (old still mid now : Contents) (flights held : Flights A) → still ≡ old → sent ≡ true → mid.trace ≡ still.trace ++ begun block sent → held_by flights ≡ []
    → HoldsBegun block sent flights held → Continues mid now → EndsOne held mid now → steps_since old now ≡ Send block ∷ Complete block ∷ []
one_written block false old still mid now flights held same is trace empty more so_far ends = absurd (cc)
one_written block true old still mid now flights held same is trace empty more so_far ends =
    let added = begun_by old still mid block true same is trace in
    since_both old mid now (continues old mid (Send block ∷ []) added) so_far ∙ ap (λ s. s ++ steps_since mid now) (since_is old mid (Send block ∷ []) added)
    ∙ ap (λ s. Send block ∷ s) (ends more.0 (more.2 ∙ ap (λ xs. xs ++ more.0 ∷ []) empty)) ∙ ap (λ b. Send block ∷ Complete b ∷ []) more.1

-- one block more of a pass
one_passed : {A : Type 0} (others : Bool) (run : Execution) (at : ℕ) (before more : Bool) (steps : List Step) (now : Contents) (held : Flights A) → IsPassTo run at before steps → IsSentOr others (followed_by run steps) at more now held
    → IsPassTo run (at + 1) (before || more) (steps ++ begun at more)
one_passed others run at true true steps now held pass one = let both = count-append is_send steps (begun at true) in omega (arith, both, pass)
one_passed others run at true false steps now held pass one = let both = count-append is_send steps (begun at false) in omega (arith, both, pass)
one_passed others run at false true steps now held pass one =
    let both = count-append is_send steps (begun at true) in
    let some : count_by is_send (begun at true) ≡ 1 = refl in omega (arith, both, some)
one_passed others run at false false steps now held pass one = (
  append-nil steps ∙ pass.0,
  λ b within why. elim (cases_eq b at) [
    | inl same ↦ one.0 (subst (λ n. why_not_sent (followed_by run steps) n ≡ None) same (subst (λ r. why_not_sent r b ≡ None) (sym (same_run run steps pass.0)) why))
    | inr other ↦ pass.1 b (omega arith) why
  ],
)

pub pass_more : {A : Type 0} {others : Bool} → StatesExtend → ImagesStay → DisksStay → OrderlyLaw → LargestLaw → SentLaw → (run : Execution) (at : ℕ) (before more : Bool) (steps : List Step) (mid now : Contents) (held held_now : Flights A)
    → Passed others run at before steps mid held → IsSentOr others (followed_by run steps) at more now held_now
    → Passed others run (at + 1) (before || more) (steps ++ begun at more) now held_now
pass_more {others = others} extend stay disks orderly largest law run at before more steps mid now held held_now first one =
    let legal = first.gone.runs.cache_is.legal in record {
      gone = gone_both run steps (begun at more) mid now held held_now first.gone (one_gone extend orderly largest law (followed_by run steps) at more now held_now legal one);
      stayed = λ contents. stayed_both run steps (begun at more) contents (first.stayed contents) (maybe_stayed extend stay disks others (followed_by run steps) at more now held_now contents legal one);
      pass = one_passed others run at before more steps now held_now first.pass one;
    }

pub pass_begun : {A : Type 0} {others : Bool} (run : Execution) (cache : Contents) (flights : Flights A) → RunsBeside others cache flights run → Passed others run 0 false [] cache flights
pass_begun run cache flights runs = record { gone = gone_still run cache flights runs; stayed = λ contents. stayed_still run contents; pass = (refl, λ b within why. omega (arith, within)) }

-- a pass up to one block is one up to another, if the blocks between are shut
pub pass_skipped : RingLaw → FlyingLaw → SentLaw → {A : Type 0} {others : Bool} → (run : Execution) (from at : ℕ) (sent : Bool) (steps : List Step) (cache : Contents) (flights : Flights A)
    → ((all : List Entry) → IsGraphOf cache.graph all → HasNoRing all → (b : ℕ) → from ≤ b → b < at → IsShut all b) → Passed others run from sent steps cache flights → Passed others run at sent steps cache flights
pass_skipped ring flying law run from at true steps cache flights none first = record { gone = first.gone; stayed = first.stayed; pass = first.pass }
pass_skipped ring flying law run from at false steps cache flights none first =
    let same = same_run run steps first.pass.0 in
    let is = first.gone.runs.cache_is in
    let legal : IsLegal run = subst IsLegal same is.legal in
    let shut = none (entries_of run) (subst (λ r. IsGraphOf cache.graph (entries_of r)) same is.graph) (λ x y apart to back. ring run x y legal to back) in record {
      gone = first.gone;
      stayed = first.stayed;
      pass = (first.pass.0, λ b within why. none_between flying run from b legal (λ n this. ((law run n).0 this).0) first.pass.1 (λ over. shut b over within) why);
    }

pub pass_ended : SentLaw → (run : Execution) (at : ℕ) (sent : Bool) (steps : List Step) → length run.first ≤ at → IsPassTo run at sent steps → IsPass run sent steps
pass_ended law run at true steps all pass = pass
pass_ended law run at false steps all pass = (pass.0, λ b why. let may = ((law run b).0 why).0 in pass.1 b (omega (arith, may, all)) why)

-- Nothing is left.

same_number : (a : ℕ) → (a == a) ≡ true
same_number a = grind (arith, nat_tests)

none_flying : (fs : List (ℕ × ℕ)) → ((b : ℕ) → list_any (λ (f : ℕ × ℕ). f.0 == b) fs ≡ false) → fs ≡ []
none_flying [] none = refl
none_flying (f ∷ fs) none =
    let here : (f.0 == f.0) ≡ true = same_number f.0 in
    let no : true ≡ false = rw here at (none f.0) in absurd (cc)

pub none_held : {A : Type 0} (run : Execution) (held : List (Held A)) → AreFlightsOf run held → held ≡ [] → (b : ℕ) → has_flight (state_of run) b ≡ false
none_held {A = A} run held are empty b = elim (cases_Bool (has_flight (state_of run) b)) [
  | inl flies ↦ let h = are.all refl b flies in absurd (subst (λ (xs : List (Held A)). In xs h.0) empty h.1)
  | inr none ↦ none
]

by_mark : (m : Mark) → (marks_memory m ≡ true → ⊥) → (marks_flight m ≡ true → ⊥) → not (marks_durable m) ≡ false
by_mark Memory a b = absurd (a refl)
by_mark Flight a b = absurd (b refl)
by_mark Durable a b = refl

abbrev pub SomeLaw : Type 0
SomeLaw = (run : Execution) (e : Entry) → IsLegal run → (state_of run).flights ≡ [] → Contains (entries_of run) e → IsTrue (is_memory e)
    → (block : ℕ) × (block < length run.first) × (ready (entries_of run) block ≢ [])

abbrev pub PlacedLaw : Type 0
PlacedLaw = (run : Execution) (e : Entry) → IsLegal run → Contains (entries_of run) e → IsTrue (is_flight e) → IsTrue (has_flight (state_of run) e.patch.block)

pub flushed : {A : Type 0} → SomeLaw → PlacedLaw → SentLaw → (run : Execution) (cache : Contents) (flights : Flights A) → Runs cache flights run → held_by flights ≡ [] → ((b : ℕ) → why_not_sent run b ≡ None → ⊥) → IsFlushed run
flushed some placed law run cache flights runs empty none =
    let no_flight = none_held run (held_by flights) runs.flights_are empty in
    record {
      none = λ e inside. by_mark e.mark
          (λ t. let r = some run e runs.cache_is.legal (none_flying (state_of run).flights no_flight) inside t in none r.0 ((law run r.0).1 (r.1, (no_flight r.0, r.2))))
          (λ t. let flies : has_flight (state_of run) e.patch.block ≡ true = placed run e runs.cache_is.legal inside t in let no = no_flight e.patch.block in absurd (cc));
      no_flight = no_flight;
    }

-- How many.

lives_by : (m : Mark) → marks_memory m ≡ true → not (marks_durable m) ≡ true
lives_by Memory t = refl
lives_by Flight t = refl
lives_by Durable t = absurd (cc)

pub few_classes : (all : List Entry) → classes_in_memory all ≤ count_by is_live all
few_classes all = count_le (λ e. is_memory e && e.patch.no == e.class) is_live all (λ e i t. lives_by e.mark (and_parts _ _ t).0)

pub passed_none : (run : Execution) (b : Bool) (steps : List Step) → b ≡ false → IsPass run b steps → (steps ≡ []) × ((n : ℕ) → why_not_sent run n ≡ None → ⊥)
passed_none run true steps e pass = absurd (cc)
passed_none run false steps e pass = pass

pub passed_some : (run : Execution) (b : Bool) (steps : List Step) → b ≡ true → IsPass run b steps → 0 < count_by is_send steps
passed_some run true steps e pass = pass
passed_some run false steps e pass = absurd (cc)

-- nothing is left after a stretch behind which none can begin
pub flushed_after : {A : Type 0} → SomeLaw → PlacedLaw → SentLaw → (run : Execution) (a s : List Step) (cache : Contents) (flights : Flights A) → Runs cache flights (followed_by run (a ++ s)) → held_by flights ≡ []
    → s ≡ [] → ((b : ℕ) → why_not_sent (followed_by run a) b ≡ None → ⊥) → IsFlushed (followed_by run (a ++ s))
flushed_after some placed law run a s cache flights runs empty none ready_not =
    let same : followed_by run (a ++ s) ≡ followed_by run a = ap (λ x. followed_by run (a ++ x)) none ∙ ap (λ x. followed_by run x) (append-nil a) in
    subst IsFlushed (sym same) (flushed some placed law (followed_by run a) cache flights (subst (Runs cache flights) same runs) empty ready_not)

pub flushed_still : (run : Execution) → IsFlushed run → IsFlushed (followed_by run [])
flushed_still run f = subst IsFlushed (sym (same_run run [] refl)) f

pub neither : (a b : Bool) → (a || b) ≡ false → (a ≡ false) × (b ≡ false)
neither true b e = absurd (cc)
neither false b e = (refl, e)

pub live_of_memory : (all : List Entry) → classes_in_memory all ≤ live_classes all
live_of_memory all = count_le (λ e. is_memory e && e.patch.no == e.class) (λ e. is_live e && e.patch.no == e.class) all (λ e i t. and_from _ _ (lives_by e.mark (and_parts _ _ t).0) (and_parts _ _ t).1)

-- The disk at last.

all_pass : (p : Entry → Bool) (es : List Entry) → ((e : Entry) → In es e → p e ≡ true) → filter p es ≡ es
all_pass p [] pass = refl
all_pass p (e ∷ es) pass = rw (pass e (inl refl)) (ap (λ xs. e ∷ xs) (all_pass p es (λ f i. pass f (inr i))))

durable_rests : (m : Mark) → not (marks_durable m) ≡ false → not (marks_memory m) ≡ true
durable_rests Memory d = absurd (cc)
durable_rests Flight d = refl
durable_rests Durable d = refl

pub cached_last : (run : Execution) (block : ℕ) → IsFlushed run → image (history_of run block) ≡ cached (history_of run block)
cached_last run block f =
    let h = history_of run block in
    let images = all_pass (λ e. not (is_memory e)) h.entries
    (λ e i. durable_rests e.mark (f.none e (Contains-from_In (entries_of run) e (filter-In (λ x. x.patch.block == block) (entries_of run) e i).0))) in
    let all = all_pass (λ e. not (is_among [] e.class)) h.entries (λ e i. refl) in
    ap (λ es. pile h.first (map (λ e. e.patch) es)) (images ∙ sym all)

-- one block, of which no write has begun
pub sent_false : {A : Type 0} {others : Bool} (run : Execution) (block : ℕ) (b : Bool) (cache : Contents) (flights : Flights A) → b ≡ false → IsSentOr others run block b cache flights → (why_not_sent run block ≢ None) × RunsBeside others cache flights run
sent_false run block true cache flights e h = absurd (cc)
sent_false run block false cache flights e h = h

pub none_begun : (old still now : Contents) (block : ℕ) (sent : Bool) → still ≡ old → sent ≡ false → now.trace ≡ still.trace ++ begun block sent → now.trace ≡ old.trace ++ []
none_begun old still now block sent same is added = added ∙ ap (λ b. still.trace ++ begun block b) is ∙ ap (λ (x : Contents). x.trace ++ []) same

pub unsent_still : {A : Type 0} {others : Bool} (run : Execution) (block : ℕ) (old still now : Contents) (sent : Bool) (flights held : Flights A) → still ≡ old → sent ≡ false → (RunsBeside others still flights run → IsSentOr others run block sent now held) → RunsBeside others old flights run
    → (why_not_sent run block ≢ None) × RunsBeside others now held run
unsent_still {others = others} run block old still now sent flights held same is one runs = sent_false run block sent now held is (one (subst (λ (x : Contents). RunsBeside others x flights run) (sym same) runs))
