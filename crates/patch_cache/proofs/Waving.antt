-- Stretches of writes, one after another.
use Rattle.std.proofs.Common.{◌≡◌, ◌≢◌, ℕ, zero, suc, Bool, true, false, ◌+◌, ◌*◌, ◌<◌, ◌≤◌, inl, inr, Result, Ok, Err, OnOk, OnErr, ◌∙◌, Some, List, [], ◌∷◌, ◌++◌, length, map, filter, take, drop, refl, sym, ap, subst, arith, append_assoc, get_or, set, slice_set}
use Rattle.std.specs.Prelude.{◌==◌, ◌&&◌, ◌||◌, ◌⊎◌, not, IfErr, IsErrAnd, is_ok, count_by, slice_index_or, slice_get, IsTrue, Contains}
use Rattle.std.specs.List.{list_any}
use Rattle.std.proofs.Math.Seq.{drop-append_seam}
use Rattle.std.proofs.lemmas.List.{append-nil, nil_from_length, take_more, get_or-set_same, get_or-set_other, set-get_or, length-set}
use Rattle.std.proofs.lemmas.List.Folds.{list_all-append, list_any-append}
use Rattle.std.proofs.lemmas.List.FromFn.{length-map-range_with_len}
use Rattle.std.proofs.lemmas.Bool.{cases_Bool, cases_eq, and_parts, and_from}
use Rattle.std.proofs.lemmas.Bool.Decides.{nat_tests}
use Rattle.std.proofs.lemmas.Option.{slice_get-get_or}
use Rattle.patch_model.specs.Step.{Step, Send, Complete}
use Rattle.patch_model.specs.Execution.{Execution, extended, followed_by}
use Rattle.patch_model.specs.Entry.{Entry, is_memory, is_flight}
use Rattle.patch_model.specs.State.{state_of, entries_of, has_flight, sent, landed}
use Rattle.patch_model.specs.Ready.{ready, has, IsLargestWritable}
use Rattle.patch_model.specs.Orderly.{IsOrderly}
use Rattle.patch_model.specs.History.{history_of, image, pile_of}
use Rattle.patch_model.specs.Crash.{MayLeave, crash_set}
use Rattle.patch_model.specs.Member.{In, In-from_Contains, Contains-from_In, In-filter, list_any-from, list_any-at}
use Rattle.patch_device.specs.Device.{HasRisen, IsOldOrNew, Elapses, LeavesNoMore, most_faults}
use Rattle.patch_device.specs.SameDevice.{LeavesOnly, IsLasting, may_leave}
use Rattle.patch_device.specs.declared.devices.Device.{Ghosts}
use Rattle.patch_cache.specs.Contents.{Contents}
use Rattle.patch_cache.specs.Meaning.{IsCacheOf}
use Rattle.patch_cache.specs.Running.{RunsBeside, IsCrashSafe, held_by}
use Rattle.patch_cache.specs.Waves.{is_send, is_write, steps_since, Continues, classes_in_memory, HasRisenBy, HoldImages, HasGoneOnBeside, HasKept, HasStayed, KeepsDiskBeside, StaysBeside, HoldFlights, AreImages, AreOnDevice, with_flights, EndsFirst, EndsOne}
use Rattle.patch_cache.specs.Refused.{IsRefused, AreRefused, HasRefusedHeld, IfGivenUp}
use Rattle.patch_cache.specs.declared.landing.TheConstants.{TRIES}
use Rattle.patch_cache.specs.declared.flights.Flights.{Flights}
use Rattle.patch_cache.specs.declared.refusals.FlushRefusal.{FlushRefusal}
use Rattle.patch_cache.specs.declared.refusals.FlushRefusal.TheVariants as flush
use Rattle.patch_cache.proofs.Crashing.{WritesEnd, joined, unmoved, unmoved_steps, synced}
use Rattle.patch_cache.proofs.HeldFlights.{StatesExtend, ImagesStay, in_get, held_flies, flying_known}
use Rattle.patch_cache.proofs.Answering.{Stands}
use Rattle.patch_cache.specs.Flights.{AreFlightsBeside}
use Rattle.patch_cache.specs.declared.flights.Flight.{Flight}
use Rattle.patch_cache.specs.declared.flights.Landed.{Landed}
use Rattle.patch_model.specs.Legal.{IsLegal}
use Rattle.patch_cache.proofs.Counting.{count-append, count-map_le, count-map_lt}

-- Tries of one write.

set_again : {X : Type 0} → (xs : List X) (n : ℕ) (x : X) → set (set xs n x) n x ≡ set xs n x
set_again [] n x = refl
set_again (y ∷ ys) zero x = refl
set_again (y ∷ ys) (suc n) x = ap (λ zs. y ∷ zs) (set_again ys n x)

pub written_again : (old mid new : List (List ℕ)) (n : ℕ) (bytes : List ℕ) → IsOldOrNew old n bytes mid → new ≡ slice_set mid n bytes → new ≡ slice_set old n bytes
written_again old mid new n bytes (inl same) now = now ∙ ap (λ d. slice_set d n bytes) same
written_again old mid new n bytes (inr done) now = now ∙ ap (λ d. slice_set d n bytes) done ∙ set_again old n bytes

pub either_again : (old mid new : List (List ℕ)) (n : ℕ) (bytes : List ℕ) → IsOldOrNew old n bytes mid → IsOldOrNew mid n bytes new → IsOldOrNew old n bytes new
either_again old mid new n bytes first (inl same) = elim first [ inl e ↦ inl (same ∙ e) | inr e ↦ inr (same ∙ e) ]
either_again old mid new n bytes first (inr done) = inr (written_again old mid new n bytes first done)

pub risen_again : (i old mid new : ℕ) → HasRisenBy i old mid → HasRisen mid new → new ≤ most_faults → HasRisenBy (i + 1) old new
risen_again i old mid new (inl h) (inl up) fits = inl (omega arith)
risen_again i old mid new (inr h) (inl up) fits = let top : mid ≡ most_faults = h in absurd (omega (arith, top))
risen_again i old mid new h (inr top) fits = inr top.1

-- one write more was refused
pub refused_again : {D : Type 0} (g : Ghosts D) (block n : ℕ) (bytes : List ℕ) (before mid now : D) → AreRefused g block bytes n before mid → IsRefused g block bytes mid now → AreRefused g block bytes (n + 1) before now
refused_again {D = D} g block n bytes before mid now so_far one =
    let next : suc n ≡ n + 1 = omega arith in
    let all : AreRefused g block bytes (suc n) before now = (mid, so_far, one) in subst (λ m. AreRefused g block bytes m before now) next all

abbrev same_run : (run : Execution) → followed_by run [] ≡ run
same_run run = ap (λ steps. let v : Execution = record { first = run.first; steps = steps } in v) (append-nil run.steps)

pub joined_still : {D : Type 0} (g : Ghosts D) (a b : Execution) (before mid now : D) → IsCrashSafe g a b before mid → IsCrashSafe g b b mid now → IsCrashSafe g a b before now
joined_still g a b before mid now first second = joined g a b b [] before mid now (sym (same_run b)) first second

-- what is told of a refused write where the answer is
pub given_so : {A D T : Type 0} (g : Ghosts D) (r : Result T FlushRefusal) (block : ℕ) (flights : Flights A) (before now : D) → IsErrAnd r (λ f. f ≡ flush.DeviceGaveUp block) → HasRefusedHeld g block (held_by flights) before now
    → IfGivenUp g r flights before now
given_so g (Ok x) block flights before now is told = absurd is
given_so {T = T} g (Err x) block flights before now is told = subst (λ f. IfGivenUp {T = T} g (Err f) flights before now) (sym is) told

-- what is known of an error is known of the answer that is made of it
pub told_so : {T E : Type 0} (r : Result T E) (e : E) (P : E → Type 0) → IsErrAnd r (λ f. f ≡ e) → P e → IfErr r P
told_so (Ok x) e P is p = absurd is
told_so (Err x) e P is p = subst P (sym is) p

-- Steps of traces.

-- those that were added are those since
pub since_is : (old now : Contents) (steps : List Step) → now.trace ≡ old.trace ++ steps → steps_since old now ≡ steps
since_is old now steps added = ap (λ t. drop (length old.trace) t) added ∙ drop-append_seam old.trace steps

pub continues : (old now : Contents) (steps : List Step) → now.trace ≡ old.trace ++ steps → Continues old now
continues old now steps added = added ∙ ap (λ s. old.trace ++ s) (sym (since_is old now steps added))

-- nothing was added
pub none_added : (old now : Contents) → now ≡ old → now.trace ≡ old.trace ++ []
none_added old now same = ap (λ c. c.trace) same ∙ sym (append-nil old.trace)

pub no_sends : (old now : Contents) (steps : List Step) → now.trace ≡ old.trace ++ steps → count_by is_send steps ≡ 0 → count_by is_send (steps_since old now) ≡ 0
no_sends old now steps added none = ap (λ s. count_by is_send s) (since_is old now steps added) ∙ none

joined_trace : (old mid now : Contents) → Continues old mid → Continues mid now → now.trace ≡ old.trace ++ (steps_since old mid ++ steps_since mid now)
joined_trace old mid now first second = second ∙ ap (λ t. t ++ steps_since mid now) first ∙ append_assoc old.trace (steps_since old mid) (steps_since mid now)

-- and those of two stretches, one after another
pub since_both : (old mid now : Contents) → Continues old mid → Continues mid now → steps_since old now ≡ steps_since old mid ++ steps_since mid now
since_both old mid now first second = since_is old now (steps_since old mid ++ steps_since mid now) (joined_trace old mid now first second)

pub continues_both : (old mid now : Contents) → Continues old mid → Continues mid now → Continues old now
continues_both old mid now first second = continues old now (steps_since old mid ++ steps_since mid now) (joined_trace old mid now first second)

-- Stretches.

-- no step
pub gone_still : {A : Type 0} {others : Bool} (run : Execution) (cache : Contents) (flights : Flights A) → RunsBeside others cache flights run → HasGoneOnBeside others run [] cache flights
gone_still {others = others} run cache flights runs = record {
  writes = refl;
  sends = subst (λ r. 0 + classes_in_memory (entries_of r) ≤ classes_in_memory (entries_of run)) (sym (same_run run)) (omega arith);
  runs = subst (RunsBeside others cache flights) (sym (same_run run)) runs;
}

-- a write that begins
pub gone_send : {A : Type 0} {others : Bool} (run : Execution) (block : ℕ) (cache : Contents) (flights : Flights A) → classes_in_memory (entries_of (extended run (Send block))) < classes_in_memory (entries_of run)
    → RunsBeside others cache flights (extended run (Send block)) → HasGoneOnBeside others run (Send block ∷ []) cache flights
gone_send run block cache flights fewer runs = record { writes = refl; sends = omega (arith, fewer); runs = runs }

-- and one that ends
pub gone_complete : {A : Type 0} {others : Bool} (run : Execution) (block : ℕ) (cache : Contents) (flights : Flights A) → classes_in_memory (entries_of (extended run (Complete block))) ≤ classes_in_memory (entries_of run)
    → RunsBeside others cache flights (extended run (Complete block)) → HasGoneOnBeside others run (Complete block ∷ []) cache flights
gone_complete run block cache flights fewer runs = record { writes = refl; sends = omega (arith, fewer); runs = runs }

abbrev flat : (run : Execution) (a b : List Step) → followed_by (followed_by run a) b ≡ followed_by run (a ++ b)
flat run a b = ap (λ steps. let v : Execution = record { first = run.first; steps = steps } in v) (append_assoc run.steps a b)

-- one stretch after another
pub gone_both : {A : Type 0} {others : Bool} (run : Execution) (a b : List Step) (mid now : Contents) (before flights : Flights A)
    → HasGoneOnBeside others run a mid before → HasGoneOnBeside others (followed_by run a) b now flights → HasGoneOnBeside others run (a ++ b) now flights
gone_both {others = others} run a b mid now before flights first second =
    let to = flat run a b in record {
      writes = list_all-append is_write a b ∙ and_from _ _ first.writes second.writes;
      sends =
          let both = count-append is_send a b in
          let one = first.sends in
          let two : count_by is_send b + classes_in_memory (entries_of (followed_by run (a ++ b))) ≤ classes_in_memory (entries_of (followed_by run a)) =
          subst (λ r. count_by is_send b + classes_in_memory (entries_of r) ≤ classes_in_memory (entries_of (followed_by run a))) to second.sends in omega (arith, both, one, two);
      runs = subst (RunsBeside others now flights) to second.runs;
    }

-- What they keep of a device.

-- no step, on a device that is as before or has had tries
pub kept_still : {D : Type 0} (g : Ghosts D) (run : Execution) (before now : D) → (LeavesOnly g before (MayLeave run) → IsCrashSafe g run run before now)
    → (HoldImages run (g.contents before) → HoldImages run (g.contents now)) → HasKept g run [] before now
kept_still g run before now safe held = record {
  crash = λ left. subst (λ r. IsCrashSafe g run r before now) (sym (same_run run)) (safe left);
  images = λ images. subst (λ r. HoldImages r (g.contents now)) (sym (same_run run)) (held images);
}

pub kept_unmoved : {D : Type 0} (g : Ghosts D) (run : Execution) (device : D) → HasKept g run [] device device
kept_unmoved g run device = kept_still g run device device (λ left. unmoved g run device left) (λ images. images)

-- one stretch after another
pub kept_both : {D : Type 0} (g : Ghosts D) (run : Execution) (a b : List Step) (before mid now : D)
    → HasKept g run a before mid → HasKept g (followed_by run a) b mid now → HasKept g run (a ++ b) before now
kept_both g run a b before mid now first second =
    let to = flat run a b in record {
      crash = λ left.
          let one = first.crash left in
          subst (λ r. IsCrashSafe g run r before now) to (joined g run (followed_by run a) (followed_by (followed_by run a) b) b before mid now refl one (second.crash one.left));
      images = λ images. subst (λ r. HoldImages r (g.contents now)) to (second.images (first.images images));
    }

pub kept_more : {D : Type 0} (g : Ghosts D) (run : Execution) (before mid now : D) → HasKept g run [] before mid → HasKept g run [] mid now → HasKept g run [] before now
kept_more g run before mid now first second = kept_both g run [] [] before mid now first (subst (λ r. HasKept g r [] mid now) (sym (same_run run)) second)

-- and of any blocks
pub stayed_still : (run : Execution) (contents : List (List ℕ)) → HasStayed run [] contents
stayed_still run contents = record {
  crash = λ left. subst (λ r. MayLeave r contents) (sym (same_run run)) left;
  images = λ images. subst (λ r. HoldImages r contents) (sym (same_run run)) images;
}

pub stayed_both : (run : Execution) (a b : List Step) (contents : List (List ℕ)) → HasStayed run a contents → HasStayed (followed_by run a) b contents → HasStayed run (a ++ b) contents
stayed_both run a b contents first second =
    let to = flat run a b in record {
      crash = λ left. subst (λ r. MayLeave r contents) to (second.crash (first.crash left));
      images = λ images. subst (λ r. HoldImages r contents) to (second.images (first.images images));
    }

-- what any blocks keep a device keeps that nothing was done to
pub kept_aside : {D : Type 0} (g : Ghosts D) (run : Execution) (steps : List Step) (device : D) → ((contents : List (List ℕ)) → HasStayed run steps contents) → HasKept g run steps device device
kept_aside g run steps device stayed = record {
  crash = λ left. unmoved_steps g run steps device (λ disk may. (stayed disk).crash (left disk may));
  images = λ images. (stayed (g.contents device)).images images;
}

-- and one that lasts as it stands, where its own blocks do
pub kept_lasting : {D : Type 0} (g : Ghosts D) (run : Execution) (steps : List Step) (device : D) → IsLasting g device → may_leave g device (g.contents device) → HasStayed run steps (g.contents device)
    → HasKept g run steps device device
kept_lasting g run steps device lasts all_may stayed = record {
  crash = λ left. unmoved_steps g run steps device (λ disk may. subst (MayLeave (followed_by run steps)) (sym (lasts disk may)) (stayed.crash (left (g.contents device) all_may)));
  images = λ images. stayed.images images;
}

-- Caches that went on.

pub went_by : {A : Type 0} {others : Bool} (run : Execution) (old now : Contents) (steps : List Step) (flights : Flights A) → now.trace ≡ old.trace ++ steps → HasGoneOnBeside others run steps now flights
    → HasGoneOnBeside others run (steps_since old now) now flights
went_by {others = others} run old now steps flights added gone = subst (λ s. HasGoneOnBeside others run s now flights) (sym (since_is old now steps added)) gone

pub keeps_by : {D : Type 0} (g : Ghosts D) (run : Execution) (old now : Contents) (steps : List Step) (before after : D) → now.trace ≡ old.trace ++ steps
    → HasKept g run steps before after → HasKept g run (steps_since old now) before after
keeps_by g run old now steps before after added kept = subst (λ s. HasKept g run s before after) (sym (since_is old now steps added)) kept

pub stays_by : (run : Execution) (old now : Contents) (steps : List Step) (contents : List (List ℕ)) → now.trace ≡ old.trace ++ steps → HasStayed run steps contents → HasStayed run (steps_since old now) contents
stays_by run old now steps contents added stayed = subst (λ s. HasStayed run s contents) (sym (since_is old now steps added)) stayed

-- and twice

pub went_both : {A : Type 0} {others : Bool} (run : Execution) (old mid now : Contents) (before flights : Flights A) → Continues old mid → Continues mid now
    → HasGoneOnBeside others run (steps_since old mid) mid before → HasGoneOnBeside others (followed_by run (steps_since old mid)) (steps_since mid now) now flights
    → HasGoneOnBeside others run (steps_since old now) now flights
went_both {others = others} run old mid now before flights one two first second =
    subst (λ s. HasGoneOnBeside others run s now flights) (sym (since_both old mid now one two)) (gone_both run (steps_since old mid) (steps_since mid now) mid now before flights first second)

pub keeps_both : {A D : Type 0} {others : Bool} (g : Ghosts D) (old mid now : Contents) (at before : Flights A) (first between last : D)
    → Continues old mid → Continues mid now → ((run : Execution) → RunsBeside others old at run → HasGoneOnBeside others run (steps_since old mid) mid before)
    → KeepsDiskBeside g others old mid at first between → KeepsDiskBeside g others mid now before between last
    → KeepsDiskBeside g others old now at first last
keeps_both g old mid now at before first between last one two gone kept more run runs =
    subst (λ s. HasKept g run s first last) (sym (since_both old mid now one two))
    (kept_both g run (steps_since old mid) (steps_since mid now) first between last (kept run runs) (more (followed_by run (steps_since old mid)) (gone run runs).runs))

pub keeps_aside : {A D : Type 0} {others : Bool} (g : Ghosts D) (old now : Contents) (flights : Flights A) (device : D) → StaysBeside others old now flights → KeepsDiskBeside g others old now flights device device
keeps_aside g old now flights device stays run runs = kept_aside g run (steps_since old now) device (λ contents. stays run contents runs)

pub stays_both : (run : Execution) (old mid now : Contents) (contents : List (List ℕ)) → Continues old mid → Continues mid now
    → HasStayed run (steps_since old mid) contents → HasStayed (followed_by run (steps_since old mid)) (steps_since mid now) contents → HasStayed run (steps_since old now) contents
stays_both run old mid now contents one two first second =
    subst (λ s. HasStayed run s contents) (sym (since_both old mid now one two)) (stayed_both run (steps_since old mid) (steps_since mid now) contents first second)

-- Steps behind a stretch.
pub since_more : (old mid now : Contents) (steps : List Step) → Continues old mid → now.trace ≡ mid.trace ++ steps → steps_since old now ≡ steps_since old mid ++ steps
since_more old mid now steps one added = since_both old mid now one (continues mid now steps added) ∙ ap (λ s. steps_since old mid ++ s) (since_is mid now steps added)

-- where the cache and the flights are as before
pub runs_same : {A : Type 0} {others : Bool} (run : Execution) (old now : Contents) (flights flights_now : Flights A) → now ≡ old → held_by flights_now ≡ held_by flights → RunsBeside others old flights run → RunsBeside others now flights_now run
runs_same {others = others} run old now flights flights_now same held runs =
    record { cache_is = subst (λ (x : Contents). IsCacheOf x run) (sym same) runs.cache_is; flights_are = subst (AreFlightsBeside others run) (sym held) runs.flights_are }

pub gone_same : {A : Type 0} {others : Bool} (run : Execution) (old mid now : Contents) (flights flights_now : Flights A) → now ≡ mid → held_by flights_now ≡ held_by flights
    → HasGoneOnBeside others run (steps_since old mid) mid flights → HasGoneOnBeside others run (steps_since old now) now flights_now
gone_same {others = others} run old mid now flights flights_now same held gone =
    subst (λ (x : Contents). HasGoneOnBeside others run (steps_since old x) x flights_now) (sym same)
    (record { writes = gone.writes; sends = gone.sends; runs = runs_same (followed_by run (steps_since old mid)) mid mid flights flights_now refl held gone.runs })

-- how many writes began in both
pub sends_since : (old mid now : Contents) → Continues old mid → Continues mid now
    → count_by is_send (steps_since old now) ≡ count_by is_send (steps_since old mid) + count_by is_send (steps_since mid now)
sends_since old mid now one two =
    ap (λ s. count_by is_send s) (since_both old mid now one two) ∙ count-append is_send (steps_since old mid) (steps_since mid now)

-- Classes in memory.

abbrev heads : Entry → Bool
heads e = is_memory e && e.patch.no == e.class

sent_heads : (taken : List Entry) (e : Entry) → heads (sent taken e) ≡ true → heads e ≡ true
sent_heads taken e t = elim (cases_Bool (has taken e)) [
  | inl u ↦ let no : false ≡ true = rw u at t in absurd (cc)
  | inr u ↦ rw u at t
]

sent_head : (taken : List Entry) (e : Entry) → has taken e ≡ true → heads (sent taken e) ≡ false
sent_head taken e u = rw u refl

landed_heads : (block : ℕ) (e : Entry) → heads (landed block e) ≡ true → heads e ≡ true
landed_heads block e t = elim (cases_Bool (is_flight e && e.patch.block == block)) [
  | inl u ↦ let no : false ≡ true = rw u at t in absurd (cc)
  | inr u ↦ rw u at t
]

first_of : (xs : List Entry) → xs ≢ [] → (x : Entry) × In xs x
first_of [] some = absurd (some refl)
first_of (x ∷ xs) some = (x, inl refl)

same_number : (a b : ℕ) → a ≡ b → (a == b) ≡ true
same_number a b e = grind (arith, nat_tests)

pub is_same : (a b : ℕ) → (a == b) ≡ true → a ≡ b
is_same a b e = grind (arith, nat_tests)

is_other : (a b : ℕ) → (a == b) ≡ false → a ≢ b
is_other a b e = grind (arith, nat_tests)

other_number : (a b : ℕ) → a ≢ b → not (a == b) ≡ true
other_number a b e = grind (arith, nat_tests)

-- a write takes a class out of memory
pub fewer_sent : StatesExtend → (run : Execution) (block : ℕ) → IsOrderly (entries_of run) → IsLargestWritable (entries_of run) block (ready (entries_of run) block) → ready (entries_of run) block ≢ []
    → classes_in_memory (entries_of (extended run (Send block))) < classes_in_memory (entries_of run)
fewer_sent extend run block orderly largest some =
    let all : List Entry = entries_of run in
    let taken : List Entry = ready all block in
    let r = first_of taken some in
    let inside = Contains-from_In taken r.0 r.1 in
    let own = orderly.own r.0 (largest.writable.in_memory r.0 inside).0 in
    let head : Entry = own.0 in
    let among = largest.writable.whole r.0 head inside own.1.inside own.1.name in
    let named : (head.patch.no == head.class) ≡ true = same_number head.patch.no head.class (own.1.number ∙ sym own.1.name) in
    let rests : is_memory head ≡ true = (and_parts _ _ (largest.writable.in_memory head among).1).0 in
    let hit : has taken head ≡ true = list_any-from (λ f. f.patch.no == head.patch.no) taken head (In-from_Contains taken head among) (same_number head.patch.no head.patch.no refl) in
    let now : entries_of (extended run (Send block)) ≡ map (sent taken) all = ap (λ st. st.entries) (extend run (Send block)) in
    subst (λ es. classes_in_memory es < classes_in_memory all) (sym now)
    (count-map_lt heads (sent taken) all (λ e i t. sent_heads taken e t) head (In-from_Contains all head own.1.inside) (and_from _ _ rests named) (sent_head taken head hit))

-- and its end puts none there
pub fewer_landed : StatesExtend → (run : Execution) (block : ℕ) → classes_in_memory (entries_of (extended run (Complete block))) ≤ classes_in_memory (entries_of run)
fewer_landed extend run block =
    let now : entries_of (extended run (Complete block)) ≡ map (landed block) (entries_of run) = ap (λ st. st.entries) (extend run (Complete block)) in
    subst (λ es. classes_in_memory es ≤ classes_in_memory (entries_of run)) (sym now) (count-map_le heads (landed block) (entries_of run) (λ e i t. landed_heads block e t))

-- Images on the device.

-- a write that is begun
pub images_sent : StatesExtend → ImagesStay → (run : Execution) (block : ℕ) (contents : List (List ℕ)) → HoldImages run contents → HoldImages (extended run (Send block)) contents
images_sent extend stay run block contents held = record {
  count = held.count;
  images = λ b known none.
      let now : (state_of (extended run (Send block))).flights ≡ (state_of run).flights ++ (block, (state_of run).sends) ∷ [] = ap (λ st. st.flights) (extend run (Send block)) in
      let parts : (list_any (λ (f : ℕ × ℕ). f.0 == b) (state_of run).flights || list_any (λ (f : ℕ × ℕ). f.0 == b) ((block, (state_of run).sends) ∷ [])) ≡ false =
      sym (list_any-append (λ (f : ℕ × ℕ). f.0 == b) (state_of run).flights ((block, (state_of run).sends) ∷ [])) ∙ sym (ap (λ (fs : List (ℕ × ℕ)). list_any (λ f. f.0 == b) fs) now) ∙ none in
      elim (cases_Bool (has_flight (state_of run) b)) [
        | inl flies ↦ (let no : true ≡ false = rw flies at parts in absurd (cc))
        | inr no_flight ↦ elim (cases_Bool (block == b)) [
          | inl same ↦ (let no : true ≡ false = rw (no_flight, same) at parts in absurd (cc))
          | inr other ↦ held.images b known no_flight ∙ sym (stay run (Send block) b (λ e. let same : block ≡ b = cc in is_other block b other same))
        ]
      ];
}

-- a write of a block that flies
pub images_either : (run : Execution) (block : ℕ) (bytes : List ℕ) (contents now : List (List ℕ)) → IsTrue (has_flight (state_of run) block) → IsOldOrNew contents block bytes now → HoldImages run contents
    → HoldImages run now
images_either run block bytes contents now flies (inl same) held = subst (HoldImages run) (sym same) held
images_either run block bytes contents now flies (inr done) held = record {
  count = ap length done ∙ length-set contents block bytes ∙ held.count;
  images = λ b known none.
      let other : b ≢ block = λ e. let here : has_flight (state_of run) block ≡ false = subst (λ n. has_flight (state_of run) n ≡ false) e none in absurd (cc) in
      ap (λ d. slice_index_or d b []) done ∙ get_or-set_other contents block b bytes [] other ∙ held.images b known none;
}

-- and its end
pub images_landed : StatesExtend → ImagesStay → (run : Execution) (block : ℕ) (contents now : List (List ℕ)) → now ≡ slice_set contents block (image (history_of run block)) → HoldImages run contents
    → HoldImages (extended run (Complete block)) now
images_landed extend stay run block contents now done held =
    let next : Execution = extended run (Complete block) in record {
      count = ap length done ∙ length-set contents block (image (history_of run block)) ∙ held.count;
      images = λ b known none. elim (cases_eq b block) [
        | inl same ↦
            let within : block < length contents = let c = held.count in omega (arith, c, known, same) in
            let here : slice_index_or now block [] ≡ image (history_of run block) = ap (λ d. slice_index_or d block []) done ∙ get_or-set_same contents block (image (history_of run block)) [] within in
            subst (λ n. slice_index_or now n [] ≡ image (history_of next n)) (sym same) (here ∙ sym (stay run (Complete block) block (λ e. absurd (cc))))
        | inr other ↦
            let flights : (state_of next).flights ≡ filter (λ (f : ℕ × ℕ). not (f.0 == block)) (state_of run).flights = ap (λ st. st.flights) (extend run (Complete block)) in
            let no_flight : has_flight (state_of run) b ≡ false = elim (cases_Bool (has_flight (state_of run) b)) [
              | inl flies ↦
                  let r = list_any-at (λ (f : ℕ × ℕ). f.0 == b) (state_of run).flights flies in
                  let kept = In-filter (λ (f : ℕ × ℕ). not (f.0 == block)) (state_of run).flights r.0 r.1 (other_number r.0.0 block (λ e. other (sym (is_same r.0.0 b r.2) ∙ e))) in
                  let still : has_flight (state_of next) b ≡ true =
                  ap (λ (fs : List (ℕ × ℕ)). list_any (λ f. f.0 == b) fs) flights ∙ list_any-from (λ (f : ℕ × ℕ). f.0 == b) (filter (λ (f : ℕ × ℕ). not (f.0 == block)) (state_of run).flights) r.0 kept r.2 in
                  absurd (cc)
              | inr g ↦ g
            ] in
            ap (λ d. slice_index_or d b []) done ∙ get_or-set_other contents block b (image (history_of run block)) [] other ∙ held.images b known no_flight ∙ sym (stay run (Complete block) b (λ e. absurd (cc)))
      ];
    }

-- and its end on blocks that hold the image already
pub stayed_landed : StatesExtend → ImagesStay → WritesEnd → (run : Execution) (block : ℕ) (contents : List (List ℕ)) → IsLegal run → block < length run.first
    → slice_index_or contents block [] ≡ image (history_of run block) → HasStayed run (Complete block ∷ []) contents
stayed_landed extend stay ends run block contents legal known there =
    let same : contents ≡ slice_set contents block (image (history_of run block)) = sym (ap (λ bytes. slice_set contents block bytes) (sym there) ∙ set-get_or contents block []) in record {
      crash = λ left. subst (MayLeave (extended run (Complete block))) (sym same) (ends run contents block legal known left);
      images = λ images. images_landed extend stay run block contents contents same images;
    }

-- Blocks with the images of flights.

other_kept : {A : Type 0} (contents : List (List ℕ)) (held : List (Flight A)) (b : ℕ) → ((flight : Flight A) → In held flight → b ≢ flight.block)
    → slice_index_or (with_flights contents held) b [] ≡ slice_index_or contents b []
other_kept contents [] b other = refl
other_kept contents (f ∷ held) b other =
    other_kept (slice_set contents f.block f.image) held b (λ flight inside. other flight (inr inside)) ∙ get_or-set_other contents f.block b f.image [] (other f (inl refl))

abbrev EachOnce : {A : Type 0} → List (Flight A) → Type 0
EachOnce {A = A} held = (i j : ℕ) (f g : Flight A) → slice_get held i ≡ Some f → slice_get held j ≡ Some g → f.block ≡ g.block → i ≡ j

once_behind : {A : Type 0} (f : Flight A) (held : List (Flight A)) → EachOnce (f ∷ held) → EachOnce held
once_behind f held once i j g h here there same = let e : suc i ≡ suc j = once (suc i) (suc j) g h here there same in omega (arith, e)

other_behind : {A : Type 0} (f : Flight A) (held : List (Flight A)) → EachOnce (f ∷ held) → (flight : Flight A) → In held flight → f.block ≢ flight.block
other_behind f held once flight inside same =
    let r = in_get held flight inside in
    let e : 0 ≡ suc r.0 = once 0 (suc r.0) f flight refl r.1 same in absurd (omega (arith, e))

-- one flight more
pub with_one_more : {A : Type 0} (contents : List (List ℕ)) (held : List (Flight A)) (f : Flight A) → with_flights contents (held ++ f ∷ []) ≡ slice_set (with_flights contents held) f.block f.image
with_one_more contents [] f = refl
with_one_more contents (h ∷ held) f = with_one_more (slice_set contents h.block h.image) held f

pub next_taken : {X : Type 0} (xs : List X) (n : ℕ) (x : X) → n < length xs → x ≡ slice_index_or xs n x → take (n + 1) xs ≡ take n xs ++ x ∷ []
next_taken xs n x within is = take_more xs n x within ∙ ap (λ y. take n xs ++ y ∷ []) (sym is)

-- each flight's block holds its image, where none is of another's block
pub flights_written : {A : Type 0} (contents : List (List ℕ)) (held : List (Flight A)) → EachOnce held → ((flight : Flight A) → In held flight → flight.block < length contents)
    → HoldFlights (with_flights contents held) held
flights_written contents [] once known flight inside = absurd inside
flights_written {A = A} contents (f ∷ held) once known flight (inl is) =
    let next : List (List ℕ) = slice_set contents f.block f.image in
    let here : slice_index_or (with_flights next held) f.block [] ≡ f.image =
    other_kept next held f.block (other_behind f held once) ∙ get_or-set_same contents f.block f.image [] (known f (inl refl)) in
    subst (λ (x : Flight A). slice_index_or (with_flights next held) x.block [] ≡ x.image) is here
flights_written contents (f ∷ held) once known flight (inr inside) =
    flights_written (slice_set contents f.block f.image) held (once_behind f held once)
    (λ g among. subst (λ n. g.block < n) (sym (length-set contents f.block f.image)) (known g (inr among))) flight inside

-- A wave: its flights were written, the device was synced, and they are completed.

-- a disk that a crash may leave has all blocks
left_long : (run : Execution) (disk : List (List ℕ)) → MayLeave run disk → length disk ≡ length run.first
left_long run disk left = ap length left.disk_is ∙ length-map-range_with_len (λ block. pile_of (history_of run block) (crash_set left.landed)) 0 (length run.first)

pub held_images : {A : Type 0} {others : Bool} → ((run : Execution) (block : ℕ) → IsLegal run → IsTrue (has_flight (state_of run) block) → IsTrue (list_any (λ e. is_flight e && e.patch.block == block) (entries_of run)))
    → ((run : Execution) (e : Entry) → IsLegal run → Contains (entries_of run) e → e.patch.block < length run.first) → (run : Execution) (held : List (Flight A))
    → IsLegal run → AreFlightsBeside others run held → AreImages run held
held_images holds known run held legal are flight inside =
    let flies = held_flies run held flight are inside in (flying_known holds known run flight.block legal flies, flies, (are.each flight inside).image_is)

pub images_on : {A D : Type 0} (g : Ghosts D) (run : Execution) (held : List (Flight A)) (device : D) → AreImages run held → g.block_count device ≡ length run.first → AreOnDevice g held device
images_on g run held device images blocks flight inside = subst (λ (n : ℕ). flight.block < n) (sym blocks) (images flight inside).0

pub wave_kept : {A D : Type 0} {others : Bool} (g : Ghosts D) (run : Execution) (held : List (Flight A)) (steps : List Step) (before mid now : D)
    → AreFlightsBeside others run held → AreImages run held → HasKept g run [] before mid → HasKept g run [] mid now → IsLasting g now → may_leave g now (g.contents now)
    → g.contents now ≡ with_flights (g.contents before) held → length (g.contents now) ≡ length (g.contents before)
    → ((contents : List (List ℕ)) → HoldFlights contents held → HasStayed run steps contents)
    → HasKept g run steps before now
wave_kept {A = A} g run held steps before mid now are images first second lasts all_may is as_long stays =
    let both : HasKept g run [] before now = kept_more g run before mid now first second in
    let hold : length (g.contents now) ≡ length run.first → HoldFlights (g.contents now) held =
    λ long. subst (λ c. HoldFlights c held) (sym is)
    (flights_written (g.contents before) held are.once (λ flight inside. let known = (images flight inside).0 in subst (λ (n : ℕ). flight.block < n) (sym long ∙ as_long) known)) in
    record {
      crash = λ left.
          let one : IsCrashSafe g run run before now = subst (λ r. IsCrashSafe g run r before now) (same_run run) (both.crash left) in
          let there : MayLeave run (g.contents now) = one.left (g.contents now) all_may in
          let stayed = stays (g.contents now) (hold (left_long run (g.contents now) there)) in
          joined g run run (followed_by run steps) steps before now now refl one
          (unmoved_steps g run steps now (λ disk may. subst (MayLeave (followed_by run steps)) (sym (lasts disk may)) (stayed.crash there)));
      images = λ held_before.
          let there : HoldImages run (g.contents now) = subst (λ r. HoldImages r (g.contents now)) (same_run run) (both.images held_before) in
          (stays (g.contents now) (hold there.count)).images there;
    }

-- a sync on the way
pub kept_synced : {D : Type 0} (g : Ghosts D) (run : Execution) (before now : D) → Elapses (g.moment before) (g.moment now) (g.left_at before) (g.left_at now) → g.moment now ≤ g.moment before + 1
    → LeavesNoMore (may_leave g before) (may_leave g now) → g.contents now ≡ g.contents before → HasKept g run [] before now
kept_synced g run before now time few fewer same = kept_still g run before now (λ left. synced g run before now time few fewer left) (λ images. subst (HoldImages run) (sym same) images)

-- The flight that is held first.

pub first_stands : {A : Type 0} {others : Bool} → ((run : Execution) (block : ℕ) → IsLegal run → IsTrue (has_flight (state_of run) block) → IsTrue (list_any (λ e. is_flight e && e.patch.block == block) (entries_of run)))
    → ((run : Execution) (e : Entry) → IsLegal run → Contains (entries_of run) e → e.patch.block < length run.first) → (run : Execution) (held : List (Flight A)) (flight : Flight A)
    → IsLegal run → AreFlightsBeside others run held → 0 < length held → flight ≡ get_or held 0 flight → Stands run held flight.block 0 flight
first_stands holds known run [] flight legal are some it = absurd (omega (arith, some))
first_stands holds known run (f ∷ held) flight legal are some it =
    let inside : In (f ∷ held) flight = inl (sym it) in
    let flies : has_flight (state_of run) flight.block ≡ true = held_flies run (f ∷ held) flight are inside in record {
      stands = ap Some (sym it);
      block_is = refl;
      is = are.each flight inside;
      flies = flies;
      block_flies = flies;
      known = flying_known holds known run flight.block legal flies;
    }

-- what a clause says of the variant that a test found
pub is_ok_on : {T E : Type 0} (r : Result T E) (P : Type 0) → is_ok r ≡ true → OnOk r P → P
is_ok_on (Ok x) P e h = h
is_ok_on (Err x) P e h = absurd (cc)

pub is_ok_off : {T E : Type 0} (r : Result T E) (P : Type 0) → is_ok r ≡ false → OnErr r P → P
is_ok_off (Ok x) P e h = absurd (cc)
is_ok_off (Err x) P e h = h

pub first_same : {X : Type 0} (xs : List X) (a b : X) → 0 < length xs → a ≡ get_or xs 0 a → b ≡ get_or xs 0 b → a ≡ b
first_same [] a b some p q = absurd (omega (arith, some))
first_same (x ∷ xs) a b some p q = p ∙ sym q

some_same : {X : Type 0} (a b : X) → Some a ≡ Some b → a ≡ b
some_same a b e = cc

pub first_held : {X : Type 0} (xs : List X) (a b : X) → a ≡ get_or xs 0 a → slice_get xs 0 ≡ Some b → a ≡ b
first_held [] a b p q = absurd (cc)
first_held (x ∷ xs) a b p q = p ∙ some_same x b q

-- Where just one flight is held: it is held still and nothing was done, or it is completed and nothing else was done.
abbrev pub IsOneSoFar : {A : Type 0} → (flights flights_now : Flights A) → (old now : Contents) → Type 0
IsOneSoFar {A = A} flights flights_now old now =
    (flight : Flight A) → held_by flights ≡ flight ∷ []
    → ((held_by flights_now ≡ flight ∷ []) × (steps_since old now ≡ [])) ⊎ ((held_by flights_now ≡ []) × (steps_since old now ≡ Complete flight.block ∷ []))

pub one_ended : {A : Type 0} (flights before after : Flights A) (old mid now : Contents) → Continues old mid → length (held_by after) + 1 ≡ length (held_by before)
    → IsOneSoFar flights before old mid → EndsFirst before mid now → IsOneSoFar flights after old now
one_ended flights before after old mid now so_far fewer first ends flight one = elim (first flight one) [
  | inl still ↦
      let step = ends flight (ap (λ fs. slice_get fs 0) still.0) in
      inr (
        nil_from_length (held_by after) (let one_less = fewer ∙ ap length still.0 in omega (arith, one_less)),
        since_more old mid now (Complete flight.block ∷ []) so_far step ∙ ap (λ s. s ++ Complete flight.block ∷ []) still.1,
      )
  | inr done ↦ let none : length (held_by before) ≡ 0 = ap length done.0 in absurd (omega (arith, none, fewer))
]

pub one_at_last : {A : Type 0} (flights after : Flights A) (old now : Contents) → held_by after ≡ [] → IsOneSoFar flights after old now → EndsOne flights old now
one_at_last flights after old now empty so_far flight one = elim (so_far flight one) [
  | inl still ↦ let no : 1 ≡ 0 = ap length (sym still.0 ∙ empty) in absurd (omega (arith, no))
  | inr done ↦ done.1
]

-- How often they were tried.

pub some_held : (n : ℕ) → (n == 0) ≡ false → 0 < n
some_held n e = grind (arith, nat_tests)

-- those of the writes that were begun, behind those that were held
pub tries_begun : (had had_now held held_now begun ended sends : ℕ) → had_now ≤ had + (TRIES + 1) * held_now → held_now ≡ held + begun → sends ≡ begun + ended → had_now ≤ had + (TRIES + 1) * (held + sends)
tries_begun had had_now held held_now begun ended sends told count are = omega (arith, told, count, are)

-- what is left of a flight is of its write
pub its_flight : {A : Type 0} (run : Execution) (flight : Flight A) (landed : Landed) → landed.block ≡ flight.block → landed.sequence ≡ flight.sequence → Contains (state_of run).flights (flight.block, flight.sequence)
    → Contains (state_of run).flights (landed.block, landed.sequence)
its_flight run flight landed block sequence known =
    let pair : ◌≡◌ {A = ℕ × ℕ} (flight.block, flight.sequence) (landed.block, landed.sequence) = cc in subst (λ (p : ℕ × ℕ). Contains (state_of run).flights p) pair known

-- how often where none was tried
pub tries_none : (had more : ℕ) → had ≤ had + more
tries_none had more = omega arith

-- a flight less is held
pub fewer_held : (now had held held_now : ℕ) → now + 1 ≡ had → now ≡ held_now → had ≡ held → held_now + 1 ≡ held
fewer_held now had held held_now fewer is was = omega arith

pub one_less : (now had : ℕ) → now + 1 ≡ had → now < had
one_less now had fewer = omega arith

-- the flight that is held first
pub held_at_first : {X : Type 0} (xs : List X) (a : X) → 0 < length xs → a ≡ get_or xs 0 a → slice_get xs 0 ≡ Some a
held_at_first xs a some is = slice_get-get_or xs 0 a some ∙ ap (λ x. Some x) (sym is)

pub first_inside : {X : Type 0} (xs : List X) (x : X) → slice_get xs 0 ≡ Some x → In xs x
first_inside [] x e = absurd (cc)
first_inside (y ∷ ys) x e = inl (some_same y x e)
