-- The steps of a sync.
use Rattle.std.proofs.Common.{◌≡◌, ℕ, zero, suc, ◌<◌, inl, inr, Bool, true, false, List, [], ◌∷◌, ◌++◌, length, refl, sym, subst, arith, append_assoc, append-nil, get_or}
use Rattle.std.specs.Prelude.{cond, count_by, filter}
use Rattle.std.specs.List.{list_all}
use Rattle.std.proofs.lemmas.Bool.{cases_Bool, and_parts, both_ways}
use Rattle.std.proofs.lemmas.List.Sums.{sum_by-cons}
use Rattle.patch_model.specs.Step.{Step, Create, Merge, Send, Complete}
use Rattle.patch_model.specs.Execution.{Execution, extended, followed_by}
use Rattle.patch_model.specs.Legal.{AreLegal}
use Rattle.patch_model.specs.State.{State, at_first, state_of, after_step, after_steps, entries_of, has_flight}
use Rattle.patch_cache.specs.Contents.{Contents}
use Rattle.patch_cache.specs.Flights.{AreFlightsOf}
use Rattle.patch_cache.specs.Joining.{SinceJoin}
use Rattle.patch_cache.specs.Waves.{is_send, is_write, steps_since, Continues, HasWrittenOne}
use Rattle.patch_cache.specs.declared.flights.Flight.{Flight}
use Rattle.patch_plans.specs.Groups.{is_pending}
use Rattle.patch_group.specs.Syncing.{NonePending, SomePending, NoneFly, IsSynced, settled, ended, written}
use Rattle.patch_group.proofs.Pending.{FailsToo, one_first, none_left}
use Rattle.patch_group.proofs.Writing.{StatesExtend, LargestLaw, flat, same_run, step_none, stays_past, since_both}

-- Some of the patches is pending.

some_first : (p : ℕ → Bool) (n : ℕ) (ns : List ℕ) → p n ≡ true → 0 < count_by p (n ∷ ns)
some_first p n ns t = let all = one_first p n ns in let one : cond {A = ℕ} (p n) 1 0 ≡ 1 = rw t refl in omega (arith, all, one)

some_behind : (p : ℕ → Bool) (n : ℕ) (ns : List ℕ) → 0 < count_by p ns → 0 < count_by p (n ∷ ns)
some_behind p n ns some = let all = one_first p n ns in omega (arith, all, some)

-- the one that stands at a place
pub some_at : (p : ℕ → Bool) (ns : List ℕ) (i d : ℕ) → i < length ns → p (get_or ns i d) ≡ true → 0 < count_by p ns
some_at p [] i d l t = absurd (omega (arith, l))
some_at p (n ∷ ns) zero d l t = some_first p n ns t
some_at p (n ∷ ns) (suc i) d l t = some_behind p n ns (some_at p ns i d (omega (arith, l)) t)

-- some of those that pass another test is some of all
some_among : (p q : ℕ → Bool) (ns : List ℕ) → 0 < count_by q (filter p ns) → 0 < count_by q ns
some_among p q [] some = some
some_among p q (n ∷ ns) some = elim (cases_Bool (p n)) [
  | inl t ↦ elim (cases_Bool (q n)) [
    | inl u ↦ some_first q n ns u
    | inr u ↦
        let now : 0 < count_by q (n ∷ filter p ns) = rw t at some in
        let one : cond {A = ℕ} (q n) 1 0 ≡ 0 = rw u refl in
        let all = one_first q n (filter p ns) in
        some_behind q n ns (some_among p q ns (omega (arith, now, one, all)))
  ]
  | inr f ↦ some_behind q n ns (some_among p q ns (rw f at some))
]

-- The steps for those of some patches that are pending are the steps for all of them.

pub for_all : StatesExtend → LargestLaw → (p : ℕ → Bool) (ns : List ℕ) (run : Execution) (steps : List Step)
    → FailsToo p (is_pending (entries_of run)) → IsSynced (filter p ns) run steps → IsSynced ns run steps
for_all ext largest p ns run steps fails (settled none past) = settled none (none_left p (is_pending (entries_of run)) ns fails past)
for_all ext largest p ns run steps fails (ended {block = b} {steps = rest} flies more) =
    ended flies (for_all ext largest p ns (extended run (Complete b)) rest (λ n f. step_none ext largest run (Complete b) n refl (fails n f)) more)
for_all ext largest p ns run steps fails (written {block = b} {steps = rest} none some least more) =
    written none (some_among p (is_pending (entries_of run)) ns some) least
    (for_all ext largest p ns (followed_by run (Send b ∷ Complete b ∷ [])) rest (λ n f. stays_past ext largest run (Send b ∷ Complete b ∷ []) refl n (fails n f)) more)

-- Where no flight is held none is under way.

pub none_fly : {A : Type 0} (run : Execution) (held : List (Flight A)) → AreFlightsOf run held → held ≡ [] → NoneFly run
none_fly {A} run held are none block = elim (cases_Bool (has_flight (state_of run) block)) [
  | inl t ↦ absurd ((subst (λ h. AreFlightsOf run h) none are).all refl block t).1
  | inr f ↦ f
]

-- Writes that are ended and none begun.

legal_behind : (n : ℕ) (st : State) (a b : List Step) → AreLegal n st (a ++ b) → AreLegal n (after_steps st a) b
legal_behind n st [] b legal = legal
legal_behind n st (step ∷ a) b legal = legal_behind n (after_step st step) a b legal.1

ends_first : StatesExtend → (n : ℕ) (ns : List ℕ) (run : Execution) (steps rest : List Step) → list_all is_write steps ≡ true → count_by is_send steps ≡ 0
    → AreLegal n (state_of run) steps → IsSynced ns (followed_by run steps) rest → IsSynced ns run (steps ++ rest)
ends_first ext n ns run [] rest writes none legal more = subst (λ r. IsSynced ns r rest) (same_run run) more
ends_first ext n ns run (Complete b ∷ steps) rest writes none legal more =
    let fewer = sum_by-cons (λ y. cond (is_send y) 1 0) (Complete b) steps in
    ended legal.0
    (ends_first ext n ns (extended run (Complete b)) steps rest (and_parts (is_write (Complete b)) (list_all is_write steps) writes).1 (omega (arith, fewer, none)) (subst (λ st. AreLegal n st steps) (sym (ext run (Complete b))) legal.1)
    (subst (λ r. IsSynced ns r rest) (sym (flat run (Complete b ∷ []) steps)) more))
ends_first ext n ns run (Send b ∷ steps) rest writes none legal more = let one = sum_by-cons (λ y. cond (is_send y) 1 0) (Send b) steps in absurd (omega (arith, one, none))
ends_first ext n ns run (Create block start bytes after undo ∷ steps) rest writes none legal more = absurd (both_ways _ refl writes)
ends_first ext n ns run (Merge a b ∷ steps) rest writes none legal more = absurd (both_ways _ refl writes)

pub landed_first : StatesExtend → (n : ℕ) (ns : List ℕ) (run : Execution) (steps rest : List Step) → list_all is_write steps ≡ true → count_by is_send steps ≡ 0
    → AreLegal n at_first (run.steps ++ steps) → IsSynced ns (followed_by run steps) rest → IsSynced ns run (steps ++ rest)
landed_first ext n ns run steps rest writes none legal more =
    ends_first ext n ns run steps rest writes none (legal_behind n at_first run.steps steps legal) more

-- One write more.

-- whatever steps bring the patches to the disk from there on, they do so behind those that were taken
abbrev pub LeadsOn : List ℕ → Execution → List Step → Type 0
LeadsOn ns run steps = (rest : List Step) → IsSynced ns (followed_by run steps) rest → IsSynced ns run (steps ++ rest)

pub leads_nowhere : (ns : List ℕ) (run : Execution) → LeadsOn ns run []
leads_nowhere ns run rest more = subst (λ r. IsSynced ns r rest) (same_run run) more

one_more : (ns : List ℕ) (run : Execution) (b : Bool) (steps rest : List Step) → b ≡ true → HasWrittenOne run b steps → NoneFly run → SomePending run ns
    → IsSynced ns (followed_by run steps) rest → IsSynced ns run (steps ++ rest)
one_more ns run false steps rest e wrote none some more = absurd (both_ways _ refl e)
one_more ns run true steps rest e wrote none some more =
    subst (λ s. IsSynced ns run (s ++ rest)) (sym wrote.2)
    (written none some wrote.1 (subst (λ s. IsSynced ns (followed_by run s) rest) wrote.2 more))

pub leads_on : SinceJoin → (ns : List ℕ) (run : Execution) (b : Bool) (old mid now : Contents) → Continues old mid → Continues mid now → b ≡ true
    → LeadsOn ns run (steps_since old mid)
    → HasWrittenOne (followed_by run (steps_since old mid)) b (steps_since mid now) → NoneFly (followed_by run (steps_since old mid)) → SomePending (followed_by run (steps_since old mid)) ns
    → LeadsOn ns run (steps_since old now)
leads_on joins ns run b old mid now one two e so_far wrote none some rest more =
    let first = steps_since old mid in
    let second = steps_since mid now in
    subst (λ s. IsSynced ns run (s ++ rest)) (sym (joins old mid now one two).1)
    (subst (λ s. IsSynced ns run s) (sym (append_assoc first second rest))
    (so_far (second ++ rest) (one_more ns (followed_by run first) b second rest e wrote none some (subst (λ r. IsSynced ns r rest) (sym (since_both joins run old mid now one two)) more))))

-- All is done.
pub leads_here : (ns : List ℕ) (run : Execution) (steps : List Step) → LeadsOn ns run steps → NoneFly (followed_by run steps) → NonePending (followed_by run steps) ns → IsSynced ns run steps
leads_here ns run steps so_far none past = subst (λ s. IsSynced ns run s) (append-nil steps) (so_far [] (settled none past))

-- and a write that couldn't begin has added no step
pub wrote_nothing : (run : Execution) (b : Bool) (steps : List Step) → b ≡ false → HasWrittenOne run b steps → steps ≡ []
wrote_nothing run true steps e wrote = absurd (both_ways _ e refl)
wrote_nothing run false steps e wrote = wrote.0
