-- Whatever steps bring a group to the disk, they come to one state.
use Rattle.std.proofs.Common.{◌≡◌, ℕ, ◌≤◌, ◌∙◌, inl, inr, true, false, List, [], ◌∷◌, map, filter, Some, refl, sym, ap, subst, arith, append_assoc, append-nil}
use Rattle.std.specs.Prelude.{◌==◌, ◌&&◌, ◌||◌, not, if◌then◌else◌, count_by}
use Rattle.std.specs.List.{list_any}
use Rattle.std.proofs.lemmas.Bool.{cases_Bool}
use Rattle.std.proofs.lemmas.Bool.Decides.{nat_tests}
use Rattle.patch_model.specs.declared.patches.Mark.TheVariants.{Durable}
use Rattle.patch_model.specs.Entry.{Entry, is_flight}
use Rattle.patch_model.specs.Step.{Step, Send, Complete}
use Rattle.patch_model.specs.Execution.{Execution, extended, followed_by}
use Rattle.patch_model.specs.State.{State, state_of, after_step, has_flight, landed}
use Rattle.patch_cache.specs.Flights.{IsLeastReady}
use Rattle.patch_plans.specs.Groups.{is_pending}
use Rattle.patch_group.specs.Syncing.{NonePending, SomePending, NoneFly, IsSynced, settled, ended, written}
use Rattle.patch_replay.proofs.Imaging.{StatesExtend}
use Rattle.patch_replay.proofs.Alike.{AreAlike, alike_entries, alike_extended, alike_sent}

-- States at rest.

-- what is in flight of a block with a write under way is durable
abbrev calmed : State → Entry → Entry
calmed st e = if is_flight e && has_flight st e.patch.block then record e { mark = Durable } else e

-- the state with all writes ended
abbrev calm : State → State
calm st = record st { entries = map (calmed st) st.entries; flights = [] }

is_same : (a b : ℕ) → (a == b) ≡ true → a ≡ b
is_same a b e = grind (arith, nat_tests)

is_other : (a b c : ℕ) → (a == b) ≡ true → (c == b) ≡ false → (a == c) ≡ false
is_other a b c e f = grind (arith, nat_tests)

is_itself : (a : ℕ) → (a == a) ≡ true
is_itself a = grind (arith, nat_tests)

-- the other writes are under way still
other_flights : (fs : List (ℕ × ℕ)) (block other : ℕ) → (other == block) ≡ false
    → list_any (λ (f : ℕ × ℕ). f.0 == other) (filter (λ (f : ℕ × ℕ). not (f.0 == block)) fs) ≡ list_any (λ (f : ℕ × ℕ). f.0 == other) fs
other_flights [] block other e = refl
other_flights (f ∷ fs) block other e = elim (cases_Bool (f.0 == block)) [
  | inl here ↦ rw (here, is_other f.0 block other here e) (other_flights fs block other e)
  | inr there ↦ rw there (ap (λ b. (f.0 == other) || b) (other_flights fs block other e))
]

calmed_landed : (st : State) (block : ℕ) (e : Entry) → has_flight st block ≡ true
    → calmed (after_step st (Complete block)) (landed block e) ≡ calmed st e
calmed_landed st block e flies = elim (cases_Bool (is_flight e)) [
  | inr rests ↦ rw rests (rw rests refl)
  | inl moves ↦ elim (cases_Bool (e.patch.block == block)) [
    | inl here ↦ (let same : e.patch.block ≡ block = is_same e.patch.block block here in
        let known : has_flight st e.patch.block ≡ true = ap (has_flight st) same ∙ flies in
        rw (moves, here, known) refl)
    | inr there ↦ rw (moves, there) (rw (moves, other_flights st.flights block e.patch.block there) refl)
  ]
]

mapped : {X : Type 0} → (f g h : X → X) → ((x : X) → f (g x) ≡ h x) → (xs : List X) → map f (map g xs) ≡ map h xs
mapped f g h same [] = refl
mapped f g h same (x ∷ xs) = λ i. same x i ∷ mapped f g h same xs i

unmapped : {X : Type 0} → (f : X → X) → ((x : X) → f x ≡ x) → (xs : List X) → map f xs ≡ xs
unmapped f same [] = refl
unmapped f same (x ∷ xs) = λ i. same x i ∷ unmapped f same xs i

-- the end of a write leaves it so
calm_ended : (st : State) (block : ℕ) → has_flight st block ≡ true → calm (after_step st (Complete block)) ≡ calm st
calm_ended st block flies =
    let entries = mapped (calmed (after_step st (Complete block))) (landed block) (calmed st) (λ e. calmed_landed st block e flies) st.entries in
    λ i. record { entries = entries i; flights = []; sends = st.sends }

no_flights : (fs : List (ℕ × ℕ)) → ((b : ℕ) → list_any (λ (f : ℕ × ℕ). f.0 == b) fs ≡ false) → [] ≡ fs
no_flights [] none = refl
no_flights (f ∷ fs) none = let here = none f.0 in absurd (let no : true ≡ false = rw is_itself at here in cc)

unmarked : (st : State) (e : Entry) → has_flight st e.patch.block ≡ false → calmed st e ≡ e
unmarked st e none = elim (cases_Bool (is_flight e)) [ inl moves ↦ rw (moves, none) refl | inr rests ↦ rw rests refl ]

-- where no write is under way nothing is to be ended
calm_still : (st : State) → ((b : ℕ) → has_flight st b ≡ false) → calm st ≡ st
calm_still st none =
    let entries = unmapped (calmed st) (λ e. unmarked st e (none e.patch.block)) st.entries in
    let flights = no_flights st.flights none in
    λ i. record { entries = entries i; flights = flights i; sends = st.sends }

-- Executions at rest.

followed_first : (run : Execution) (step : Step) (steps : List Step) → followed_by (extended run step) steps ≡ followed_by run (step ∷ steps)
followed_first run step steps = ap (λ all. record run { steps = all }) (append_assoc run.steps (step ∷ []) steps)

followed_two : (run : Execution) (a b : Step) (steps : List Step) → followed_by (followed_by run (a ∷ b ∷ [])) steps ≡ followed_by run (a ∷ b ∷ steps)
followed_two run a b steps = ap (λ all. record run { steps = all }) (append_assoc run.steps (a ∷ b ∷ []) steps)

followed_none : (run : Execution) → run ≡ followed_by run []
followed_none run = ap (λ steps. record run { steps = steps }) (sym (append-nil run.steps))

extended_two : (run : Execution) (a b : Step) → extended (extended run a) b ≡ followed_by run (a ∷ b ∷ [])
extended_two run a b = ap (λ all. record run { steps = all }) (append_assoc run.steps (a ∷ []) (b ∷ []))

-- once the writes that were under way have ended, the rest of a sync begins there
record ComesToRest (numbers : List ℕ) (run : Execution) (steps : List Step) : Type 0 where
  still : Execution
  rest : List Step
  first : still.first ≡ run.first
  state : state_of still ≡ calm (state_of run)
  none : NoneFly still
  synced : IsSynced numbers still rest
  ends : followed_by still rest ≡ followed_by run steps

comes_to_rest : StatesExtend → (numbers : List ℕ) (run : Execution) (steps : List Step) → IsSynced numbers run steps → ComesToRest numbers run steps
comes_to_rest extend numbers run steps (settled none past) = record {
  still = run;
  rest = [];
  first = refl;
  state = sym (calm_still (state_of run) none);
  none = none;
  synced = settled none past;
  ends = refl;
}
comes_to_rest extend numbers run steps (ended {block = block} {steps = later} flies more) =
    let r = comes_to_rest extend numbers (extended run (Complete block)) later more in record {
      still = r.still;
      rest = r.rest;
      first = r.first;
      state = r.state ∙ ap calm (extend run (Complete block)) ∙ calm_ended (state_of run) block flies;
      none = r.none;
      synced = r.synced;
      ends = r.ends ∙ followed_first run (Complete block) later;
    }
comes_to_rest extend numbers run steps (written {block = block} {steps = later} none some least more) = record {
  still = run;
  rest = Send block ∷ Complete block ∷ later;
  first = refl;
  state = sym (calm_still (state_of run) none);
  none = none;
  synced = written none some least more;
  ends = refl;
}

-- One state.

never_both : (run other : Execution) (numbers : List ℕ) → AreAlike run other → NonePending run numbers → SomePending other numbers → ⊥
never_both run other numbers a none some =
    let same = ap (λ all. count_by (is_pending all) numbers) (alike_entries run other a) in omega (arith, none, some, same)

-- where nothing is to be done, on the one side and so on the other
both_settled : (numbers : List ℕ) (run still : Execution) (rest : List Step) → NonePending run numbers → NoneFly still → AreAlike run still
    → IsSynced numbers still rest → AreAlike (followed_by run []) (followed_by still rest)
both_settled numbers run still rest past none a (settled quiet gone) =
    subst (λ r. AreAlike r (followed_by still [])) (followed_none run) (subst (AreAlike run) (followed_none still) a)
both_settled numbers run still rest past none a (ended {block = block} flies more) = absurd (let no = none block in let e : true ≡ false = sym flies ∙ no in cc)
both_settled numbers run still rest past none a (written quiet some least more) = absurd (never_both run still numbers a past some)

one_block : (run still : Execution) (b c : ℕ) → AreAlike run still → IsLeastReady run (Some b) → IsLeastReady still (Some c) → b ≡ c
one_block run still b c a least other =
    let low : b ≤ c = least.1 c (alike_sent run still c a ∙ other.0) in
    let high : c ≤ b = other.1 b (sym (alike_sent run still b a) ∙ least.0) in
    omega (arith, low, high)

alike_written : StatesExtend → (run other : Execution) (b : ℕ) → AreAlike run other
    → AreAlike (followed_by run (Send b ∷ Complete b ∷ [])) (followed_by other (Send b ∷ Complete b ∷ []))
alike_written extend run other b a =
    subst (λ r. AreAlike r (followed_by other (Send b ∷ Complete b ∷ []))) (extended_two run (Send b) (Complete b))
    (subst (AreAlike (extended (extended run (Send b)) (Complete b))) (extended_two other (Send b) (Complete b))
    (alike_extended extend (extended run (Send b)) (extended other (Send b)) (Complete b) (alike_extended extend run other (Send b) a)))

-- what is left on the one side comes to one state with whatever is left on the other
abbrev LeadsAlike : List ℕ → Execution → Execution → Type 0
LeadsAlike numbers run last =
    (other : Execution) (more : List Step) → run.first ≡ other.first → calm (state_of run) ≡ calm (state_of other)
    → IsSynced numbers other more → AreAlike last (followed_by other more)

both_written : StatesExtend → (numbers : List ℕ) (run last still : Execution) (b : ℕ) (rest : List Step) → SomePending run numbers
    → IsLeastReady run (Some b) → NoneFly still → AreAlike run still → LeadsAlike numbers (followed_by run (Send b ∷ Complete b ∷ [])) last
    → IsSynced numbers still rest → AreAlike last (followed_by still rest)
both_written extend numbers run last still b rest some least none a go (settled quiet gone) =
    absurd (never_both still run numbers (record { first = sym a.first; state = sym a.state }) gone some)
both_written extend numbers run last still b rest some least none a go (ended {block = block} flies more) =
    absurd (let no = none block in let e : true ≡ false = sym flies ∙ no in cc)
both_written extend numbers run last still b rest some least none a go (written {block = c} {steps = later} quiet left other more) =
    let same : b ≡ c = one_block run still b c a least other in
    let alike = subst (λ k. AreAlike (followed_by run (Send b ∷ Complete b ∷ [])) (followed_by still (Send k ∷ Complete k ∷ []))) same (alike_written extend run still b a) in
    subst (AreAlike last) (followed_two still (Send c) (Complete c) later)
    (go (followed_by still (Send c ∷ Complete c ∷ [])) later alike.first (ap calm alike.state) more)

leads_alike : StatesExtend → (numbers : List ℕ) (run : Execution) (steps : List Step) → IsSynced numbers run steps → LeadsAlike numbers run (followed_by run steps)
leads_alike extend numbers run steps (settled none past) other more first same synced =
    let r = comes_to_rest extend numbers other more synced in
    let alike : AreAlike run r.still = record { first = first ∙ sym r.first; state = sym (calm_still (state_of run) none) ∙ same ∙ sym r.state } in
    subst (AreAlike (followed_by run [])) r.ends (both_settled numbers run r.still r.rest past r.none alike r.synced)
leads_alike extend numbers run steps (ended {block = block} {steps = later} flies rest) other more first same synced =
    subst (λ last. AreAlike last (followed_by other more)) (followed_first run (Complete block) later)
    (leads_alike extend numbers (extended run (Complete block)) later rest other more first
    (ap calm (extend run (Complete block)) ∙ calm_ended (state_of run) block flies ∙ same) synced)
leads_alike extend numbers run steps (written {block = block} {steps = later} none some least rest) other more first same synced =
    let r = comes_to_rest extend numbers other more synced in
    let alike : AreAlike run r.still = record { first = first ∙ sym r.first; state = sym (calm_still (state_of run) none) ∙ same ∙ sym r.state } in
    subst (λ last. AreAlike last (followed_by other more)) (followed_two run (Send block) (Complete block) later)
    (subst (AreAlike (followed_by (followed_by run (Send block ∷ Complete block ∷ [])) later)) r.ends
    (both_written extend numbers run (followed_by (followed_by run (Send block ∷ Complete block ∷ [])) later) r.still block r.rest some least r.none alike
    (leads_alike extend numbers (followed_by run (Send block ∷ Complete block ∷ [])) later rest) r.synced))

-- two syncs of one group, from executions that have come to one state, come to one state
pub synced_alike : StatesExtend → (numbers : List ℕ) (run other : Execution) (steps more : List Step) → AreAlike run other
    → IsSynced numbers run steps → IsSynced numbers other more → AreAlike (followed_by run steps) (followed_by other more)
synced_alike extend numbers run other steps more a p q = leads_alike extend numbers run steps p other more a.first (ap calm a.state) q

-- no write is under way behind a sync
pub synced_still : (numbers : List ℕ) (run : Execution) (steps : List Step) → IsSynced numbers run steps → NoneFly (followed_by run steps)
synced_still numbers run steps (settled none past) = subst NoneFly (followed_none run) none
synced_still numbers run steps (ended {block = block} {steps = later} flies more) =
    subst NoneFly (followed_first run (Complete block) later) (synced_still numbers (extended run (Complete block)) later more)
synced_still numbers run steps (written {block = block} {steps = later} none some least more) =
    subst NoneFly (followed_two run (Send block) (Complete block) later) (synced_still numbers (followed_by run (Send block ∷ Complete block ∷ [])) later more)
