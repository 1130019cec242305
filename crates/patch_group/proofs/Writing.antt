-- Stretches of writes, and what they leave pending.
use Rattle.std.proofs.Common.{◌≡◌, ℕ, ◌+◌, ◌∙◌, inl, inr, Bool, true, false, List, [], ◌∷◌, ◌++◌, map, refl, sym, ap, subst, append_assoc, append-nil, Result, Ok, Err}
use Rattle.std.specs.Prelude.{◌==◌, ◌&&◌, not, cond, count_by, IsErrAnd}
use Rattle.std.specs.List.{list_all}
use Rattle.std.proofs.lemmas.Bool.{cases_Bool, and_parts, and_from, both_ways, eq-eqb, eqb-true}
use Rattle.std.proofs.lemmas.List.Sums.{sum_by-append}
use Rattle.patch_model.specs.declared.patches.Mark.{Mark}
use Rattle.patch_model.specs.declared.patches.Mark.TheVariants.{Memory, Flight, Durable}
use Rattle.patch_model.specs.Step.{Step, Create, Merge, Send, Complete}
use Rattle.patch_model.specs.Execution.{Execution, extended, followed_by}
use Rattle.patch_model.specs.Entry.{Entry, is_live, is_flight, marks_memory, marks_durable}
use Rattle.patch_model.specs.Ready.{has, ready, IsLargestWritable}
use Rattle.patch_model.specs.State.{state_of, after_step, entries_of, sent, landed}
use Rattle.patch_model.specs.Member.{In, In-from_Contains, Contains-from_In, list_any-from, list_any-at}
use Rattle.patch_cache.specs.Contents.{Contents}
use Rattle.patch_cache.specs.Running.{Runs}
use Rattle.patch_cache.specs.Waves.{is_send, is_write, steps_since, Continues, HasGoneOn, HasKept, KeepsDisk, HasWrittenOne, IsFlushed}
use Rattle.patch_cache.specs.Joining.{SinceJoin, StretchesJoin, KeptJoin, TriesJoin}
use Rattle.patch_cache.specs.Tries.{EachTried}
use Rattle.patch_cache.specs.declared.flights.Flight.{Flight as HeldFlight}
use Rattle.patch_cache.specs.Refused.{IfGivenUp}
use Rattle.patch_cache.specs.declared.flights.Flights.{Flights}
use Rattle.patch_cache.specs.declared.refusals.FlushRefusal.{FlushRefusal}
use Rattle.patch_cache.specs.declared.refusals.FlushRefusal.TheVariants as flush
use Rattle.patch_device.specs.declared.devices.Device.{Ghosts}
use Rattle.patch_group.specs.Refusals.{sync_of_flush}
use Rattle.patch_group.specs.Syncing.{IfSyncStops}
use Rattle.patch_group.specs.declared.refusals.SyncRefusal.{SyncRefusal}
use Rattle.patch_plans.specs.Groups.{Groups, is_pending}
use Rattle.patch_plans.specs.Order.{AreGroupsOf, StepsKeep}
use Rattle.patch_plans.specs.Members.{map-In}
use Rattle.patch_group.proofs.Pending.{FailsToo}

-- Two stretches of the cache are one.

pub continues_both : SinceJoin → (old mid now : Contents) → Continues old mid → Continues mid now → Continues old now
continues_both joins old mid now first second = (joins old mid now first second).0

pub went_both : SinceJoin → {A : Type 0} → StretchesJoin A → (run : Execution) (old mid now : Contents) (before after : Flights A) → Continues old mid → Continues mid now
    → HasGoneOn run (steps_since old mid) mid before → HasGoneOn (followed_by run (steps_since old mid)) (steps_since mid now) now after → HasGoneOn run (steps_since old now) now after
went_both joins stretches run old mid now before after one two first second =
    subst (λ s. HasGoneOn run s now after) (sym (joins old mid now one two).1) (stretches run (steps_since old mid) (steps_since mid now) mid now before after first second)

pub keeps_both : SinceJoin → {A D : Type 0} → (g : Ghosts D) → KeptJoin g → (old mid now : Contents) (flights held : Flights A) (first between last : D)
    → Continues old mid → Continues mid now → ((run : Execution) → Runs old flights run → HasGoneOn run (steps_since old mid) mid held)
    → KeepsDisk g old mid flights first between → KeepsDisk g mid now held between last → KeepsDisk g old now flights first last
keeps_both joins g kept old mid now flights held first between last one two ran before after run r =
    subst (λ s. HasKept g run s first last) (sym (joins old mid now one two).1)
    (kept run (steps_since old mid) (steps_since mid now) first between last (before run r) (after (followed_by run (steps_since old mid)) (ran run r).runs))

pub flat : (run : Execution) (a b : List Step) → followed_by (followed_by run a) b ≡ followed_by run (a ++ b)
flat run a b = ap (λ steps. let v : Execution = record { first = run.first; steps = steps } in v) (append_assoc run.steps a b)

-- the execution behind both
pub since_both : SinceJoin → (run : Execution) (old mid now : Contents) → Continues old mid → Continues mid now
    → followed_by (followed_by run (steps_since old mid)) (steps_since mid now) ≡ followed_by run (steps_since old now)
since_both joins run old mid now one two = flat run (steps_since old mid) (steps_since mid now) ∙ ap (followed_by run) (sym (joins old mid now one two).1)

-- what was tried in both
pub tried_both : SinceJoin → {A D : Type 0} → (g : Ghosts D) → TriesJoin A g → (old mid now : Contents) (held between : List (HeldFlight A)) (first mids last : D) → Continues old mid → Continues mid now
    → EachTried g (steps_since old mid) held first mids → between ≡ [] → EachTried g (steps_since mid now) between mids last → EachTried g (steps_since old now) held first last
tried_both joins g tries old mid now held between first mids last one two before none after =
    subst (λ s. EachTried g s held first last) (sym (joins old mid now one two).1) (tries (steps_since old mid) (steps_since mid now) held between first mids last before none after)

pub sends_both : SinceJoin → (old mid now : Contents) → Continues old mid → Continues mid now → count_by is_send (steps_since old now) ≡ count_by is_send (steps_since old mid) + count_by is_send (steps_since mid now)
sends_both joins old mid now one two =
    ap (count_by is_send) (joins old mid now one two).1 ∙ sum_by-append (λ y. cond (is_send y) 1 0) (steps_since old mid) (steps_since mid now)

-- What isn't pending never is again, where writes alone begin and end.

abbrev pub LargestLaw : Type 0
LargestLaw = (run : Execution) (block : ℕ) → IsLargestWritable (entries_of run) block (ready (entries_of run) block)

-- no live patch has the number
pub none_live : (all : List Entry) (n : ℕ) (e : Entry) → is_pending all n ≡ false → In all e → e.patch.no ≡ n → is_live e ≡ true → ⊥
none_live all n e none i named live = both_ways _ none (list_any-from (λ x. x.patch.no == n && is_live x) all e i (and_from _ _ (eq-eqb _ _ named) live))

-- so none has it after a change of marks by which none comes to life
mapped_none : (all : List Entry) (f : Entry → Entry) (n : ℕ) → ((e : Entry) → In all e → (f e).patch.no ≡ n → is_live (f e) ≡ true → ⊥) → is_pending (map f all) n ≡ false
mapped_none all f n none = elim (cases_Bool (is_pending (map f all) n)) [
  | inl t ↦
      let x = list_any-at (λ x. x.patch.no == n && is_live x) (map f all) t in
      let parts = and_parts _ _ x.2 in
      let old = map-In f all x.0 x.1 in
      absurd (none old.0 old.1 (ap (λ e. e.patch.no) old.2 ∙ eqb-true _ _ parts.0) (ap is_live old.2 ∙ parts.1))
  | inr f ↦ f
]

memory_lives : (m : Mark) → marks_memory m ≡ true → not (marks_durable m) ≡ true
memory_lives Memory t = refl
memory_lives Flight t = absurd (both_ways _ refl t)
memory_lives Durable t = absurd (both_ways _ refl t)

sent_none : LargestLaw → (run : Execution) (block n : ℕ) → is_pending (entries_of run) n ≡ false → is_pending (map (sent (ready (entries_of run) block)) (entries_of run)) n ≡ false
sent_none largest run block n none = mapped_none (entries_of run) (sent (ready (entries_of run) block)) n (λ e i. elim (cases_Bool (has (ready (entries_of run) block) e)) [
  | inl t ↦
      let taken = ready (entries_of run) block in
      let x = list_any-at (λ f. f.patch.no == e.patch.no) taken t in
      let inside = (largest run block).writable.in_memory x.0 (Contains-from_In taken x.0 x.1) in
      let rests = (and_parts _ _ inside.1).0 in
      rw t (λ named live. none_live (entries_of run) n x.0 none (In-from_Contains (entries_of run) x.0 inside.0) (eqb-true _ _ x.2 ∙ named) (memory_lives x.0.mark rests))
  | inr f ↦ rw f (λ named live. none_live (entries_of run) n e none i named live)
])

landed_none : (all : List Entry) (block n : ℕ) → is_pending all n ≡ false → is_pending (map (landed block) all) n ≡ false
landed_none all block n none = mapped_none all (landed block) n (λ e i. elim (cases_Bool (is_flight e && e.patch.block == block)) [
  | inl t ↦ rw t (λ named live. both_ways _ refl live)
  | inr f ↦ rw f (λ named live. none_live all n e none i named live)
])

abbrev pub StatesExtend : Type 0
StatesExtend = (run : Execution) (step : Step) → state_of (extended run step) ≡ after_step (state_of run) step

pub step_none : StatesExtend → LargestLaw → (run : Execution) (step : Step) (n : ℕ) → is_write step ≡ true → is_pending (entries_of run) n ≡ false → is_pending (entries_of (extended run step)) n ≡ false
step_none ext largest run (Send block) n write none = subst (λ es. is_pending es n ≡ false) (sym (ap (λ st. st.entries) (ext run (Send block)))) (sent_none largest run block n none)
step_none ext largest run (Complete block) n write none = subst (λ es. is_pending es n ≡ false) (sym (ap (λ st. st.entries) (ext run (Complete block)))) (landed_none (entries_of run) block n none)
step_none ext largest run (Create block start bytes after undo) n write none = absurd (both_ways _ refl write)
step_none ext largest run (Merge a b) n write none = absurd (both_ways _ refl write)

pub same_run : (run : Execution) → followed_by run [] ≡ run
same_run run = ap (λ steps. let v : Execution = record { first = run.first; steps = steps } in v) (append-nil run.steps)

pub stays_past : StatesExtend → LargestLaw → (run : Execution) (steps : List Step) → list_all is_write steps ≡ true → FailsToo (is_pending (entries_of run)) (is_pending (entries_of (followed_by run steps)))
stays_past ext largest run [] writes n none = subst (λ r. is_pending (entries_of r) n ≡ false) (sym (same_run run)) none
stays_past ext largest run (step ∷ steps) writes n none =
    let parts = and_parts _ _ writes in
    subst (λ r. is_pending (entries_of r) n ≡ false) (flat run (step ∷ []) steps)
    (stays_past ext largest (extended run step) steps parts.1 n (step_none ext largest run step n parts.0 none))

-- The groups stay groups of the execution.

pub groups_stay : StepsKeep → (run : Execution) (gs : Groups) (steps : List Step) → AreGroupsOf run gs → AreGroupsOf (followed_by run steps) gs
groups_stay keep run gs [] a = subst (λ r. AreGroupsOf r gs) (sym (same_run run)) a
groups_stay keep run gs (step ∷ steps) a = subst (λ r. AreGroupsOf r gs) (flat run (step ∷ []) steps) (groups_stay keep (extended run step) gs steps (keep run gs step a))

-- What a write tells.

pub wrote_none : (run : Execution) (b : Bool) (steps : List Step) → b ≡ false → HasWrittenOne run b steps → IsFlushed (followed_by run steps)
wrote_none run true steps e w = absurd (both_ways _ e refl)
wrote_none run false steps e w = w.1

pub wrote_some : (run : Execution) (b : Bool) (steps : List Step) → b ≡ true → HasWrittenOne run b steps → count_by is_send steps ≡ 1
wrote_some run true steps e w = subst (λ s. count_by is_send s ≡ 1) (sym w.2) refl
wrote_some run false steps e w = absurd (both_ways _ refl e)

-- What stopped a write stopped what it was for.

pub write_stops : {A D T : Type 0} (S : Type 0) (g : Ghosts D) (r : Result T FlushRefusal) (e : FlushRefusal) (flights : Flights A) (before now : D) → IsErrAnd r (λ f. f ≡ e)
    → IfGivenUp {T = S} g (Err e) flights before now → IfGivenUp g r flights before now
write_stops S g (Ok x) e flights before now is told = absurd is
write_stops {T = T} S g (Err f) (flush.DeviceGaveUp block) flights before now is told = subst (λ x. IfGivenUp {T = T} g (Err x) flights before now) (sym is) told
write_stops {T = T} S g (Err f) flush.SyncFailed flights before now is told = subst (λ x. IfGivenUp {T = T} g (Err x) flights before now) (sym is) told
write_stops {T = T} S g (Err f) flush.OutOfMemory flights before now is told = subst (λ x. IfGivenUp {T = T} g (Err x) flights before now) (sym is) tt

pub sync_stops : {A D T : Type 0} (S : Type 0) (g : Ghosts D) (r : Result T SyncRefusal) (e : FlushRefusal) (flights : Flights A) (before now : D) → IsErrAnd r (λ f. f ≡ sync_of_flush e)
    → IfGivenUp {T = S} g (Err e) flights before now → IfSyncStops g r flights before now
sync_stops S g (Ok x) e flights before now is told = absurd is
sync_stops {T = T} S g (Err f) (flush.DeviceGaveUp block) flights before now is told = subst (λ x. IfSyncStops {T = T} g (Err x) flights before now) (sym is) told
sync_stops {T = T} S g (Err f) flush.SyncFailed flights before now is told = subst (λ x. IfSyncStops {T = T} g (Err x) flights before now) (sym is) told
sync_stops {T = T} S g (Err f) flush.OutOfMemory flights before now is told = subst (λ x. IfSyncStops {T = T} g (Err x) flights before now) (sym is) tt
