-- What one ask leaves: a patch of a writer, an ask of the cache, and a call of groups.
use Rattle.std.proofs.Common.{◌≡◌, ◌≢◌, ℕ, ◌+◌, ◌≤◌, ◌⊎◌, ◌∙◌, inl, inr, Bool, true, false, Some, List, [], ◌∷◌, ◌++◌, length, refl, sym, ap, subst, arith, length-append}
use Rattle.std.specs.Prelude.{IsTrue, Contains, if◌then◌else◌}
use Rattle.patch_model.specs.declared.patches.Undo.{Undo}
use Rattle.patch_model.specs.Execution.{Execution, extended}
use Rattle.patch_model.specs.Step.{Step}
use Rattle.patch_model.specs.Step as the
use Rattle.patch_model.specs.State.{State, state_of, after_step, after_steps, at_first, entries_of, has_flight, flying_of, numbers_of}
use Rattle.patch_model.specs.Orderly.{IsNumbered}
use Rattle.patch_model.specs.Legal.{IsLegal, IsLegalStep, AreLegal}
use Rattle.patch_model.specs.History.{history_of, image}
use Rattle.patch_model.specs.Crash.{MayLeave}
use Rattle.patch_device.specs.Device.{elapses_still}
use Rattle.patch_device.specs.SameDevice.{IsSameDevice, LeavesOnly}
use Rattle.patch_model.specs.declared.refusals.Refusal.{Refusal as Cause}
use Rattle.patch_model.specs.declared.refusals.RefusalKind.TheVariants as kind
use Rattle.patch_model.specs.Refusing.{bare}
use Rattle.patch_cache.specs.Joining.{SafeJoin}
use Rattle.patch_cache.specs.Refusals.{bring_cause}
use Rattle.patch_cache.specs.declared.refusals.BringRefusal.{BringRefusal}
use Rattle.patch_cache.specs.declared.refusals.BringRefusal.TheVariants as bring
use Rattle.patch_cache.specs.Waves.{HoldImages}
use Rattle.patch_device.specs.declared.devices.Device.{Ghosts}
use Rattle.patch_device.specs.Device.{HasRisen}
use Rattle.patch_cache.specs.Contents.{Contents}
use Rattle.patch_cache.specs.Asks.{Ask as CacheAsk, Answer as CacheAnswer, after}
use Rattle.patch_cache.specs.Asks as cache
use Rattle.patch_cache.specs.Flights.{AreFlightsOf}
use Rattle.patch_cache.specs.Running.{RunsBy, IsAnsweredBy, IsCrashSafe, LeavesSafe, HasWritten, held_by}
use Rattle.patch_cache.specs.declared.flights.Flight.{Flight}
use Rattle.patch_cache.specs.declared.flights.Flights.{Flights}
use Rattle.patch_plans.specs.Groups.{Groups, named}
use Rattle.patch_group.specs.Asks.{Ask, Answer, Part, Plain, Patch, GroupMade, Done, Count, Refused, IsGroupAnswer, IsGroupGivenUp, IsGroupGivenUpBy, after_parts, part_of, run_after, groups_after}
use Rattle.patch_plans.specs.Order.{AreGroupsOf}
use Rattle.patch_group.specs.Runs.{RunsWithBy, RunsWithImages, HasPassedBy, IsGroupAnsweredBy, IsAnsweredOnImages, IsPatchedBy}
use Rattle.patch_group.proofs.Asking.{ask_keeps, groups_plain, given_up_told, right_by}
use Rattle.patch_group.proofs.Passing.{unmoved, parts_follow, both}

abbrev pub StatesExtend : Type 0
StatesExtend = (run : Execution) (step : Step) → state_of (extended run step) ≡ after_step (state_of run) step

abbrev pub AreNumbered : Type 0
AreNumbered = (run : Execution) → IsNumbered (entries_of run)

abbrev pub DisksStay : Type 0
DisksStay = (run : Execution) (step : Step) (disk : List (List ℕ)) → IsLegal run → IsLegalStep (length run.first) (state_of run) step → ((block : ℕ) → step ≢ the.Complete block)
    → MayLeave run disk → MayLeave (extended run step) disk

abbrev pub FlyingStays : Type 0
FlyingStays = (run : Execution) (at start : ℕ) (bytes after : List ℕ) (undo : Undo) (block : ℕ)
    → numbers_of (flying_of (entries_of (extended run (the.Create at start bytes after undo))) block) ≡ numbers_of (flying_of (entries_of run) block)

abbrev pub ImagesStay : Type 0
ImagesStay = (run : Execution) (step : Step) (block : ℕ) → step ≢ the.Send block → image (history_of (extended run step) block) ≡ image (history_of run block)

-- the first bytes stay
pub first_stay : (run : Execution) (ps : List Part) → (after_parts run ps).first ≡ run.first
first_stay run ps = ap (λ r. r.first) (parts_follow run ps)

-- A patch that is made.

legal_last : (blocks : ℕ) (st : State) (steps : List Step) (step : Step) → AreLegal blocks st (steps ++ step ∷ []) → IsLegalStep blocks (after_steps st steps) step
legal_last blocks st [] step h = h.0
legal_last blocks st (s ∷ ss) step h = legal_last blocks (after_step st s) ss step h.1

longer : (run : Execution) (step : Step) → length run.steps ≤ length (extended run step).steps
longer run step = let e : length (run.steps ++ step ∷ []) ≡ length run.steps + 1 = length-append run.steps (step ∷ []) in omega (arith, e)

-- the disk may be left as it is with a patch more
made_unless : DisksStay → {D : Type 0} (g : Ghosts D) (run : Execution) (refused : Bool) (step : Step) (device : D) → ((block : ℕ) → step ≢ the.Complete block)
    → IsLegal run → IsLegal (if refused then run else extended run step) → LeavesOnly g device (MayLeave run) → IsCrashSafe g run (if refused then run else extended run step) device device
made_unless stay g run true step device other legal longer_legal left = unmoved g run device left
made_unless stay g run false step device other legal longer_legal left = record {
  time = elapses_still (g.moment device) (g.left_at device);
  counts = [];
  moments = omega arith;
  trail = longer run step;
  left = λ disk may. stay run step disk legal (legal_last (length run.first) at_first run.steps step longer_legal.steps) other (left disk may);
}

-- and the held flights stay
flights_beside : StatesExtend → FlyingStays → ImagesStay → {A : Type 0} (run : Execution) (held : List (Flight A)) (at start : ℕ) (bytes names : List ℕ) (undo : Undo) → AreFlightsOf run held
    → AreFlightsOf (extended run (the.Create at start bytes names undo)) held
flights_beside ext flying images run held at start bytes names undo f =
    let step : Step = the.Create at start bytes names undo in
    let same : (state_of (extended run step)).flights ≡ (state_of run).flights = ap (λ st. st.flights) (ext run step) in
    record {
      each = λ flight i. let one = f.each flight i in record {
        known = subst (λ fs. Contains fs (flight.block, flight.sequence)) (sym same) one.known;
        numbers_are = one.numbers_are ∙ sym (flying run at start bytes names undo flight.block);
        image_is = one.image_is ∙ sym (images run step flight.block (λ e. absurd (cc e)));
      };
      all = λ alone block t. f.all alone block (subst IsTrue (ap (λ st. has_flight st block) (ext run step)) t);
      once = f.once;
    }

-- an answer of a patch is the cache's
pub patch_told : (whole : Bool) (run : Execution) (gs : Groups) (writer block start : ℕ) (bytes names : List ℕ) (undo : Undo) (answer : Answer)
    → IsGroupAnswer run gs (Patch writer block start bytes names undo) answer ⊎ IsGroupGivenUpBy whole run gs (Patch writer block start bytes names undo) answer
    → (one : CacheAnswer) × (answer ≡ Plain one)
patch_told whole run gs writer block start bytes names undo (Plain one) h = (one, refl)
patch_told whole run gs writer block start bytes names undo (GroupMade group) (inl h) = absurd h
patch_told whole run gs writer block start bytes names undo Done (inl h) = absurd h
patch_told whole run gs writer block start bytes names undo (Count count) (inl h) = absurd h
patch_told whole run gs writer block start bytes names undo (Refused cause) (inl h) = absurd h
patch_told whole run gs writer block start bytes names undo answer (inr h) =
    let told = given_up_told whole run (cache.Create block start bytes (named gs (Some writer) names) undo) answer h in (cache.Refused told.0, told.1)

flights_unless : StatesExtend → FlyingStays → ImagesStay → {A : Type 0} (run : Execution) (held : List (Flight A)) (at start : ℕ) (bytes names : List ℕ) (undo : Undo) (refused : Bool) → AreFlightsOf run held
    → AreFlightsOf (if refused then run else extended run (the.Create at start bytes names undo)) held
flights_unless ext flying images run held at start bytes names undo true f = f
flights_unless ext flying images run held at start bytes names undo false f = flights_beside ext flying images run held at start bytes names undo f

-- A patch of a writer whose block was brought before.
pub patched_behind : {A D : Type 0} (g : Ghosts D) → SafeJoin g → (run : Execution) (gs now : Groups) (ask : Ask) (answer : Answer) (contents next : Contents) (flights : Flights A) (device mid : D)
    → IsSameDevice g device mid → g.fault_count mid ≡ g.fault_count device → (g.is_honest device → g.contents mid ≡ g.contents device) → LeavesSafe g run run device mid
    → RunsWithBy g false contents flights gs mid run → IsGroupAnsweredBy g false run gs ask answer next flights now mid mid
    → IsGroupAnsweredBy g false run gs ask answer next flights now device mid
patched_behind g join run gs now ask answer contents next flights device mid same no_fault kept crash runs one =
    let first : HasPassedBy g false run [] contents flights gs device mid = record { stands = runs; faults = sym no_fault; written = λ honest. kept honest; crash = crash } in
    record { right = one.right; passed = both g join false run [] (part_of gs ask answer) contents next flights flights gs now device mid mid same.honesty.0 first one.passed }

-- a block isn't brought for want of memory, or by a fault that was counted
pub why_not_brought : (refusal : BringRefusal) → (cache.Refused (bring_cause refusal) ≡ cache.Refused (bare kind.OutOfMemory)) ⊎ (cache.Refused (bring_cause refusal) ≡ cache.Refused (bare kind.Fault))
why_not_brought bring.Fault = inr refl
why_not_brought bring.OutOfMemory = inl refl

no_memory_faultless : cache.IsFault (cache.Refused (bare kind.OutOfMemory)) → ⊥
no_memory_faultless (inl e) = let same : bare kind.OutOfMemory ≡ bare kind.Fault = cc in let one = ap (λ (c : Cause). c.kind) same in absurd (cc)
no_memory_faultless (inr e) = let same : bare kind.OutOfMemory ≡ bare kind.SyncFailed = cc in let one = ap (λ (c : Cause). c.kind) same in absurd (cc)

pub fault_told : (refusal : BringRefusal) → cache.IsFault (cache.Refused (bring_cause refusal)) → refusal ≡ bring.Fault
fault_told bring.Fault is = refl
fault_told bring.OutOfMemory is = absurd (no_memory_faultless is)

-- One whose block wasn't brought.
pub not_brought : {A D : Type 0} (g : Ghosts D) (run : Execution) (gs : Groups) (writer block start : ℕ) (bytes names : List ℕ) (undo : Undo) (cause : Cause) (contents : Contents) (flights : Flights A) (device mid : D)
    → RunsWithImages g contents flights gs device run → cache.IsMissing run block
    → (cache.Refused cause ≡ cache.Refused (bare kind.OutOfMemory)) ⊎ (cache.Refused cause ≡ cache.Refused (bare kind.Fault))
    → IsSameDevice g device mid → (cache.IsFault (cache.Refused cause) → HasRisen (g.fault_count device) (g.fault_count mid)) → g.contents mid ≡ g.contents device → LeavesSafe g run run device mid
    → IsAnsweredOnImages g run gs (Patch writer block start bytes names undo) (Plain (cache.Refused cause)) contents flights gs device mid
not_brought g run gs writer block start bytes names undo cause contents flights device mid r missing why same met kept crash = record {
  answered = record {
    right = inr (inr (record { block = block; named = refl; missing = missing; gives_up = why }));
    passed = record {
      stands = record { on = record { runs = r.runs.on.runs; blocks = same.count ∙ r.runs.on.blocks }; groups_are = r.runs.groups_are };
      faults = (g.fault_count mid, record { kept = same.faults; met = met }, refl);
      written = λ honest. (g.contents mid, kept, refl);
      crash = crash;
    };
  };
  images = subst (HoldImages run) (sym kept) r.images;
}

module _ (ext : StatesExtend) (numbered : AreNumbered) where
  -- an ask of the cache
  pub plain : {A D : Type 0} (g : Ghosts D) (whole : Bool) (run : Execution) (gs : Groups) (ask : CacheAsk) (answer : CacheAnswer) (contents now : Contents) (flights held : Flights A) (device device_now : D)
      → RunsWithBy g whole contents flights gs device run → IsAnsweredBy whole run ask answer now held → g.block_count device_now ≡ g.block_count device → g.fault_count device ≤ g.fault_count device_now
      → (cache.IsFault answer → HasRisen (g.fault_count device) (g.fault_count device_now))
      → (g.is_honest device → HasWritten run ask answer (g.contents device) (g.contents device_now))
      → (g.is_honest device → LeavesOnly g device (MayLeave run) → IsCrashSafe g run (after run ask answer) device device_now)
      → IsGroupAnsweredBy g whole run gs (Plain ask) (Plain answer) now held gs device device_now
  plain g whole run gs ask answer contents now flights held device device_now r one count kept met written crash =
      let right : IsGroupAnswer run gs (Plain ask) (Plain answer) ⊎ IsGroupGivenUpBy whole run gs (Plain ask) (Plain answer) = elim one.right [ inl x ↦ inl x | inr x ↦ inr x ] in
      record {
        right = right;
        passed = record {
          stands = record {
            on = record { runs = one.runs; blocks = count ∙ r.on.blocks ∙ ap length (sym (first_stay run ((ask, answer) ∷ []))) };
            groups_are = subst (AreGroupsOf (after run ask answer)) (groups_plain gs ask answer) (ask_keeps ext numbered whole run gs (Plain ask) (Plain answer) r.groups_are right);
          };
          faults = (g.fault_count device_now, record { kept = kept; met = met }, refl);
          written = λ honest. (g.contents device_now, written honest, refl);
          crash = crash;
        };
      }

  -- a call of groups
  pub called : {A D : Type 0} (g : Ghosts D) (whole : Bool) (run : Execution) (gs now : Groups) (ask : Ask) (answer : Answer) (contents : Contents) (flights : Flights A) (device : D)
      → RunsWithBy g whole contents flights gs device run → IsGroupAnswer run gs ask answer ⊎ IsGroupGivenUp run gs ask answer → now ≡ groups_after gs ask answer → part_of gs ask answer ≡ []
      → IsGroupAnsweredBy g whole run gs ask answer contents flights now device device
  called g whole run gs now ask answer contents flights device r told same none =
      let right = right_by whole run gs ask answer told in
      let still : run_after run gs ask answer ≡ run = ap (after_parts run) none in
      record {
        right = right;
        passed = record {
          stands = record {
            on = record { runs = subst (RunsBy whole contents flights) (sym still) r.on.runs; blocks = r.on.blocks ∙ ap (λ s. length s.first) (sym still) };
            groups_are = subst (AreGroupsOf (run_after run gs ask answer)) (sym same) (ask_keeps ext numbered whole run gs ask answer r.groups_are right);
          };
          faults = rw none refl;
          written = λ honest. rw none refl;
          crash = λ honest left. subst (λ s. IsCrashSafe g run s device device) (sym still) (unmoved g run device left);
        };
      }

  -- a patch of a writer
  pub patched : FlyingStays → ImagesStay → DisksStay → {A D : Type 0} (g : Ghosts D) (whole : Bool) (run : Execution) (gs now : Groups) (writer block start : ℕ) (bytes names : List ℕ) (undo : Undo) (answer : Answer)
      (contents next : Contents) (flights : Flights A) (device : D) → RunsWithBy g whole contents flights gs device run → IsPatchedBy whole run gs (Patch writer block start bytes names undo) answer next
      → now ≡ groups_after gs (Patch writer block start bytes names undo) answer → ((told : CacheAnswer) → answer ≡ Plain told → cache.IsFault told → ⊥)
      → IsGroupAnsweredBy g whole run gs (Patch writer block start bytes names undo) answer next flights now device device
  patched flying images stay g whole run gs now writer block start bytes names undo answer contents next flights device r one same other =
      let is = patch_told true run gs writer block start bytes names undo answer one.right in
      subst (λ a. IsGroupAnsweredBy g whole run gs (Patch writer block start bytes names undo) a next flights now device device) (sym is.1)
      (of_cache is.0 (subst (λ a. IsPatchedBy whole run gs (Patch writer block start bytes names undo) a next) is.1 one)
      (subst (λ a. now ≡ groups_after gs (Patch writer block start bytes names undo) a) is.1 same) (λ e. other is.0 is.1 e))
    where
      of_cache : (a : CacheAnswer) → IsPatchedBy whole run gs (Patch writer block start bytes names undo) (Plain a) next → now ≡ groups_after gs (Patch writer block start bytes names undo) (Plain a)
          → (cache.IsFault a → ⊥) → IsGroupAnsweredBy g whole run gs (Patch writer block start bytes names undo) (Plain a) next flights now device device
      of_cache a done are faultless =
          let ask : Ask = Patch writer block start bytes names undo in
          let right = right_by whole run gs ask (Plain a) done.right in
          record {
            right = right;
            passed = record {
              stands = record {
                on = record {
                  runs = record {
                    cache_is = done.cache_is;
                    flights_are = flights_unless ext flying images run (held_by flights) block start bytes (named gs (Some writer) names) undo (cache.is_refused a) r.on.runs.flights_are;
                  };
                  blocks = r.on.blocks ∙ ap length (sym (first_stay run (part_of gs ask (Plain a))));
                };
                groups_are = subst (AreGroupsOf (run_after run gs ask (Plain a))) (sym are) (ask_keeps ext numbered whole run gs ask (Plain a) r.groups_are right);
              };
              faults = (g.fault_count device, record { kept = omega arith; met = λ e. absurd (faultless e) }, refl);
              written = λ honest. (g.contents device, refl, refl);
              crash = λ honest left. made_unless stay g run (cache.is_refused a) (the.Create block start bytes (named gs (Some writer) names) undo) device (λ b e. absurd (cc e))
                  r.on.runs.cache_is.legal done.cache_is.legal left;
            };
          }

  -- on a device that holds the images
  pub called_on_images : {A D : Type 0} (g : Ghosts D) (run : Execution) (gs now : Groups) (ask : Ask) (answer : Answer) (contents : Contents) (flights : Flights A) (device : D)
      → RunsWithImages g contents flights gs device run → IsGroupAnswer run gs ask answer ⊎ IsGroupGivenUp run gs ask answer → now ≡ groups_after gs ask answer → part_of gs ask answer ≡ []
      → IsAnsweredOnImages g run gs ask answer contents flights now device device
  called_on_images g run gs now ask answer contents flights device r right same none = record {
    answered = called g false run gs now ask answer contents flights device r.runs right same none;
    images = subst (λ ps. HoldImages (after_parts run ps) (g.contents device)) (sym none) r.images;
  }

  -- the images behind a patch
  pub patched_images : ImagesStay → (run : Execution) (gs : Groups) (writer block start : ℕ) (bytes names : List ℕ) (undo : Undo) (answer : Answer) (disk : List (List ℕ))
      → IsGroupAnswer run gs (Patch writer block start bytes names undo) answer ⊎ IsGroupGivenUp run gs (Patch writer block start bytes names undo) answer → HoldImages run disk
      → HoldImages (run_after run gs (Patch writer block start bytes names undo) answer) disk
  patched_images images run gs writer block start bytes names undo answer disk right held =
      let is = patch_told true run gs writer block start bytes names undo answer right in
      subst (λ a. HoldImages (run_after run gs (Patch writer block start bytes names undo) a) disk) (sym is.1) (by (cache.is_refused is.0))
    where
      by : (refused : Bool) → HoldImages (if refused then run else extended run (the.Create block start bytes (named gs (Some writer) names) undo)) disk
      by true = held
      by false =
          let next : Step = the.Create block start bytes (named gs (Some writer) names) undo in
          record {
            count = held.count;
            images = λ b known none. held.images b known (sym (ap (λ st. has_flight st b) (ext run next)) ∙ none) ∙ sym (images run next b (λ e. absurd (cc e)));
          }
