-- What the cache does, one part after another.
use Rattle.std.proofs.Common.{◌≡◌, ℕ, Bool, false, ◌<◌, ◌≤◌, ◌⊎◌, ◌∙◌, inl, inr, Option, Some, None, List, [], ◌∷◌, ◌++◌, length, map, get_or, refl, sym, ap, subst, arith, append_assoc}
use Rattle.std.proofs.lemmas.Bool.{cases_Bool}
use Rattle.std.proofs.lemmas.List.{map-append, length-map, append-nil}
use Rattle.patch_model.specs.Step.{Step}
use Rattle.patch_model.specs.Execution.{Execution, followed_by}
use Rattle.patch_model.specs.Crash.{MayLeave}
use Rattle.patch_device.specs.Device.{elapses_still}
use Rattle.patch_device.specs.SameDevice.{LeavesOnly}
use Rattle.patch_device.specs.declared.devices.Device.{Ghosts}
use Rattle.patch_cache.specs.Contents.{Contents}
use Rattle.patch_cache.specs.Asks.{Ask as CacheAsk, Answer as CacheAnswer, after, extended_by, step_for, step_added, steps_added, listed}
use Rattle.patch_cache.specs.Asks as cache
use Rattle.patch_cache.specs.Joining.{SafeJoin}
use Rattle.patch_cache.specs.Running.{IsCrashSafe, CountFaults, HaveWritten}
use Rattle.patch_cache.specs.Waves.{HoldImages}
use Rattle.patch_cache.specs.declared.flights.Flights.{Flights}
use Rattle.patch_plans.specs.Groups.{Groups}
use Rattle.patch_group.specs.Asks.{Ask, Answer, Part, cache_asks, cache_answers, after_parts, steps_of, part_of, parts, run_after, run_after_all, groups_after, groups_after_all, IsGroupAnswer, IsGroupGivenUpBy, AreGroupAnswersBy}
use Rattle.patch_group.specs.Runs.{asks_of, group_ask_of, group_answer_of, RunsWithBy, RunsWithImages, HasPassedBy, IsGroupAnsweredBy, IsAnsweredOnImages, HasGroupRunBy, HasGroupRunOnImages}
use Rattle.patch_group.specs.declared.asks.GroupAsk.{GroupAsk as CodeAsk}
use Rattle.patch_group.specs.declared.asks.GroupAnswer.{GroupAnswer as CodeAnswer}
use Rattle.patch_group.proofs.Asking.{after_append}
use Rattle.patch_group.proofs.Keeping.{get_or-map}

-- on a device that is as before, with an execution that is
pub unmoved : {D : Type 0} (g : Ghosts D) (run : Execution) (device : D) → LeavesOnly g device (MayLeave run) → IsCrashSafe g run run device device
unmoved g run device left = record { time = elapses_still (g.moment device) (g.left_at device); counts = []; moments = omega arith; trail = omega arith; left = left }

-- one call after another
joined : {D : Type 0} (g : Ghosts D) → SafeJoin g → (a b c : Execution) (more : List Step) (before mid now : D) → c ≡ followed_by b more
    → IsCrashSafe g a b before mid → IsCrashSafe g b c mid now → IsCrashSafe g a c before now
joined g join a b c more before mid now follows first second =
    subst (λ r. IsCrashSafe g a r before now) (sym follows) (join a b more before mid now first (subst (λ r. IsCrashSafe g b r mid now) follows second))

-- Steps of parts.

abbrev with_steps : Execution → List Step → Execution
with_steps run steps = record { first = run.first; steps = steps }

after_is : (run : Execution) (ask : CacheAsk) (answer : CacheAnswer) → after run ask answer ≡ followed_by run (step_added ask answer)
after_is run ask answer = elim (cases_Bool (cache.is_refused answer)) [
  | inl t ↦ rw t (ap (λ s. with_steps run s) (sym (append-nil run.steps)))
  | inr f ↦ rw f (stepped (step_for ask))
]
  where
    stepped : (step : Option Step) → extended_by run step ≡ followed_by run (listed step)
    stepped None = ap (λ s. with_steps run s) (sym (append-nil run.steps))
    stepped (Some step) = refl

pub parts_follow : (run : Execution) (ps : List Part) → after_parts run ps ≡ followed_by run (steps_of ps)
parts_follow run [] = ap (λ s. with_steps run s) (sym (append-nil run.steps))
parts_follow run (p ∷ ps) =
    parts_follow (after run p.0 p.1) ps ∙ ap (λ r. followed_by r (steps_of ps)) (after_is run p.0 p.1)
    ∙ ap (λ s. with_steps run s) (append_assoc run.steps (step_added p.0 p.1) (steps_of ps))

pub steps_append : (ps qs : List Part) → steps_of (ps ++ qs) ≡ steps_of ps ++ steps_of qs
steps_append [] qs = refl
steps_append (p ∷ ps) qs = ap (λ s. step_added p.0 p.1 ++ s) (steps_append ps qs) ∙ sym (append_assoc (step_added p.0 p.1) (steps_of ps) (steps_of qs))

-- Faults and writes of parts.

faults_append : (ps qs : List Part) (old between new : ℕ) → CountFaults (cache_answers ps) old between → CountFaults (cache_answers qs) between new → CountFaults (cache_answers (ps ++ qs)) old new
faults_append [] qs old between new first second = subst (λ n. CountFaults (cache_answers qs) n new) (sym first) second
faults_append (p ∷ ps) qs old between new first second = (first.0, first.1, faults_append ps qs first.0 between new first.2 second)

written_append : (run : Execution) (ps qs : List Part) (old between new : List (List ℕ)) → HaveWritten run (cache_asks ps) (cache_answers ps) old between
    → HaveWritten (after_parts run ps) (cache_asks qs) (cache_answers qs) between new → HaveWritten run (cache_asks (ps ++ qs)) (cache_answers (ps ++ qs)) old new
written_append run [] qs old between new first second = subst (λ c. HaveWritten run (cache_asks qs) (cache_answers qs) c new) first second
written_append run (p ∷ ps) qs old between new first second = (first.0, first.1, written_append (after run p.0 p.1) ps qs first.0 between new first.2 second)

-- Nothing, and one thing after another.

pub idle : {A D : Type 0} (g : Ghosts D) (whole : Bool) (run : Execution) (contents : Contents) (flights : Flights A) (groups : Groups) (device : D) → RunsWithBy g whole contents flights groups device run
    → HasPassedBy g whole run [] contents flights groups device device
idle g whole run contents flights groups device stands = record {
  stands = stands;
  faults = refl;
  written = λ honest. refl;
  crash = λ honest left. unmoved g run device left;
}

pub both : {A D : Type 0} (g : Ghosts D) → SafeJoin g → (whole : Bool) (run : Execution) (ps qs : List Part) (contents next : Contents) (flights more : Flights A) (groups now : Groups) (device between after : D)
    → (g.is_honest device → g.is_honest between)
    → HasPassedBy g whole run ps contents flights groups device between → HasPassedBy g whole (after_parts run ps) qs next more now between after → HasPassedBy g whole run (ps ++ qs) next more now device after
both g join whole run ps qs contents next flights more groups now device between after honesty first second =
    let flat : after_parts run (ps ++ qs) ≡ after_parts (after_parts run ps) qs = after_append run ps qs in
    record {
      stands = subst (RunsWithBy g whole next more now after) (sym flat) second.stands;
      faults = faults_append ps qs _ _ _ first.faults second.faults;
      written = λ honest. written_append run ps qs _ _ _ (first.written honest) (second.written (honesty honest));
      crash = λ honest left.
          let one = first.crash honest left in
          subst (λ r. IsCrashSafe g run r device after) (sym flat)
          (joined g join run (after_parts run ps) (after_parts (after_parts run ps) qs) (steps_of qs) device between after (parts_follow (after_parts run ps) qs) one (second.crash (honesty honest) one.left));
    }

-- Lists of asks.

pub parts_none : (gs : Groups) (asks : List Ask) → parts gs asks [] ≡ []
parts_none gs [] = refl
parts_none gs (a ∷ asks) = refl

pub groups_none : (gs : Groups) (asks : List Ask) → groups_after_all gs asks [] ≡ gs
groups_none gs [] = refl
groups_none gs (a ∷ asks) = refl

-- what one more answer makes
pub record IsNext (gs : Groups) (asks : List Ask) (answers : List Answer) (ask : Ask) (answer : Answer) : Type 0 where
  pub parts_are : parts gs asks (answers ++ answer ∷ []) ≡ parts gs asks answers ++ part_of (groups_after_all gs asks answers) ask answer
  pub groups_are : groups_after_all gs asks (answers ++ answer ∷ []) ≡ groups_after (groups_after_all gs asks answers) ask answer

next : (gs : Groups) (asks : List Ask) (answers : List Answer) (ask : Ask) (answer : Answer) → length answers < length asks → get_or asks (length answers) ask ≡ ask → IsNext gs asks answers ask answer
next gs [] answers ask answer within at = absurd (omega (arith, within))
next gs (a ∷ asks) [] ask answer within at = record {
  parts_are = ap (λ ps. part_of gs a answer ++ ps) (parts_none (groups_after gs a answer) asks) ∙ append-nil (part_of gs a answer) ∙ ap (λ x. part_of gs x answer) at;
  groups_are = groups_none (groups_after gs a answer) asks ∙ ap (λ x. groups_after gs x answer) at;
}
next gs (a ∷ asks) (b ∷ answers) ask answer within at =
    let now = groups_after gs a b in
    let rest = next now asks answers ask answer (omega (arith, within)) at in
    record {
      parts_are = ap (λ ps. part_of gs a b ++ ps) rest.parts_are ∙ sym (append_assoc (part_of gs a b) (parts now asks answers) (part_of (groups_after_all now asks answers) ask answer));
      groups_are = rest.groups_are;
    }

-- the answer is right after those before it
abbrev IsRightAfter : (whole : Bool) → Execution → Groups → Ask → Answer → Type 0
IsRightAfter whole run gs ask answer = IsGroupAnswer run gs ask answer ⊎ IsGroupGivenUpBy whole run gs ask answer

one_right : (whole : Bool) (run : Execution) (gs : Groups) (asks : List Ask) (answers : List Answer) (ask : Ask) (answer : Answer) → length answers < length asks → get_or asks (length answers) ask ≡ ask
    → AreGroupAnswersBy whole run gs asks answers → IsRightAfter whole (run_after_all run gs asks answers) (groups_after_all gs asks answers) ask answer → AreGroupAnswersBy whole run gs asks (answers ++ answer ∷ [])
one_right whole run gs [] answers ask answer within at so_far right = absurd (omega (arith, within))
one_right whole run gs (a ∷ asks) [] ask answer within at so_far right = (subst (λ x. IsRightAfter whole run gs x answer) (sym at) right, tt)
one_right whole run gs (a ∷ asks) (b ∷ answers) ask answer within at so_far right =
    let now = groups_after gs a b in (
      so_far.0,
      one_right whole (run_after run gs a b) now asks answers ask answer (omega (arith, within)) at so_far.1
          (subst (λ r. IsRightAfter whole r (groups_after_all now asks answers) ask answer) (after_append run (part_of gs a b) (parts now asks answers)) right),
    )

there : {A : Type 0} (asks : List (CodeAsk A)) (answers : List (CodeAnswer A)) (ask : CodeAsk A) → length answers < length asks → get_or asks (length answers) ask ≡ ask
    → get_or (asks_of asks) (length (map group_answer_of answers)) (group_ask_of ask) ≡ group_ask_of ask
there asks answers ask within at =
    ap (λ n. get_or (asks_of asks) n (group_ask_of ask)) (length-map answers group_answer_of) ∙ get_or-map group_ask_of asks (length answers) ask (group_ask_of ask) within ∙ ap group_ask_of at

-- the same of the code's
pub next_code : {A : Type 0} (gs : Groups) (asks : List (CodeAsk A)) (answers : List (CodeAnswer A)) (ask : CodeAsk A) (answer : CodeAnswer A) → length answers < length asks → get_or asks (length answers) ask ≡ ask
    → IsNext gs (asks_of asks) (map group_answer_of answers) (group_ask_of ask) (group_answer_of answer)
next_code gs asks answers ask answer within at =
    let long : length (map group_answer_of answers) ≡ length answers = length-map answers group_answer_of in
    let many : length (asks_of asks) ≡ length asks = length-map asks group_ask_of in
    next gs (asks_of asks) (map group_answer_of answers) (group_ask_of ask) (group_answer_of answer) (omega (arith, within, long, many)) (there asks answers ask within at)

pub begun_run : {A D : Type 0} (g : Ghosts D) (whole : Bool) (run : Execution) (gs : Groups) (asks : List Ask) (contents : Contents) (flights : Flights A) (device : D) → RunsWithBy g whole contents flights gs device run
    → HasGroupRunBy g whole run gs asks [] contents flights gs device device
begun_run g whole run gs asks contents flights device stands = record {
  right = tt;
  passed = subst (λ ps. HasPassedBy g whole run ps contents flights gs device device) (sym (parts_none gs asks)) (idle g whole run contents flights gs device stands);
}

pub stepped_run : {A D : Type 0} (g : Ghosts D) → SafeJoin g → (whole : Bool) (run : Execution) (gs : Groups) (asks : List (CodeAsk A)) (answers : List (CodeAnswer A)) (ask : CodeAsk A) (answer : CodeAnswer A)
    (contents next : Contents) (flights more : Flights A) (mid now : Groups) (device between after : D) → length answers < length asks → get_or asks (length answers) ask ≡ ask
    → mid ≡ groups_after_all gs (asks_of asks) (map group_answer_of answers) → (g.is_honest device → g.is_honest between)
    → HasGroupRunBy g whole run gs (asks_of asks) (map group_answer_of answers) contents flights mid device between
    → IsGroupAnsweredBy g whole (run_after_all run gs (asks_of asks) (map group_answer_of answers)) mid (group_ask_of ask) (group_answer_of answer) next more now between after
    → HasGroupRunBy g whole run gs (asks_of asks) (map group_answer_of (answers ++ answer ∷ [])) next more now device after
stepped_run g join whole run gs asks answers ask answer contents next flights more mid now device between after within at are honesty so_far one =
    let given : List Answer = map group_answer_of answers in
    let wanted : List Ask = asks_of asks in
    let long : length given ≡ length answers = length-map answers group_answer_of in
    let many : length wanted ≡ length asks = length-map asks group_ask_of in
    let last : Execution = run_after_all run gs wanted given in
    let is : map group_answer_of (answers ++ answer ∷ []) ≡ given ++ group_answer_of answer ∷ [] = map-append group_answer_of answers (answer ∷ []) in
    let turns = next_code gs asks answers ask answer within at in
    let done = both g join whole run (parts gs wanted given) (part_of mid (group_ask_of ask) (group_answer_of answer)) contents next flights more mid now device between after honesty so_far.passed one.passed in
    let is_parts : parts gs wanted (map group_answer_of (answers ++ answer ∷ [])) ≡ parts gs wanted given ++ part_of mid (group_ask_of ask) (group_answer_of answer) =
    ap (λ xs. parts gs wanted xs) is ∙ turns.parts_are ∙ ap (λ s. parts gs wanted given ++ part_of s (group_ask_of ask) (group_answer_of answer)) (sym are) in
    record {
      right = subst (AreGroupAnswersBy whole run gs wanted) (sym is)
          (one_right whole run gs wanted given (group_ask_of ask) (group_answer_of answer) (omega (arith, within, long, many)) (there asks answers ask within at) so_far.right
          (subst (λ s. IsRightAfter whole last s (group_ask_of ask) (group_answer_of answer)) are one.right));
      passed = subst (λ ps. HasPassedBy g whole run ps next more now device after) (sym is_parts) done;
    }

-- Lists on a device that holds the images.

pub begun_on_images : {A D : Type 0} (g : Ghosts D) (run : Execution) (gs : Groups) (asks : List Ask) (contents : Contents) (flights : Flights A) (device : D)
    → RunsWithImages g contents flights gs device run → HasGroupRunOnImages g run gs asks [] contents flights gs device device
begun_on_images g run gs asks contents flights device r =
    record { ran = begun_run g false run gs asks contents flights device r.runs; images = subst (λ ps. HoldImages (after_parts run ps) (g.contents device)) (sym (parts_none gs asks)) r.images }

pub stepped_on_images : {A D : Type 0} (g : Ghosts D) → SafeJoin g → (run : Execution) (gs : Groups) (asks : List (CodeAsk A)) (answers : List (CodeAnswer A)) (ask : CodeAsk A) (answer : CodeAnswer A)
    (contents next : Contents) (flights more : Flights A) (mid now : Groups) (device between after : D) → length answers < length asks → get_or asks (length answers) ask ≡ ask
    → mid ≡ groups_after_all gs (asks_of asks) (map group_answer_of answers) → (g.is_honest device → g.is_honest between)
    → HasGroupRunOnImages g run gs (asks_of asks) (map group_answer_of answers) contents flights mid device between
    → IsAnsweredOnImages g (run_after_all run gs (asks_of asks) (map group_answer_of answers)) mid (group_ask_of ask) (group_answer_of answer) next more now between after
    → HasGroupRunOnImages g run gs (asks_of asks) (map group_answer_of (answers ++ answer ∷ [])) next more now device after
stepped_on_images g join run gs asks answers ask answer contents next flights more mid now device between after within at are honesty so_far one =
    let given : List Answer = map group_answer_of answers in
    let wanted : List Ask = asks_of asks in
    let is : map group_answer_of (answers ++ answer ∷ []) ≡ given ++ group_answer_of answer ∷ [] = map-append group_answer_of answers (answer ∷ []) in
    let is_parts : parts gs wanted (map group_answer_of (answers ++ answer ∷ [])) ≡ parts gs wanted given ++ part_of mid (group_ask_of ask) (group_answer_of answer) =
    ap (λ xs. parts gs wanted xs) is ∙ (next_code gs asks answers ask answer within at).parts_are ∙ ap (λ s. parts gs wanted given ++ part_of s (group_ask_of ask) (group_answer_of answer)) (sym are) in
    record {
      ran = stepped_run g join false run gs asks answers ask answer contents next flights more mid now device between after within at are honesty so_far.ran one.answered;
      images = subst (λ r. HoldImages r (g.contents after)) (sym (ap (after_parts run) is_parts ∙ after_append run (parts gs wanted given) (part_of mid (group_ask_of ask) (group_answer_of answer)))) one.images;
    }

-- as many asks are answered as were gone through
pub fewer_answered : {X Y Z : Type 0} → (tell : X → Y) (was now : List X) (asks : List Z) (i : ℕ) → now ≡ was → length was ≡ i → i < length asks → length (map tell now) < length asks
fewer_answered tell was now asks i same many low = subst (λ n. n < length asks) (sym (length-map now tell ∙ ap length same ∙ many)) low

pub all_answered : {X Y Z : Type 0} → (tell : X → Y) (answers : List X) (asks : List Z) (i : ℕ) → length answers ≡ i → length asks ≤ i → i ≤ length asks → length (map tell answers) ≡ length asks
all_answered tell answers asks i many low high = length-map answers tell ∙ many ∙ omega arith

-- a call in which the cache has no part adds nothing to its trace
pub nothing_added : (trace : List Step) (done : List Part) → done ≡ [] → trace ≡ trace ++ steps_of done
nothing_added trace done none = sym (ap (λ ps. trace ++ steps_of ps) none ∙ append-nil trace)
