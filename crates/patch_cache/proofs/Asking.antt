-- Answers, one more at a time.
use Rattle.std.proofs.Common.{◌≡◌, ℕ, ◌<◌, ◌⊎◌, ◌∙◌, Bool, true, false, Option, Some, None, List, [], ◌∷◌, ◌++◌, length, get_or, append_assoc, refl, sym, ap, subst, arith}
use Rattle.std.proofs.lemmas.List.{append-nil}
use Rattle.patch_model.specs.Step.{Step}
use Rattle.patch_model.specs.Execution.{Execution, followed_by}
use Rattle.patch_cache.specs.Asks.{Ask, Answer, IsAnswer, IsGivenUpBy, AreAnswersBy, is_refused, step_for, step_added, steps_added, extended_by, after, after_all}
use Rattle.patch_cache.specs.Running.{CountsFaults, CountFaults, HasWritten, HaveWritten}

pub after_none : (run : Execution) (asks : List Ask) → after_all run asks [] ≡ run
after_none run [] = refl
after_none run (a ∷ asks) = refl

step_of_ask : (run : Execution) (step : Option Step) → (more : List Step) × (extended_by run step ≡ followed_by run more)
step_of_ask run None = ([], ap (λ (s : List Step). record { first = run.first; steps = s }) (sym (append-nil run.steps)))
step_of_ask run (Some step) = (step ∷ [], refl)

-- the answer to the next ask
pub one_more : (whole : Bool) (run : Execution) (asks : List Ask) (answers : List Answer) (ask : Ask) (answer : Answer)
    → length answers < length asks → get_or asks (length answers) ask ≡ ask → AreAnswersBy whole run asks answers
    → IsAnswer (after_all run asks answers) ask answer ⊎ IsGivenUpBy whole (after_all run asks answers) ask answer
    → AreAnswersBy whole run asks (answers ++ answer ∷ []) × (after_all run asks (answers ++ answer ∷ []) ≡ after (after_all run asks answers) ask answer)
one_more whole run [] answers ask answer h at so_far right = absurd (omega arith)
one_more whole run (a ∷ asks) [] ask answer h at so_far right = rw at ((right, tt), after_none (after run ask answer) asks)
one_more whole run (a ∷ asks) (b ∷ answers) ask answer h at so_far right =
    let r = one_more whole (after run a b) asks answers ask answer (omega arith) at so_far.1 right in ((so_far.0, r.0), r.1)

-- and what it has made of the disk
pub one_more_written : (run : Execution) (asks : List Ask) (answers : List Answer) (ask : Ask) (answer : Answer) (old between new : List (List ℕ))
    → length answers < length asks → get_or asks (length answers) ask ≡ ask → HaveWritten run asks answers old between
    → HasWritten (after_all run asks answers) ask answer between new
    → HaveWritten run asks (answers ++ answer ∷ []) old new
one_more_written run [] answers ask answer old between new h at so_far one = absurd (omega arith)
one_more_written run (a ∷ asks) [] ask answer old between new h at so_far one =
    (new, subst (λ d. HasWritten run a answer d new) so_far (subst (λ k. HasWritten run k answer between new) (sym at) one), refl)
one_more_written run (a ∷ asks) (b ∷ answers) ask answer old between new h at so_far one =
    (so_far.0, so_far.1, one_more_written (after run a b) asks answers ask answer so_far.0 between new (omega arith) at so_far.2 one)

-- and the steps that it has added
pub one_more_added : (asks : List Ask) (answers : List Answer) (ask : Ask) (answer : Answer)
    → length answers < length asks → get_or asks (length answers) ask ≡ ask
    → steps_added asks (answers ++ answer ∷ []) ≡ steps_added asks answers ++ step_added ask answer
one_more_added [] answers ask answer h at = absurd (omega arith)
one_more_added (a ∷ asks) [] ask answer h at = ap (λ x. step_added x answer ++ steps_added asks []) at ∙ append-nil (step_added ask answer)
one_more_added (a ∷ asks) (b ∷ answers) ask answer h at =
    ap (λ xs. step_added a b ++ xs) (one_more_added asks answers ask answer (omega arith) at) ∙ sym (append_assoc (step_added a b) (steps_added asks answers) (step_added ask answer))

-- An ask adds at most one step.

pub follows : (run : Execution) (ask : Ask) (answer : Answer) → (more : List Step) × (after run ask answer ≡ followed_by run more)
follows run ask answer = by (is_refused answer) refl
  where
    by : (b : Bool) → is_refused answer ≡ b → (more : List Step) × (after run ask answer ≡ followed_by run more)
    by true r = ([], rw r (ap (λ (s : List Step). record { first = run.first; steps = s }) (sym (append-nil run.steps))))
    by false r = let o = step_of_ask run (step_for ask) in (o.0, rw r o.1)

pub first_stays : (run : Execution) (ask : Ask) (answer : Answer) → (after run ask answer).first ≡ run.first
first_stays run ask answer = ap (λ (r : Execution). r.first) (follows run ask answer).1

pub all_first : (run : Execution) (asks : List Ask) (answers : List Answer) → (after_all run asks answers).first ≡ run.first
all_first run [] answers = refl
all_first run (a ∷ asks) [] = refl
all_first run (a ∷ asks) (b ∷ answers) = all_first (after run a b) asks answers ∙ first_stays run a b

-- Faults.

-- one more answer, with a rise of its own where it tells of a fault
pub one_more_counted : (answers : List Answer) (answer : Answer) (old between new : ℕ)
    → CountFaults answers old between → CountsFaults answer between new → CountFaults (answers ++ answer ∷ []) old new
one_more_counted [] answer old between new same one = (new, subst (λ n. CountsFaults answer n new) (sym same) one, refl)
one_more_counted (b ∷ answers) answer old between new so_far one = (so_far.0, so_far.1, one_more_counted answers answer so_far.0 between new so_far.2 one)
