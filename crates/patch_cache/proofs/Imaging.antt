-- The images that a device holds behind an ask.
use Rattle.std.proofs.Common.{◌≡◌, ℕ, ◌⊎◌, inl, inr, ◌∙◌, false, List, refl, sym, ap, subst}
use Rattle.std.proofs.lemmas.Bool.{cases_Bool, both_ways}
use Rattle.patch_model.specs.declared.refusals.RefusalKind.TheVariants as kind
use Rattle.patch_model.specs.Step.{Step}
use Rattle.patch_model.specs.Step as step
use Rattle.patch_model.specs.Execution.{Execution, extended}
use Rattle.patch_model.specs.State.{after_step, state_of, has_flight}
use Rattle.patch_model.specs.History.{history_of, image}
use Rattle.patch_model.specs.Refusing.{bare}
use Rattle.patch_cache.specs.Asks.{Ask, Create, Merge, Send, Complete, View, Answer, Made, Merged, Sent, Landed, Seen, Refused, IsFault, IsAnswer, IsGivenUpBy, is_refused, after}
use Rattle.patch_cache.specs.Running.{HasWritten}
use Rattle.patch_cache.specs.Waves.{HoldImages}
use Rattle.patch_cache.proofs.HeldFlights.{StatesExtend, ImagesStay}
use Rattle.patch_cache.proofs.Plain.{either, view_kept}
use Rattle.patch_cache.proofs.Serving.{stranger_faultless}
use Rattle.patch_cache.proofs.Waving.{images_sent, images_either, images_landed}

-- behind a step that begins no write and ends none
still : StatesExtend → (run : Execution) (next : Step) (contents : List (List ℕ)) → ((b : ℕ) → has_flight (after_step (state_of run) next) b ≡ has_flight (state_of run) b)
    → ((b : ℕ) → image (history_of (extended run next) b) ≡ image (history_of run b)) → HoldImages run contents → HoldImages (extended run next) contents
still extend run next contents flights images held = record {
  count = held.count;
  images = λ b known none. held.images b known (sym (flights b) ∙ sym (ap (λ st. has_flight st b) (extend run next)) ∙ none) ∙ sym (images b);
}

-- a completion tells of a fault where the block has a flight alone
no_fault : (run : Execution) (block : ℕ) (answer : Answer) → IsAnswer run (Complete block) answer ⊎ IsGivenUpBy false run (Complete block) answer
    → has_flight (state_of run) block ≡ false → IsFault answer → ⊥
no_fault run block answer (inl right) none fault = let told : answer ≡ Refused (bare kind.Stranger) = rw none at right in stranger_faultless (bare kind.Stranger) refl (subst IsFault told fault)
no_fault run block answer (inr (inl given)) none fault =
    let right = given.right in
    let told : given.done ≡ Refused (bare kind.Stranger) = rw none at right in both_ways _ given.not_refused (ap is_refused told)
no_fault run block answer (inr (inr missed)) none fault = let named = missed.named in absurd (cc)

ended : StatesExtend → ImagesStay → (run : Execution) (block : ℕ) (answer : Answer) (contents now : List (List ℕ)) → IsAnswer run (Complete block) answer ⊎ IsGivenUpBy false run (Complete block) answer
    → HasWritten run (Complete block) answer contents now → HoldImages run contents → HoldImages (after run (Complete block) answer) now
ended extend stay run block (Refused cause) contents now right (inl same) held = subst (HoldImages run) (sym same) held
ended extend stay run block (Refused cause) contents now right (inr done) held = elim (cases_Bool (has_flight (state_of run) block)) [
  | inl flies ↦ images_either run block (image (history_of run block)) contents now flies (inr done.1) held
  | inr none ↦ absurd (no_fault run block (Refused cause) right none done.0)
]
ended extend stay run block (Made number) contents now right done held = images_landed extend stay run block contents now done held
ended extend stay run block (Merged name) contents now right done held = images_landed extend stay run block contents now done held
ended extend stay run block (Sent at numbers bytes) contents now right done held = images_landed extend stay run block contents now done held
ended extend stay run block (Landed at numbers) contents now right done held = images_landed extend stay run block contents now done held
ended extend stay run block (Seen left all) contents now right done held = images_landed extend stay run block contents now done held

-- behind an ask that was answered, and has written what it writes
pub images_after : StatesExtend → ImagesStay → (run : Execution) (ask : Ask) (answer : Answer) (contents now : List (List ℕ)) → IsAnswer run ask answer ⊎ IsGivenUpBy false run ask answer
    → HasWritten run ask answer contents now → HoldImages run contents → HoldImages (after run ask answer) now
images_after extend stay run (Create block start bytes named undo) answer contents now right same held =
    let kept : HoldImages run now = subst (HoldImages run) (sym same) held in
    let next : Step = step.Create block start bytes named undo in
    either (λ r. HoldImages r now) run (Create block start bytes named undo) (is_refused answer) kept
    (still extend run next now (λ b. refl) (λ b. stay run next b (λ e. absurd (cc))) kept)
images_after extend stay run (Merge x y) answer contents now right same held =
    let kept : HoldImages run now = subst (HoldImages run) (sym same) held in
    either (λ r. HoldImages r now) run (Merge x y) (is_refused answer) kept
    (still extend run (step.Merge x y) now (λ b. refl) (λ b. stay run (step.Merge x y) b (λ e. absurd (cc))) kept)
images_after extend stay run (Send block) answer contents now right same held =
    let kept : HoldImages run now = subst (HoldImages run) (sym same) held in
    either (λ r. HoldImages r now) run (Send block) (is_refused answer) kept (images_sent extend stay run block now kept)
images_after extend stay run (Complete block) answer contents now right written held = ended extend stay run block answer contents now right written held
images_after extend stay run (View block moves start len) answer contents now right same held =
    view_kept (λ r. HoldImages r now) run block moves start len answer (subst (HoldImages run) (sym same) held)
