-- Asks that are refused, or given up.
use Rattle.std.proofs.Common.{◌≡◌, ℕ, ◌⊎◌, ◌∙◌, inl, inr, Option, Some, None, min, refl, ap}
use Rattle.patch_model.specs.declared.refusals.Refusal.{Refusal}
use Rattle.patch_model.specs.declared.refusals.RefusalKind.TheVariants as kind
use Rattle.patch_model.specs.Execution.{Execution}
use Rattle.patch_model.specs.State.{entries_of, class_of}
use Rattle.patch_model.specs.Refusing.{bare}
use Rattle.patch_cache.specs.Refusals.{IsCause, IsMergeCause, against, no_memory}
use Rattle.patch_cache.specs.Asks.{Answer, Merge, Merged, Refused, IsAnswer, IsGivenUp, unless}

-- the first cause that holds, or want of memory where none does
pub refused : (why : Option Refusal) (told cause : Refusal) (done : Answer) → told ≡ cause → IsCause why cause
    → (Refused told ≡ unless why done) ⊎ ((why ≡ None) × (Refused told ≡ Refused (bare kind.OutOfMemory)))
refused None told cause done is none = inr (refl, ap Refused (is ∙ none))
refused (Some first) told cause done is same = inl (ap Refused (is ∙ same))

pub merge_refused : (run : Execution) (a b : ℕ) (cause : Refusal) → IsMergeCause (entries_of run) a b cause
    → IsAnswer run (Merge a b) (Refused cause) ⊎ IsGivenUp run (Merge a b) (Refused cause)
merge_refused run a b cause (against why) = inl why
merge_refused run a b cause (no_memory lawful) =
    inr (record { done = Merged (min (class_of (entries_of run) a) (class_of (entries_of run) b)); right = (lawful, refl); not_refused = refl; gives_up = inl (refl, refl) })
