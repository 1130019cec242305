-- What comes of a merge that is tried.
use Rattle.std.proofs.Common.{◌≡◌, ℕ, ◌∙◌, Bool, true, false, List, [], ◌∷◌, ◌++◌, Option, Some, None, Result, Ok, Err, refl, sym, ap, subst, append-nil}
use Rattle.std.specs.Prelude.{◌↔◌, if◌then◌else◌, IfOk, IfErr, OnOk, OnErr}
use Rattle.patch_model.specs.declared.refusals.Refusal.{Refusal}
use Rattle.patch_model.specs.declared.refusals.RefusalKind.{RefusalKind}
use Rattle.patch_model.specs.declared.refusals.RefusalKind.TheVariants as kind
use Rattle.patch_model.specs.Step.{Merge}
use Rattle.patch_model.specs.Entry.{Entry}
use Rattle.patch_model.specs.Execution.{Execution, followed_by}
use Rattle.patch_model.specs.State.{entries_of}
use Rattle.patch_model.specs.Legal.{IsLegalMerge}
use Rattle.patch_model.specs.Refusing.{bare, why_no_pair, IsBetween}
use Rattle.patch_cache.specs.Contents.{Contents}
use Rattle.patch_cache.specs.Meaning.{IsCacheOf}
use Rattle.patch_cache.specs.Merging.{IsMerged}
use Rattle.patch_cache.specs.Refusals.{merge_cause, IsWhyNotMerged, sooner, between, IsMergeCause, against, no_memory}
use Rattle.patch_cache.specs.declared.refusals.MergeRefusal.{MergeRefusal}
use Rattle.patch_cache.specs.declared.refusals.MergeRefusal.TheVariants as refusal
use Rattle.patch_extent.specs.declared.places.MergeOutcome.{MergeOutcome}
use Rattle.patch_extent.specs.declared.places.MergeOutcome.TheVariants as merge
use Rattle.patch_extent.specs.Appending.{MergesBehind}
use Rattle.patch_extent.specs.Merging.{IsOutcome, is_made, told_by, outcome_of}
use Rattle.patch_extent.proofs.Making.{followed_none}

-- two classes merge just where no cause stands against it
abbrev pub PairLaw : Type 0
PairLaw = (all : List Entry) (a b : ℕ) → ((why_no_pair all a b ≡ None) × ((c : ℕ) → IsBetween all a b c → ⊥)) ↔ IsLegalMerge all a b

not_legal : PairLaw → (all : List Entry) (a b : ℕ) (cause : Refusal) → IsLegalMerge all a b → IsWhyNotMerged all a b cause → ⊥
not_legal law all a b cause legal (sooner some) = let none = ((law all a b).1 legal).0 in cc
not_legal law all a b cause legal (between {n = n} none least) = ((law all a b).1 legal).1 n least.is

-- Want of memory is no cause of a pair.

abbrev NotMemory : Option Refusal → Type 0
NotMemory why = why ≡ Some (bare kind.OutOfMemory) → ⊥

abbrev told_kind : Refusal → Option Refusal → RefusalKind
told_kind other None = other.kind
told_kind other (Some r) = r.kind

other : (k : RefusalKind) (n : Option ℕ) → (k ≡ kind.OutOfMemory → ⊥) → NotMemory (Some (record { kind = k; number = n }))
other k n differs same = differs (ap (told_kind (bare k)) same)

one_of : (b : Bool) (x y : Option Refusal) → NotMemory x → NotMemory y → NotMemory (if b then x else y)
one_of true x y p q = p
one_of false x y p q = q

none_is : NotMemory None
none_is same = cc

pair_has_memory : (all : List Entry) (a b : ℕ) → NotMemory (why_no_pair all a b)
pair_has_memory all a b =
    one_of _ _ _ (other kind.Unknown None (λ s. cc))
    (one_of _ _ _ (other kind.NotInMemory (Some a) (λ s. cc))
    (one_of _ _ _ (other kind.NotInMemory (Some b) (λ s. cc))
    (one_of _ _ _ (other kind.Same None (λ s. cc))
    (one_of _ _ _ (other kind.OtherBlock None (λ s. cc))
    (one_of _ _ _ (other kind.Hard (Some a) (λ s. cc))
    (one_of _ _ _ (other kind.Hard (Some b) (λ s. cc))
    (one_of _ _ _ (other kind.Apart None (λ s. cc)) none_is)))))))

never_memory : (all : List Entry) (a b : ℕ) (cause : Refusal) → cause ≡ bare kind.OutOfMemory → IsWhyNotMerged all a b cause → ⊥
never_memory all a b cause same (sooner some) = pair_has_memory all a b (some ∙ ap Some same)
never_memory all a b cause same (between {n = n} none least) = other kind.WouldCycle (Some n) (λ s. cc) (ap Some same)

-- It is answered where the merge is legal, and every other refusal where it isn't.

legal_then : (all : List Entry) (a b : ℕ) (cause : Refusal) → cause ≡ bare kind.OutOfMemory → IsMergeCause all a b cause → IsLegalMerge all a b
legal_then all a b cause same (against why) = absurd (never_memory all a b cause same why)
legal_then all a b cause same (no_memory legal) = legal

never_then : PairLaw → (all : List Entry) (a b : ℕ) (cause : Refusal) → NotMemory (Some cause) → IsMergeCause all a b cause → IsLegalMerge all a b → ⊥
never_then law all a b cause differs (against why) legal = not_legal law all a b cause legal why
never_then law all a b cause differs (no_memory _) legal = differs refl

refusal_is : PairLaw → (all : List Entry) (a b : ℕ) (why : MergeRefusal) → IsMergeCause all a b (merge_cause why) → IsOutcome all (Some a) b (told_by why)
refusal_is law all a b refusal.Unknown is = never_then law all a b _ (other kind.Unknown None (λ s. cc)) is
refusal_is law all a b (refusal.NotInMemory n) is = never_then law all a b _ (other kind.NotInMemory (Some n) (λ s. cc)) is
refusal_is law all a b refusal.Same is = never_then law all a b _ (other kind.Same None (λ s. cc)) is
refusal_is law all a b refusal.OtherBlock is = never_then law all a b _ (other kind.OtherBlock None (λ s. cc)) is
refusal_is law all a b (refusal.Hard n) is = never_then law all a b _ (other kind.Hard (Some n) (λ s. cc)) is
refusal_is law all a b refusal.Apart is = never_then law all a b _ (other kind.Apart None (λ s. cc)) is
refusal_is law all a b (refusal.WouldCycle n) is = never_then law all a b _ (other kind.WouldCycle (Some n) (λ s. cc)) is
refusal_is law all a b refusal.OutOfMemory is = legal_then all a b _ refl is

never_made : (why : MergeRefusal) → is_made (told_by why) ≡ false
never_made refusal.Unknown = refl
never_made (refusal.NotInMemory n) = refl
never_made refusal.Same = refl
never_made refusal.OtherBlock = refl
never_made (refusal.Hard n) = refl
never_made refusal.Apart = refl
never_made (refusal.WouldCycle n) = refl
never_made refusal.OutOfMemory = refl

-- no merge is made
left_out : (before : Option ℕ) (behind : ℕ) (outcome : MergeOutcome) (old new : Contents) → is_made outcome ≡ false → new ≡ old
    → ((run : Execution) → IsCacheOf old run → IsOutcome (entries_of run) before behind outcome) → MergesBehind before behind outcome old new
left_out before behind outcome old new none same right = record {
  outcome_is = right;
  stands = λ run r. rw none (subst (λ c. IsCacheOf c (followed_by run [])) (sym same) (subst (IsCacheOf old) (sym (followed_none run)) r));
  trace_is = rw none (ap (λ c. c.trace) same ∙ sym (append-nil old.trace));
}

-- where there is no patch before it
pub none_before : (before : Option ℕ) (behind : ℕ) (cache : Contents) → before ≡ None → MergesBehind before behind merge.NotLegal cache cache
none_before None behind cache is = left_out None behind merge.NotLegal cache cache refl refl (λ run r may. may)
none_before (Some b) behind cache is = absurd (cc)

-- What came of one that was tried.
pub tried : PairLaw → (before behind : ℕ) (old new : Contents) (answer : Result ℕ MergeRefusal)
    → ((run : Execution) → IsCacheOf old run → IfOk answer (λ name. IsMerged run before behind name new))
    → ((run : Execution) → IsCacheOf old run → IfErr answer (λ why. IsMergeCause (entries_of run) before behind (merge_cause why)))
    → OnOk answer (new.trace ≡ old.trace ++ Merge before behind ∷ []) → OnErr answer (new ≡ old) → MergesBehind (Some before) behind (outcome_of answer) old new
tried law before behind old new (Ok name) merged cause trace same = record {
  outcome_is = λ run r. (merged run r).0;
  stands = λ run r. (merged run r).2;
  trace_is = trace;
}
tried law before behind old new (Err why) merged cause trace same =
    left_out (Some before) behind (told_by why) old new (never_made why) same (λ run r. refusal_is law (entries_of run) before behind why (cause run r))
