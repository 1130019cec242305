-- What the calls of an engine say is told by their numbers.
use Rattle.std.proofs.Common.{◌≡◌, ◌∙◌, ◌≤◌, ℕ, pos, refl, sym, ap, subst}
use Rattle.std.proofs.lemmas.Bool.{le-ltb}
use Rattle.std.specs.Prelude.{Result, Ok, Err, MatchResult, MatchOption, MatchBool, nat_lt, IfErr, OnOk, OnErr, Option, Some, None, slice_set}
use Rattle.std.specs.Global.{Global}
use Rattle.patch_model.specs.declared.refusals.Refusal.{Refusal}
use Rattle.patch_model.specs.declared.refusals.RefusalKind.{RefusalKind}
use Rattle.patch_model.specs.Refusal.{code_of}
use Rattle.patch_model.specs.Execution.{Execution, extended}
use Rattle.patch_model.specs.Refusing.{bare}
use Rattle.patch_model.specs.declared.refusals.RefusalKind.TheVariants as kind
use Rattle.patch_model.specs.Renewed.{renewed}
use Rattle.patch_model.specs.Step.{Complete}
use Rattle.patch_cache.specs.Paging.{why_not_evicted}
use Rattle.patch_cache.specs.Refusals.{evict_cause}
use Rattle.patch_cache.specs.declared.refusals.EvictRefusal.{EvictRefusal}
use Rattle.patch_cache.specs.declared.refusals.Live.{Live}
use Rattle.patch_plans.specs.Groups.{Groups}
use Rattle.patch_group.specs.Refusals.{group_cause}
use Rattle.patch_group.specs.declared.refusals.GroupRefusal.{GroupRefusal}
use Rattle.patch_engine.specs.Meaning.{IsEngineOf, KeepsRest, KeepsCache, IsOut, IsNotOut}
use Rattle.patch_engine.specs.Refusals.{why_not_begun_anew, live_cause}
use Rattle.patch_engine.specs.declared.engines.Engine.{Engine}
use Rattle.patch_engine.specs.declared.refusals.Stranger.{Stranger}
use Rattle.patch_handles.specs.declared.answers.Answer.{Answer}
use Rattle.patch_handles.specs.declared.answers.Answer.TheVariants.{Refused}
use Rattle.patch_handles.specs.Answering.{number_of, answer_to}
use Rattle.patch_engine_c.specs.Answering.{Tells, is_done, is_refused}
use Rattle.patch_engine_c.specs.Grouping.{IsRegrouped}
use Rattle.patch_engine_c.specs.Opening.{IsBegunAnew}
use Rattle.patch_engine_c.specs.Paging.{IsEvicted}

-- a refusal of this cause, by its kind
pub refused_so : (why : RefusalKind) (cause : Refusal) (Done : Type 0) (Said : Refusal → Type 0) → why ≡ cause.kind → Said cause
    → Tells (number_of (Refused why)) Done Said
refused_so why cause Done Said is said = is_refused cause (ap (λ k. pos (code_of k)) is) said

-- a call that tells nothing but whether it is refused
pub told_so : {E : Type 0} (cause : E → Refusal) (r : Result (Unit {0}) E) (answer : Answer) (Done : Type 0) (Said : Refusal → Type 0)
    → answer ≡ answer_to cause r → MatchResult r (λ done. Done) (λ e. Said (cause e)) → Tells (number_of answer) Done Said
told_so {E = E} cause r answer Done Said is said = subst (λ a. Tells (number_of a) Done Said) (sym is) (by-result r said)
  where
    by-result : (r : Result (Unit {0}) E) → MatchResult r (λ done. Done) (λ e. Said (cause e)) → Tells (number_of (answer_to cause r)) Done Said
    by-result (Ok done) said = is_done refl said
    by-result (Err e) said = is_refused (cause e) refl said

-- where there is a writer of the number
pub writer_so : {W : Type 0} (found : Option W) (writer : W) (None' : Type 0) (Said : W → Type 0) → found ≡ Some writer → Said writer → MatchOption found None' Said
writer_so found writer None' Said is said = subst (λ o. MatchOption o None' Said) (sym is) said

pub evicted_so : (run : Execution) (block : ℕ) (old new : Engine Global) (r : Result (Unit {0}) EvictRefusal)
    → MatchResult r (λ done. (why_not_evicted old.cache run block ≡ None) × IsEngineOf new run) (λ refusal. why_not_evicted old.cache run block ≡ Some (evict_cause refusal))
    → OnOk r (new.cache.blocks ≡ slice_set old.cache.blocks block None) → KeepsRest old new → OnErr r (new ≡ old)
    → MatchResult r (λ done. IsEvicted run block old new) (λ refusal. (why_not_evicted old.cache run block ≡ Some (evict_cause refusal)) × (new ≡ old))
evicted_so run block old new (Ok done) answer gone rest refused = record { allowed = answer.0; gone = gone; rest = rest; stands = answer.1 }
evicted_so run block old new (Err e) answer gone rest refused = (answer, refused)

pub renewed_so : (run : Execution) (old new : Engine Global) (r : Result (Unit {0}) Live)
    → OnOk r ((why_not_begun_anew run old.groups ≡ None) × IsEngineOf new (renewed run)) → new.cache.blocks ≡ old.cache.blocks
    → OnErr r (why_not_begun_anew run old.groups ≡ Some live_cause) → OnErr r (new ≡ old)
    → MatchResult r (λ done. IsBegunAnew run old new) (λ refusal. (why_not_begun_anew run old.groups ≡ Some live_cause) × (new ≡ old))
renewed_so run old new (Ok done) begun blocks cause refused = record { allowed = begun.0; blocks_are = blocks; stands = begun.1 }
renewed_so run old new (Err e) begun blocks cause refused = (cause, refused)

pub completed_so : (run : Execution) (block sequence : ℕ) (old new : Engine Global) (r : Result (Unit {0}) Stranger)
    → OnOk r (IsOut run block sequence × IsEngineOf new (extended run (Complete block))) → OnErr r (IsNotOut run block sequence) → OnErr r (new ≡ old)
    → MatchResult r (λ done. IsOut run block sequence × IsEngineOf new (extended run (Complete block)))
    (λ refusal. (bare kind.Stranger ≡ bare kind.Stranger) × IsNotOut run block sequence × (new ≡ old))
completed_so run block sequence old new (Ok done) is stranger refused = is
completed_so run block sequence old new (Err e) is stranger refused = (refl, stranger, refused)

-- a call of the groups, by what it asks of the cause
pub regrouped_so : (Cause : Refusal → Type 0) (why : Option Refusal) (groups : Groups) (old new : Engine Global) (r : Result (Unit {0}) GroupRefusal) (answer : Answer)
    → answer ≡ answer_to group_cause r → OnOk r ((why ≡ None) × (new.groups ≡ groups))
    → ((run : Execution) → IsEngineOf old run → OnOk r (IsEngineOf new run)) → IfErr r (λ e. Cause (group_cause e)) → KeepsCache old new → OnErr r (new ≡ old)
    → Tells (number_of answer) (IsRegrouped why groups old new) (λ cause. Cause cause × (new ≡ old))
regrouped_so Cause why groups old new r answer is done stands cause rest refused =
    told_so group_cause r answer (IsRegrouped why groups old new) (λ cause. Cause cause × (new ≡ old)) is (by-result r done stands cause refused)
  where
    by-result : (r : Result (Unit {0}) GroupRefusal) → OnOk r ((why ≡ None) × (new.groups ≡ groups)) → ((run : Execution) → IsEngineOf old run → OnOk r (IsEngineOf new run))
        → IfErr r (λ e. Cause (group_cause e)) → OnErr r (new ≡ old)
        → MatchResult r (λ done. IsRegrouped why groups old new) (λ e. Cause (group_cause e) × (new ≡ old))
    by-result (Ok d) done stands cause refused = record { allowed = done.0; groups_are = done.1; rest = rest; stands = stands }
    by-result (Err e) done stands cause refused = (cause, refused)

-- by the whole cause
pub refused_with : (answer : Answer) (why cause : Refusal) (Done : Type 0) (Said : Refusal → Type 0) → answer ≡ Refused why.kind → why ≡ cause → Said cause
    → Tells (number_of answer) Done Said
refused_with answer why cause Done Said is same said = is_refused cause (ap number_of is ∙ ap (λ (r : Refusal). pos (code_of r.kind)) same) said

-- where there is room
pub room_so : (room wanted : ℕ) (Small Fits : Type 0) → wanted ≤ room → Fits → MatchBool (nat_lt room wanted) Small Fits
room_so room wanted Small Fits low fits = subst (λ b. MatchBool b Small Fits) (sym (le-ltb room wanted low)) fits
