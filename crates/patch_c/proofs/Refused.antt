-- Why bytes are not opened.
use Rattle.std.proofs.Common.{◌≡◌, ℕ, ℤ, List, length, inl, inr, refl, sym, subst}
use Rattle.std.specs.Prelude.{◌*◌, Result, Ok, Err, IfErr, IsErrAnd}
use Rattle.patch_model.specs.declared.blocks.TheConstants.{BLOCK}
use Rattle.patch_model.specs.declared.refusals.Refusal.{Refusal}
use Rattle.patch_model.specs.declared.refusals.RefusalKind.TheVariants as kind
use Rattle.patch_model.specs.Refusing.{bare}
use Rattle.patch_device.specs.Blocks.{FitsFile}
use Rattle.patch_history.specs.declared.refusals.OpenFault.{OpenFault}
use Rattle.patch_history.specs.declared.refusals.OpenFault.TheVariants as opening
use Rattle.patch_history.specs.Refusals.{open_cause}
use Rattle.patch_store.specs.Opening.{IsFaultOf}
use Rattle.patch_handles.specs.declared.answers.Answer.TheVariants.{Refused}
use Rattle.patch_c.specs.declared.unopened.Unopened.{Unopened}
use Rattle.patch_handles.specs.Answering.{number_of}
use Rattle.patch_c.specs.Opening.{starved, IsFile, IsTested, IsWhyNot, TellsWhyNot, blocks_in, number_told}

-- what is said of the error that is passed on
passed_so : {T : Type 0} (r : Result T Unopened) (why : Unopened) (Said : Refusal → Type 0) → IsErrAnd r (λ e. e ≡ why) → Said why.refusal
    → IfErr r (λ e. Said e.refusal)
passed_so (Ok x) why Said is said = tt
passed_so (Err e) why Said is said = subst (λ (w : Unopened). Said w.refusal) (sym is) said

-- by a test
pub tested_so : (blocks : List (List ℕ)) (fault : OpenFault) (refusal : Refusal) → IsFaultOf blocks fault → refusal ≡ open_cause fault → IsTested blocks refusal
tested_so blocks fault refusal refuses is = record { fault = fault; refuses = refuses; refusal_is = is }

pub starved_tested : {T : Type 0} (blocks : List (List ℕ)) (r : Result T Unopened) → IsErrAnd r (λ e. e ≡ starved) → IfErr r (λ e. IsTested blocks e.refusal)
starved_tested blocks r is = passed_so r starved (IsTested blocks) is (tested_so blocks opening.OutOfMemory starved.refusal tt refl)

-- the bytes are those of a file, by the count of their blocks
pub file_so : (bytes : List ℕ) (count : ℕ) → length bytes ≡ count * BLOCK → FitsFile count → IsFile bytes
file_so bytes count whole fits = record { count = count; whole = whole; fits = fits }

pub starved_why : {T : Type 0} (bytes : List ℕ) (count : ℕ) (r : Result T Unopened) → IsErrAnd r (λ e. e ≡ starved) → length bytes ≡ count * BLOCK
    → FitsFile count → IfErr r (λ e. IsWhyNot bytes e.refusal)
starved_why bytes count r is whole fits =
    passed_so r starved (IsWhyNot bytes) is (inr (file_so bytes count whole fits, tested_so (blocks_in bytes) opening.OutOfMemory starved.refusal tt refl))

pub tested_why : {T : Type 0} (bytes : List ℕ) (count : ℕ) (r : Result T Unopened) (why : Unopened) → IsErrAnd r (λ e. e ≡ why)
    → length bytes ≡ count * BLOCK → FitsFile count → IsTested (blocks_in bytes) why.refusal → IfErr r (λ e. IsWhyNot bytes e.refusal)
tested_why bytes count r why is whole fits tested = passed_so r why (IsWhyNot bytes) is (inr (file_so bytes count whole fits, tested))

pub passed_why : {T : Type 0} (bytes : List ℕ) (r : Result T Unopened) (why : Unopened) → IsErrAnd r (λ e. e ≡ why) → IsWhyNot bytes why.refusal
    → IfErr r (λ e. IsWhyNot bytes e.refusal)
passed_why bytes r why is because = passed_so r why (IsWhyNot bytes) is because

-- by the length
pub no_file : (bytes : List ℕ) (refusal : Refusal) → refusal ≡ bare kind.FileSize → ((count : ℕ) → length bytes ≡ count * BLOCK → FitsFile count → ⊥)
    → IsWhyNot bytes refusal
no_file bytes refusal is none = inl (record { refusal_is = is; none = λ file. none file.count file.whole file.fits })

-- and it is told
pub told_why : (bytes : List ℕ) (refusal : Refusal) (number : ℤ) (before now : ℕ) → IsWhyNot bytes refusal → number ≡ number_of (Refused refusal.kind)
    → now ≡ number_told refusal before → TellsWhyNot bytes number before now
told_why bytes refusal number before now why is told = record { refusal = refusal; why = why; number_is = is; now_is = told }
