use Rattle.std.proofs.Common.{true, false, ◌∙◌, ◌≡◌, ◌∷◌, ◌++◌, [], ℕ, List, subst}
use Rattle.std.specs.Result.{IfOk, IfErr, OnOk}
use Rattle.patch_model.specs.Step.{Create}
use Rattle.patch_cache.specs.Creating.{why_not_created, IsMade, IsMadeBy}
use Rattle.patch_cache.specs.Paging.{if_resident}
use Rattle.patch_cache.proofs.Absent.{whole_alone}
use Rattle.patch_cache.specs.Refusals.{create_cause, IsCause}
use Rattle.patch_cache.proofs.Creations.{found, lacks_memory}
use Rattle.patch_cache.proofs.caches.Cache.create.Goals as goal

pub returns-in-Some-clause-cause : goal.returns-in-Some-clause-cause
returns-in-Some-clause-cause g c = λ run at. found _ (create_cause c.in-Some.refusal) (c.in-Some.ensures.cause true run at ∙ whole_alone c.args.self.now run c.args.block _ at)

pub returns-in-Some-clause-cause_paged : goal.returns-in-Some-clause-cause_paged
returns-in-Some-clause-cause_paged g c = λ run at. found _ (create_cause c.in-Some.refusal) (c.in-Some.ensures.cause false run at)

pub returns-in_err-bytes-in-None-clause-cause : goal.returns-in_err-bytes-in-None-clause-cause
returns-in_err-bytes-in-None-clause-cause g c = λ run at. lacks_memory _ c.from_residual.result (c.in-None.ensures.cause true run at ∙ whole_alone c.args.self.now run c.args.block _ at) c.from_residual.ensures.1

pub returns-in_err-bytes-in-None-clause-cause_paged : goal.returns-in_err-bytes-in-None-clause-cause_paged
returns-in_err-bytes-in-None-clause-cause_paged g c = λ run at. lacks_memory _ c.from_residual.result (c.in-None.ensures.cause false run at) c.from_residual.ensures.1

pub returns-in_err-after-in-None-clause-cause : goal.returns-in_err-after-in-None-clause-cause
returns-in_err-after-in-None-clause-cause g c = λ run at. lacks_memory _ c.from_residual-in_err-after-in-None.result (c.in-None.ensures.cause true run at ∙ whole_alone c.args.self.now run c.args.block _ at) c.from_residual-in_err-after-in-None.ensures.1

pub returns-in_err-after-in-None-clause-cause_paged : goal.returns-in_err-after-in-None-clause-cause_paged
returns-in_err-after-in-None-clause-cause_paged g c = λ run at. lacks_memory _ c.from_residual-in_err-after-in-None.result (c.in-None.ensures.cause false run at) c.from_residual-in_err-after-in-None.ensures.1

pub returns-in_ok-after-in-None-clause-made : goal.returns-in_ok-after-in-None-clause-made
returns-in_ok-after-in-None-clause-made g c = λ run at.
    let a = c.args in
    let Made : List ℕ → List ℕ → Type 0 = λ bytes after. IfOk c.create_owned.result (λ no. IsMade run a.block a.start bytes after a.undo no c.create_owned.new.self) in
    subst (λ bytes. Made bytes a.after.now) c.in_ok-bytes-in-None.ensures (subst (Made c.in_ok-bytes-in-None.bytes) c.in_ok-after-in-None.ensures (c.create_owned.ensures.made run at))

pub returns-in_ok-after-in-None-clause-made_paged : goal.returns-in_ok-after-in-None-clause-made_paged
returns-in_ok-after-in-None-clause-made_paged g c = λ run at.
    let a = c.args in
    let Made : List ℕ → List ℕ → Type 0 = λ bytes after. IfOk c.create_owned.result (λ no. IsMadeBy false run a.block a.start bytes after a.undo no c.create_owned.new.self) in
    subst (λ bytes. Made bytes a.after.now) c.in_ok-bytes-in-None.ensures (subst (Made c.in_ok-bytes-in-None.bytes) c.in_ok-after-in-None.ensures (c.create_owned.ensures.made_paged run at))

pub returns-in_ok-after-in-None-clause-cause : goal.returns-in_ok-after-in-None-clause-cause
returns-in_ok-after-in-None-clause-cause g c = λ run at.
    let a = c.args in
    let Told : List ℕ → List ℕ → Type 0 = λ bytes after. IfErr c.create_owned.result (λ refusal. IsCause (why_not_created run a.block a.start bytes after) (create_cause refusal)) in
    subst (λ bytes. Told bytes a.after.now) c.in_ok-bytes-in-None.ensures (subst (Told c.in_ok-bytes-in-None.bytes) c.in_ok-after-in-None.ensures (c.create_owned.ensures.cause run at))

pub returns-in_ok-after-in-None-clause-cause_paged : goal.returns-in_ok-after-in-None-clause-cause_paged
returns-in_ok-after-in-None-clause-cause_paged g c = λ run at.
    let a = c.args in
    let Told : List ℕ → List ℕ → Type 0 = λ bytes after. IfErr c.create_owned.result (λ refusal. IsCause (if_resident a.self.now a.block (why_not_created run a.block a.start bytes after)) (create_cause refusal)) in
    subst (λ bytes. Told bytes a.after.now) c.in_ok-bytes-in-None.ensures (subst (Told c.in_ok-bytes-in-None.bytes) c.in_ok-after-in-None.ensures (c.create_owned.ensures.cause_paged run at))

pub returns-in_ok-after-in-None-clause-trace : goal.returns-in_ok-after-in-None-clause-trace
returns-in_ok-after-in-None-clause-trace g c =
    let a = c.args in
    let Noted : List ℕ → List ℕ → Type 0 = λ bytes after. OnOk c.create_owned.result (c.create_owned.new.self.trace ≡ a.self.now.trace ++ Create a.block a.start bytes after a.undo ∷ []) in
    subst (λ bytes. Noted bytes a.after.now) c.in_ok-bytes-in-None.ensures (subst (Noted c.in_ok-bytes-in-None.bytes) c.in_ok-after-in-None.ensures c.create_owned.ensures.trace)

pub returns-in_ok-after-in-None-clause-refused : goal.returns-in_ok-after-in-None-clause-refused
returns-in_ok-after-in-None-clause-refused g c = c.create_owned.ensures.refused
