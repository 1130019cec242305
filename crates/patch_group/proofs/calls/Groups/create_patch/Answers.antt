use Rattle.std.proofs.Common.{◌≡◌, ◌++◌, ◌∷◌, [], ℕ, List, Option, None, inl, inr, refl, sym, subst}
use Rattle.std.specs.Prelude.{IfOk, IfErr, OnOk}
use Rattle.std.proofs.lemmas.Result.{IfOk-from_err, IfOk-weaker, IfErr-weaker}
use Rattle.patch_model.specs.Execution.{extended}
use Rattle.patch_cache.specs.Meaning.{IsCacheOf, IsPagedCacheOf}
use Rattle.patch_cache.specs.Paging.{if_resident}
use Rattle.patch_cache.specs.Refusals.{create_cause}
use Rattle.patch_cache.specs.declared.refusals.CreateRefusal.TheVariants.{OutOfMemory as NoMemory}
use Rattle.patch_plans.specs.Groups.{with_patch, patch_of, why_not_patched}
use Rattle.patch_group.specs.Refusals.{IsCauseOf}
use Rattle.patch_group.proofs.Outcomes.{refused-done, refused-still, refused-told, done-from, done-always}
use Rattle.patch_group.proofs.calls.Groups.create_patch.Goals as goal

-- what is told of a writer and of copies is told of what they are
moved : (P : Option ℕ → List ℕ → List ℕ → Type 0) (was writer : Option ℕ) (given bytes named after : List ℕ) → writer ≡ was → given ≡ bytes → named ≡ after → P was given named → P writer bytes after
moved P was writer given bytes named after one two three told = subst (λ w. P w bytes after) (sym one) (subst (λ b. P was b after) two (subst (λ a. P was given a) three told))

pub returns-in_err-bytes-in-Some-clause-made : goal.returns-in_err-bytes-in-Some-clause-made
returns-in_err-bytes-in-Some-clause-made g c run r = refused-done c.from_residual.result _ c.from_residual.ensures.0

pub returns-in_err-bytes-in-Some-clause-made_paged : goal.returns-in_err-bytes-in-Some-clause-made_paged
returns-in_err-bytes-in-Some-clause-made_paged g c run r = refused-done c.from_residual.result _ c.from_residual.ensures.0

pub returns-in_err-bytes-in-Some-clause-allowed : goal.returns-in_err-bytes-in-Some-clause-allowed
returns-in_err-bytes-in-Some-clause-allowed g c run r = refused-done c.from_residual.result _ c.from_residual.ensures.0

pub returns-in_err-bytes-in-Some-clause-allowed_paged : goal.returns-in_err-bytes-in-Some-clause-allowed_paged
returns-in_err-bytes-in-Some-clause-allowed_paged g c run r = refused-done c.from_residual.result _ c.from_residual.ensures.0

pub returns-in_err-bytes-in-Some-clause-number : goal.returns-in_err-bytes-in-Some-clause-number
returns-in_err-bytes-in-Some-clause-number g c run r = IfOk-from_err c.from_residual.result _ c.from_residual.ensures.0

pub returns-in_err-bytes-in-Some-clause-number_paged : goal.returns-in_err-bytes-in-Some-clause-number_paged
returns-in_err-bytes-in-Some-clause-number_paged g c run r = IfOk-from_err c.from_residual.result _ c.from_residual.ensures.0

pub returns-in_err-bytes-in-Some-clause-joined : goal.returns-in_err-bytes-in-Some-clause-joined
returns-in_err-bytes-in-Some-clause-joined g c = IfOk-from_err c.from_residual.result _ c.from_residual.ensures.0

pub returns-in_err-bytes-in-Some-clause-cause : goal.returns-in_err-bytes-in-Some-clause-cause
returns-in_err-bytes-in-Some-clause-cause g c run r = refused-told c.from_residual.result NoMemory _ c.from_residual.ensures.1 (inr refl)

pub returns-in_err-bytes-in-Some-clause-cause_paged : goal.returns-in_err-bytes-in-Some-clause-cause_paged
returns-in_err-bytes-in-Some-clause-cause_paged g c run r = refused-told c.from_residual.result NoMemory _ c.from_residual.ensures.1 (inr refl)

pub returns-in_err-bytes-in-Some-clause-trace : goal.returns-in_err-bytes-in-Some-clause-trace
returns-in_err-bytes-in-Some-clause-trace g c = refused-done c.from_residual.result _ c.from_residual.ensures.0

pub returns-in_err-bytes-in-Some-clause-refused : goal.returns-in_err-bytes-in-Some-clause-refused
returns-in_err-bytes-in-Some-clause-refused g c = refused-still c.from_residual.result _ refl

pub returns-in_err-bytes-in-Some-clause-refused_cache : goal.returns-in_err-bytes-in-Some-clause-refused_cache
returns-in_err-bytes-in-Some-clause-refused_cache g c = refused-still c.from_residual.result _ refl

pub returns-in_err-after-in-Some-clause-made : goal.returns-in_err-after-in-Some-clause-made
returns-in_err-after-in-Some-clause-made g c run r = refused-done c.from_residual-in_err-after-in-Some.result _ c.from_residual-in_err-after-in-Some.ensures.0

pub returns-in_err-after-in-Some-clause-made_paged : goal.returns-in_err-after-in-Some-clause-made_paged
returns-in_err-after-in-Some-clause-made_paged g c run r = refused-done c.from_residual-in_err-after-in-Some.result _ c.from_residual-in_err-after-in-Some.ensures.0

pub returns-in_err-after-in-Some-clause-allowed : goal.returns-in_err-after-in-Some-clause-allowed
returns-in_err-after-in-Some-clause-allowed g c run r = refused-done c.from_residual-in_err-after-in-Some.result _ c.from_residual-in_err-after-in-Some.ensures.0

pub returns-in_err-after-in-Some-clause-allowed_paged : goal.returns-in_err-after-in-Some-clause-allowed_paged
returns-in_err-after-in-Some-clause-allowed_paged g c run r = refused-done c.from_residual-in_err-after-in-Some.result _ c.from_residual-in_err-after-in-Some.ensures.0

pub returns-in_err-after-in-Some-clause-number : goal.returns-in_err-after-in-Some-clause-number
returns-in_err-after-in-Some-clause-number g c run r = IfOk-from_err c.from_residual-in_err-after-in-Some.result _ c.from_residual-in_err-after-in-Some.ensures.0

pub returns-in_err-after-in-Some-clause-number_paged : goal.returns-in_err-after-in-Some-clause-number_paged
returns-in_err-after-in-Some-clause-number_paged g c run r = IfOk-from_err c.from_residual-in_err-after-in-Some.result _ c.from_residual-in_err-after-in-Some.ensures.0

pub returns-in_err-after-in-Some-clause-joined : goal.returns-in_err-after-in-Some-clause-joined
returns-in_err-after-in-Some-clause-joined g c = IfOk-from_err c.from_residual-in_err-after-in-Some.result _ c.from_residual-in_err-after-in-Some.ensures.0

pub returns-in_err-after-in-Some-clause-cause : goal.returns-in_err-after-in-Some-clause-cause
returns-in_err-after-in-Some-clause-cause g c run r = refused-told c.from_residual-in_err-after-in-Some.result NoMemory _ c.from_residual-in_err-after-in-Some.ensures.1 (inr refl)

pub returns-in_err-after-in-Some-clause-cause_paged : goal.returns-in_err-after-in-Some-clause-cause_paged
returns-in_err-after-in-Some-clause-cause_paged g c run r = refused-told c.from_residual-in_err-after-in-Some.result NoMemory _ c.from_residual-in_err-after-in-Some.ensures.1 (inr refl)

pub returns-in_err-after-in-Some-clause-trace : goal.returns-in_err-after-in-Some-clause-trace
returns-in_err-after-in-Some-clause-trace g c = refused-done c.from_residual-in_err-after-in-Some.result _ c.from_residual-in_err-after-in-Some.ensures.0

pub returns-in_err-after-in-Some-clause-refused : goal.returns-in_err-after-in-Some-clause-refused
returns-in_err-after-in-Some-clause-refused g c = refused-still c.from_residual-in_err-after-in-Some.result _ refl

pub returns-in_err-after-in-Some-clause-refused_cache : goal.returns-in_err-after-in-Some-clause-refused_cache
returns-in_err-after-in-Some-clause-refused_cache g c = refused-still c.from_residual-in_err-after-in-Some.result _ refl

pub returns-in_ok-after-in-Some-clause-made : goal.returns-in_ok-after-in-Some-clause-made
returns-in_ok-after-in-Some-clause-made g c run r =
    moved (λ w bs ns. OnOk c.create_owned.result (IsCacheOf c.create_owned.new.cache (extended run (patch_of c.args.self.now w c.args.block c.args.start bs ns c.args.undo)))) _ _ _ _ _ _ c.in-Some.is c.in_ok-bytes-in-Some.ensures c.in_ok-after-in-Some.ensures
    (c.create_owned.ensures.made run r)

pub returns-in_ok-after-in-Some-clause-made_paged : goal.returns-in_ok-after-in-Some-clause-made_paged
returns-in_ok-after-in-Some-clause-made_paged g c run r =
    moved (λ w bs ns. OnOk c.create_owned.result (IsPagedCacheOf c.create_owned.new.cache (extended run (patch_of c.args.self.now w c.args.block c.args.start bs ns c.args.undo)))) _ _ _ _ _ _ c.in-Some.is c.in_ok-bytes-in-Some.ensures c.in_ok-after-in-Some.ensures
    (c.create_owned.ensures.made_paged run r)

pub returns-in_ok-after-in-Some-clause-number : goal.returns-in_ok-after-in-Some-clause-number
returns-in_ok-after-in-Some-clause-number g c run r = c.create_owned.ensures.number run r

pub returns-in_ok-after-in-Some-clause-number_paged : goal.returns-in_ok-after-in-Some-clause-number_paged
returns-in_ok-after-in-Some-clause-number_paged g c run r = c.create_owned.ensures.number_paged run r

pub returns-in_ok-after-in-Some-clause-allowed : goal.returns-in_ok-after-in-Some-clause-allowed
returns-in_ok-after-in-Some-clause-allowed g c run r =
    moved (λ w bs ns. OnOk c.create_owned.result (why_not_patched run c.args.self.now w c.args.block c.args.start bs ns ≡ None)) _ _ _ _ _ _ c.in-Some.is c.in_ok-bytes-in-Some.ensures c.in_ok-after-in-Some.ensures (c.create_owned.ensures.allowed run r)

pub returns-in_ok-after-in-Some-clause-allowed_paged : goal.returns-in_ok-after-in-Some-clause-allowed_paged
returns-in_ok-after-in-Some-clause-allowed_paged g c run r =
    moved (λ w bs ns. OnOk c.create_owned.result (why_not_patched run c.args.self.now w c.args.block c.args.start bs ns ≡ None)) _ _ _ _ _ _ c.in-Some.is c.in_ok-bytes-in-Some.ensures c.in_ok-after-in-Some.ensures (c.create_owned.ensures.allowed_paged run r)

pub returns-in_ok-after-in-Some-clause-joined : goal.returns-in_ok-after-in-Some-clause-joined
returns-in_ok-after-in-Some-clause-joined g c = subst (λ w. IfOk c.create_owned.result (λ no. c.create_owned.new.self ≡ with_patch c.args.self.now w no)) (sym c.in-Some.is) c.create_owned.ensures.joined

pub returns-in_ok-after-in-Some-clause-cause : goal.returns-in_ok-after-in-Some-clause-cause
returns-in_ok-after-in-Some-clause-cause g c run r =
    moved (λ w bs ns. IfErr c.create_owned.result (λ refusal. IsCauseOf (why_not_patched run c.args.self.now w c.args.block c.args.start bs ns) (create_cause refusal))) _ _ _ _ _ _ c.in-Some.is c.in_ok-bytes-in-Some.ensures c.in_ok-after-in-Some.ensures
    (c.create_owned.ensures.cause run r)

pub returns-in_ok-after-in-Some-clause-cause_paged : goal.returns-in_ok-after-in-Some-clause-cause_paged
returns-in_ok-after-in-Some-clause-cause_paged g c run r =
    moved (λ w bs ns. IfErr c.create_owned.result (λ refusal. IsCauseOf (if_resident c.args.cache.now c.args.block (why_not_patched run c.args.self.now w c.args.block c.args.start bs ns)) (create_cause refusal))) _ _ _ _ _ _ c.in-Some.is c.in_ok-bytes-in-Some.ensures c.in_ok-after-in-Some.ensures
    (c.create_owned.ensures.cause_paged run r)

pub returns-in_ok-after-in-Some-clause-trace : goal.returns-in_ok-after-in-Some-clause-trace
returns-in_ok-after-in-Some-clause-trace g c =
    moved (λ w bs ns. OnOk c.create_owned.result (c.create_owned.new.cache.trace ≡ c.args.cache.now.trace ++ patch_of c.args.self.now w c.args.block c.args.start bs ns c.args.undo ∷ [])) _ _ _ _ _ _ c.in-Some.is c.in_ok-bytes-in-Some.ensures c.in_ok-after-in-Some.ensures
    c.create_owned.ensures.trace

pub returns-in_ok-after-in-Some-clause-refused : goal.returns-in_ok-after-in-Some-clause-refused
returns-in_ok-after-in-Some-clause-refused g c = c.create_owned.ensures.refused

pub returns-in_ok-after-in-Some-clause-refused_cache : goal.returns-in_ok-after-in-Some-clause-refused_cache
returns-in_ok-after-in-Some-clause-refused_cache g c = c.create_owned.ensures.refused_cache

pub returns-in-None-clause-made : goal.returns-in-None-clause-made
returns-in-None-clause-made g c run r =
    subst (λ w. OnOk c.create.result (IsCacheOf c.create.new.self (extended run (patch_of c.args.self.now w c.args.block c.args.start c.args.bytes.now c.args.after.now c.args.undo)))) (sym c.in-None.is)
    (done-from c.create.result _ _ (λ no h. h.2) (c.create.ensures.made run r))

pub returns-in-None-clause-made_paged : goal.returns-in-None-clause-made_paged
returns-in-None-clause-made_paged g c run r =
    subst (λ w. OnOk c.create.result (IsPagedCacheOf c.create.new.self (extended run (patch_of c.args.self.now w c.args.block c.args.start c.args.bytes.now c.args.after.now c.args.undo)))) (sym c.in-None.is)
    (done-from c.create.result _ _ (λ no h. h.2) (c.create.ensures.made_paged run r))

pub returns-in-None-clause-number : goal.returns-in-None-clause-number
returns-in-None-clause-number g c run r = IfOk-weaker c.create.result _ _ (λ no h. h.1) (c.create.ensures.made run r)

pub returns-in-None-clause-number_paged : goal.returns-in-None-clause-number_paged
returns-in-None-clause-number_paged g c run r = IfOk-weaker c.create.result _ _ (λ no h. h.1) (c.create.ensures.made_paged run r)

pub returns-in-None-clause-allowed : goal.returns-in-None-clause-allowed
returns-in-None-clause-allowed g c run r =
    subst (λ w. OnOk c.create.result (why_not_patched run c.args.self.now w c.args.block c.args.start c.args.bytes.now c.args.after.now ≡ None)) (sym c.in-None.is) (done-from c.create.result _ _ (λ no h. h.0) (c.create.ensures.made run r))

pub returns-in-None-clause-allowed_paged : goal.returns-in-None-clause-allowed_paged
returns-in-None-clause-allowed_paged g c run r =
    subst (λ w. OnOk c.create.result (why_not_patched run c.args.self.now w c.args.block c.args.start c.args.bytes.now c.args.after.now ≡ None)) (sym c.in-None.is) (done-from c.create.result _ _ (λ no h. h.0) (c.create.ensures.made_paged run r))

pub returns-in-None-clause-joined : goal.returns-in-None-clause-joined
returns-in-None-clause-joined g c = subst (λ w. IfOk c.create.result (λ no. c.args.self.now ≡ with_patch c.args.self.now w no)) (sym c.in-None.is) (done-always c.create.result _ (λ no. refl))

pub returns-in-None-clause-cause : goal.returns-in-None-clause-cause
returns-in-None-clause-cause g c run r =
    subst (λ w. IfErr c.create.result (λ refusal. IsCauseOf (why_not_patched run c.args.self.now w c.args.block c.args.start c.args.bytes.now c.args.after.now) (create_cause refusal))) (sym c.in-None.is)
    (IfErr-weaker c.create.result _ _ (λ refusal h. inl h) (c.create.ensures.cause run r))

pub returns-in-None-clause-cause_paged : goal.returns-in-None-clause-cause_paged
returns-in-None-clause-cause_paged g c run r =
    subst (λ w. IfErr c.create.result (λ refusal. IsCauseOf (if_resident c.args.cache.now c.args.block (why_not_patched run c.args.self.now w c.args.block c.args.start c.args.bytes.now c.args.after.now)) (create_cause refusal))) (sym c.in-None.is)
    (IfErr-weaker c.create.result _ _ (λ refusal h. inl h) (c.create.ensures.cause_paged run r))

pub returns-in-None-clause-trace : goal.returns-in-None-clause-trace
returns-in-None-clause-trace g c =
    subst (λ w. OnOk c.create.result (c.create.new.self.trace ≡ c.args.cache.now.trace ++ patch_of c.args.self.now w c.args.block c.args.start c.args.bytes.now c.args.after.now c.args.undo ∷ [])) (sym c.in-None.is) c.create.ensures.trace

pub returns-in-None-clause-refused : goal.returns-in-None-clause-refused
returns-in-None-clause-refused g c = refused-still c.create.result _ refl

pub returns-in-None-clause-refused_cache : goal.returns-in-None-clause-refused_cache
returns-in-None-clause-refused_cache g c = c.create.ensures.refused
