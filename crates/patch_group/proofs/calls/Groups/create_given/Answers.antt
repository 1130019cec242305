use Rattle.std.proofs.Common.{◌≡◌, ◌++◌, ◌∷◌, [], None, inl, refl, sym, subst}
use Rattle.std.specs.Prelude.{IfOk, IfErr, OnOk}
use Rattle.std.proofs.lemmas.Result.{IfOk-weaker, IfErr-weaker}
use Rattle.patch_model.specs.Execution.{extended}
use Rattle.patch_cache.specs.Meaning.{IsCacheOf, IsPagedCacheOf}
use Rattle.patch_cache.specs.Paging.{if_resident}
use Rattle.patch_cache.specs.Refusals.{create_cause}
use Rattle.patch_plans.specs.Groups.{with_patch, patch_of, why_not_patched}
use Rattle.patch_group.specs.Refusals.{IsCauseOf}
use Rattle.patch_group.proofs.Outcomes.{refused-still, done-from, done-always}
use Rattle.patch_group.proofs.calls.Groups.create_given.Goals as goal

pub returns-in-Some-clause-made : goal.returns-in-Some-clause-made
returns-in-Some-clause-made g c run r =
    subst (λ w. OnOk c.create_owned.result (IsCacheOf c.create_owned.new.cache (extended run (patch_of c.args.self.now w c.args.block c.args.start c.args.bytes c.args.after c.args.undo)))) (sym c.in-Some.is) (c.create_owned.ensures.made run r)

pub returns-in-Some-clause-made_paged : goal.returns-in-Some-clause-made_paged
returns-in-Some-clause-made_paged g c run r =
    subst (λ w. OnOk c.create_owned.result (IsPagedCacheOf c.create_owned.new.cache (extended run (patch_of c.args.self.now w c.args.block c.args.start c.args.bytes c.args.after c.args.undo)))) (sym c.in-Some.is) (c.create_owned.ensures.made_paged run r)

pub returns-in-Some-clause-number : goal.returns-in-Some-clause-number
returns-in-Some-clause-number g c run r = c.create_owned.ensures.number run r

pub returns-in-Some-clause-number_paged : goal.returns-in-Some-clause-number_paged
returns-in-Some-clause-number_paged g c run r = c.create_owned.ensures.number_paged run r

pub returns-in-Some-clause-allowed : goal.returns-in-Some-clause-allowed
returns-in-Some-clause-allowed g c run r =
    subst (λ w. OnOk c.create_owned.result (why_not_patched run c.args.self.now w c.args.block c.args.start c.args.bytes c.args.after ≡ None)) (sym c.in-Some.is) (c.create_owned.ensures.allowed run r)

pub returns-in-Some-clause-allowed_paged : goal.returns-in-Some-clause-allowed_paged
returns-in-Some-clause-allowed_paged g c run r =
    subst (λ w. OnOk c.create_owned.result (why_not_patched run c.args.self.now w c.args.block c.args.start c.args.bytes c.args.after ≡ None)) (sym c.in-Some.is) (c.create_owned.ensures.allowed_paged run r)

pub returns-in-Some-clause-joined : goal.returns-in-Some-clause-joined
returns-in-Some-clause-joined g c =
    subst (λ w. IfOk c.create_owned.result (λ no. c.create_owned.new.self ≡ with_patch c.args.self.now w no)) (sym c.in-Some.is) c.create_owned.ensures.joined

pub returns-in-Some-clause-cause : goal.returns-in-Some-clause-cause
returns-in-Some-clause-cause g c run r =
    subst (λ w. IfErr c.create_owned.result (λ refusal. IsCauseOf (why_not_patched run c.args.self.now w c.args.block c.args.start c.args.bytes c.args.after) (create_cause refusal))) (sym c.in-Some.is) (c.create_owned.ensures.cause run r)

pub returns-in-Some-clause-cause_paged : goal.returns-in-Some-clause-cause_paged
returns-in-Some-clause-cause_paged g c run r =
    subst (λ w. IfErr c.create_owned.result (λ refusal. IsCauseOf (if_resident c.args.cache.now c.args.block (why_not_patched run c.args.self.now w c.args.block c.args.start c.args.bytes c.args.after)) (create_cause refusal))) (sym c.in-Some.is) (c.create_owned.ensures.cause_paged run r)

pub returns-in-Some-clause-trace : goal.returns-in-Some-clause-trace
returns-in-Some-clause-trace g c =
    subst (λ w. OnOk c.create_owned.result (c.create_owned.new.cache.trace ≡ c.args.cache.now.trace ++ patch_of c.args.self.now w c.args.block c.args.start c.args.bytes c.args.after c.args.undo ∷ [])) (sym c.in-Some.is) c.create_owned.ensures.trace

pub returns-in-Some-clause-refused : goal.returns-in-Some-clause-refused
returns-in-Some-clause-refused g c = c.create_owned.ensures.refused

pub returns-in-Some-clause-refused_cache : goal.returns-in-Some-clause-refused_cache
returns-in-Some-clause-refused_cache g c = c.create_owned.ensures.refused_cache

pub returns-in-None-clause-made : goal.returns-in-None-clause-made
returns-in-None-clause-made g c run r =
    subst (λ w. OnOk c.create_owned-in-None.result (IsCacheOf c.create_owned-in-None.new.self (extended run (patch_of c.args.self.now w c.args.block c.args.start c.args.bytes c.args.after c.args.undo)))) (sym c.in-None.is)
    (done-from c.create_owned-in-None.result _ _ (λ no h. h.2) (c.create_owned-in-None.ensures.made run r))

pub returns-in-None-clause-made_paged : goal.returns-in-None-clause-made_paged
returns-in-None-clause-made_paged g c run r =
    subst (λ w. OnOk c.create_owned-in-None.result (IsPagedCacheOf c.create_owned-in-None.new.self (extended run (patch_of c.args.self.now w c.args.block c.args.start c.args.bytes c.args.after c.args.undo)))) (sym c.in-None.is)
    (done-from c.create_owned-in-None.result _ _ (λ no h. h.2) (c.create_owned-in-None.ensures.made_paged run r))

pub returns-in-None-clause-number : goal.returns-in-None-clause-number
returns-in-None-clause-number g c run r = IfOk-weaker c.create_owned-in-None.result _ _ (λ no h. h.1) (c.create_owned-in-None.ensures.made run r)

pub returns-in-None-clause-number_paged : goal.returns-in-None-clause-number_paged
returns-in-None-clause-number_paged g c run r = IfOk-weaker c.create_owned-in-None.result _ _ (λ no h. h.1) (c.create_owned-in-None.ensures.made_paged run r)

pub returns-in-None-clause-allowed : goal.returns-in-None-clause-allowed
returns-in-None-clause-allowed g c run r =
    subst (λ w. OnOk c.create_owned-in-None.result (why_not_patched run c.args.self.now w c.args.block c.args.start c.args.bytes c.args.after ≡ None)) (sym c.in-None.is)
    (done-from c.create_owned-in-None.result _ _ (λ no h. h.0) (c.create_owned-in-None.ensures.made run r))

pub returns-in-None-clause-allowed_paged : goal.returns-in-None-clause-allowed_paged
returns-in-None-clause-allowed_paged g c run r =
    subst (λ w. OnOk c.create_owned-in-None.result (why_not_patched run c.args.self.now w c.args.block c.args.start c.args.bytes c.args.after ≡ None)) (sym c.in-None.is)
    (done-from c.create_owned-in-None.result _ _ (λ no h. h.0) (c.create_owned-in-None.ensures.made_paged run r))

pub returns-in-None-clause-joined : goal.returns-in-None-clause-joined
returns-in-None-clause-joined g c =
    subst (λ w. IfOk c.create_owned-in-None.result (λ no. c.args.self.now ≡ with_patch c.args.self.now w no)) (sym c.in-None.is) (done-always c.create_owned-in-None.result _ (λ no. refl))

pub returns-in-None-clause-cause : goal.returns-in-None-clause-cause
returns-in-None-clause-cause g c run r =
    subst (λ w. IfErr c.create_owned-in-None.result (λ refusal. IsCauseOf (why_not_patched run c.args.self.now w c.args.block c.args.start c.args.bytes c.args.after) (create_cause refusal))) (sym c.in-None.is)
    (IfErr-weaker c.create_owned-in-None.result _ _ (λ refusal h. inl h) (c.create_owned-in-None.ensures.cause run r))

pub returns-in-None-clause-cause_paged : goal.returns-in-None-clause-cause_paged
returns-in-None-clause-cause_paged g c run r =
    subst (λ w. IfErr c.create_owned-in-None.result (λ refusal. IsCauseOf (if_resident c.args.cache.now c.args.block (why_not_patched run c.args.self.now w c.args.block c.args.start c.args.bytes c.args.after)) (create_cause refusal))) (sym c.in-None.is)
    (IfErr-weaker c.create_owned-in-None.result _ _ (λ refusal h. inl h) (c.create_owned-in-None.ensures.cause_paged run r))

pub returns-in-None-clause-trace : goal.returns-in-None-clause-trace
returns-in-None-clause-trace g c =
    subst (λ w. OnOk c.create_owned-in-None.result (c.create_owned-in-None.new.self.trace ≡ c.args.cache.now.trace ++ patch_of c.args.self.now w c.args.block c.args.start c.args.bytes c.args.after c.args.undo ∷ [])) (sym c.in-None.is)
    c.create_owned-in-None.ensures.trace

pub returns-in-None-clause-refused : goal.returns-in-None-clause-refused
returns-in-None-clause-refused g c = refused-still c.create_owned-in-None.result _ refl

pub returns-in-None-clause-refused_cache : goal.returns-in-None-clause-refused_cache
returns-in-None-clause-refused_cache g c = c.create_owned-in-None.ensures.refused
