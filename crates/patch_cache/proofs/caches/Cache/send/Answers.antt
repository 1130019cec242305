use Rattle.std.proofs.Common.{◌≡◌, ◌∙◌, Bool, true, false, None, refl, sym, subst, ◌++◌, ◌∷◌, [], ap}
use Rattle.patch_model.specs.Refusing.{why_not_sent}
use Rattle.patch_model.specs.Step.{Send}
use Rattle.patch_cache.specs.Contents.{Contents, is_resident, write_at}
use Rattle.patch_cache.specs.Meaning.{IsCacheBy}
use Rattle.patch_cache.specs.Refusals.{send_cause}
use Rattle.patch_cache.proofs.Absent.{alone, whole_alone}
use Rattle.patch_cache.proofs.Creations.{found as sent_cause}
use Rattle.patch_cache.proofs.Refusing.{send_lacks_memory}
use Rattle.patch_cache.proofs.Stepping.{on_err}
use Rattle.patch_cache.proofs.caches.Cache.send.Goals as goal
use Rattle.std.proofs.lemmas.Result.{IfOk-from_err}

pub returns-in_ok-send_ready-in-None-clause-sent : goal.returns-in_ok-send_ready-in-None-clause-sent
returns-in_ok-send_ready-in-None-clause-sent g c = λ run at.
    let none : why_not_sent run c.args.block ≡ None = sym (c.in-None.ensures.cause true run at ∙ alone c.args.self.now c.args.block _ (c.in-None.ensures.resident refl)) in
    let after : IsCacheBy true c.why_not_sent.new.self run = subst (λ (v : Contents). IsCacheBy true v run) (sym c.in-None.ensures.same) at in
    (none, c.in_ok-send_ready-in-None.ensures.begun true run after none)

pub returns-in_ok-send_ready-in-None-clause-sent_paged : goal.returns-in_ok-send_ready-in-None-clause-sent_paged
returns-in_ok-send_ready-in-None-clause-sent_paged g c = λ run at.
    let none : why_not_sent run c.args.block ≡ None = sym (c.in-None.ensures.cause false run at ∙ alone c.args.self.now c.args.block _ (c.in-None.ensures.resident refl)) in
    let after : IsCacheBy false c.why_not_sent.new.self run = subst (λ (v : Contents). IsCacheBy false v run) (sym c.in-None.ensures.same) at in
    (none, c.in_ok-send_ready-in-None.ensures.begun false run after none)

pub send_ready-requires-clause-resident : goal.send_ready-requires-clause-resident
send_ready-requires-clause-resident g c = subst (λ (v : Contents). is_resident v c.args.block ≡ true) (sym c.in-None.ensures.same) (c.in-None.ensures.resident refl)

pub send_ready-requires-clause-not_under_way : goal.send_ready-requires-clause-not_under_way
send_ready-requires-clause-not_under_way g c = subst (λ (v : Contents). write_at v c.args.block ≡ None) (sym c.in-None.ensures.same) (c.in-None.ensures.not_under_way refl)

pub returns-in-Some-clause-sent : goal.returns-in-Some-clause-sent
returns-in-Some-clause-sent g c = λ run at. tt

pub returns-in-Some-clause-sent_paged : goal.returns-in-Some-clause-sent_paged
returns-in-Some-clause-sent_paged g c = λ run at. tt

pub returns-in-Some-clause-trace : goal.returns-in-Some-clause-trace
returns-in-Some-clause-trace g c = tt

pub returns-in_err-send_ready-in-None-clause-sent : goal.returns-in_err-send_ready-in-None-clause-sent
returns-in_err-send_ready-in-None-clause-sent g c = λ run at. IfOk-from_err c.from_residual.result _ c.from_residual.ensures.0

pub returns-in_err-send_ready-in-None-clause-sent_paged : goal.returns-in_err-send_ready-in-None-clause-sent_paged
returns-in_err-send_ready-in-None-clause-sent_paged g c = λ run at. IfOk-from_err c.from_residual.result _ c.from_residual.ensures.0

pub returns-in_err-send_ready-in-None-clause-trace : goal.returns-in_err-send_ready-in-None-clause-trace
returns-in_err-send_ready-in-None-clause-trace g c = IfOk-from_err c.from_residual.result _ c.from_residual.ensures.0

pub returns-in_err-send_ready-in-None-clause-refused : goal.returns-in_err-send_ready-in-None-clause-refused
returns-in_err-send_ready-in-None-clause-refused g c = on_err _ (c.in_err-send_ready-in-None.ensures.refused ∙ c.in-None.ensures.same)

pub returns-in_err-send_ready-in-None-clause-cause : goal.returns-in_err-send_ready-in-None-clause-cause
returns-in_err-send_ready-in-None-clause-cause g c = λ run at. send_lacks_memory _ c.from_residual.result (c.in-None.ensures.cause true run at ∙ whole_alone c.args.self.now run c.args.block _ at) c.from_residual.ensures.1

pub returns-in_err-send_ready-in-None-clause-cause_paged : goal.returns-in_err-send_ready-in-None-clause-cause_paged
returns-in_err-send_ready-in-None-clause-cause_paged g c = λ run at. send_lacks_memory _ c.from_residual.result (c.in-None.ensures.cause false run at) c.from_residual.ensures.1

pub returns-in_ok-send_ready-in-None-clause-cause : goal.returns-in_ok-send_ready-in-None-clause-cause
returns-in_ok-send_ready-in-None-clause-cause g c = λ run at. tt

pub returns-in_ok-send_ready-in-None-clause-cause_paged : goal.returns-in_ok-send_ready-in-None-clause-cause_paged
returns-in_ok-send_ready-in-None-clause-cause_paged g c = λ run at. tt

pub returns-in_ok-send_ready-in-None-clause-trace : goal.returns-in_ok-send_ready-in-None-clause-trace
returns-in_ok-send_ready-in-None-clause-trace g c = c.in_ok-send_ready-in-None.ensures.trace ∙ ap (λ (v : Contents). v.trace ++ Send c.args.block ∷ []) c.in-None.ensures.same

pub returns-in_ok-send_ready-in-None-clause-refused : goal.returns-in_ok-send_ready-in-None-clause-refused
returns-in_ok-send_ready-in-None-clause-refused g c = tt

pub returns-in-Some-clause-cause : goal.returns-in-Some-clause-cause
returns-in-Some-clause-cause g c = λ run at. sent_cause _ (send_cause c.in-Some.refusal) (c.in-Some.ensures.cause true run at ∙ whole_alone c.args.self.now run c.args.block _ at)

pub returns-in-Some-clause-cause_paged : goal.returns-in-Some-clause-cause_paged
returns-in-Some-clause-cause_paged g c = λ run at. sent_cause _ (send_cause c.in-Some.refusal) (c.in-Some.ensures.cause false run at)
