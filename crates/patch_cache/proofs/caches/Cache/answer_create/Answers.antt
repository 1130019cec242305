use Rattle.std.proofs.Common.{◌∙◌, inl, inr, length, refl, sym, ap, subst}
use Rattle.patch_model.specs.State.{entries_of}
use Rattle.patch_model.specs.Refusing.{why_not_made}
use Rattle.patch_cache.specs.Contents.{Contents}
use Rattle.patch_cache.specs.Meaning.{IsCacheBy}
use Rattle.patch_cache.specs.Creating.{IsMadeBy}
use Rattle.patch_cache.specs.Refusals.{IsCause, create_cause}
use Rattle.patch_cache.proofs.Absent.{by_whole, in_part, unmissed}
use Rattle.patch_cache.specs.Asks.{Made, unless}
use Rattle.patch_cache.proofs.GivingUp.{refused}
use Rattle.patch_cache.proofs.caches.Cache.answer_create.Goals as goal

pub returns-in-Ok-clause-answer : goal.returns-in-Ok-clause-answer
returns-in-Ok-clause-answer g c whole run r =
    let a = c.args in
    let made = by_whole whole (λ w. IsCacheBy w a.self.now run → IsMadeBy w run a.block a.start a.bytes.now a.after.now a.undo c.in-Ok.no c.create.new.self) (c.in-Ok.ensures.made run) (c.in-Ok.ensures.made_paged run) r in
    record {
      right = inl (ap Made made.1 ∙ sym (ap (λ why. unless why (Made (length (entries_of run)))) made.0));
      cache_is = made.2;
    }

pub returns-in-Err-clause-answer : goal.returns-in-Err-clause-answer
returns-in-Err-clause-answer g c whole run r =
    let a = c.args in
    let why = why_not_made (length run.first) (entries_of run) a.block a.start a.bytes.now a.after.now in
    let same : IsCacheBy whole c.create.new.self run = subst (λ (x : Contents). IsCacheBy whole x run) (sym c.in-Err.ensures.refused) r in
    let told : IsCause why (create_cause c.in-Err.refusal) = subst (λ first. IsCause first (create_cause c.in-Err.refusal)) (unmissed a.self.now a.block why c.requires)
    (c.in-Err.ensures.cause_paged run (in_part whole a.self.now _ run r)) in
    elim (refused why _ _ (Made (length (entries_of run))) c.refusal.ensures told) [
      | inl is ↦ record { right = inl is; cache_is = same }
      | inr none ↦ record {
        right = inr (record { done = Made (length (entries_of run)); right = sym (ap (λ w. unless w (Made (length (entries_of run)))) none.0); not_refused = refl; gives_up = inl (none.1, refl) });
        cache_is = same;
      }
    ]
