use Rattle.std.proofs.Common.{inl, sym, subst}
use Rattle.patch_model.specs.State.{entries_of}
use Rattle.patch_cache.specs.Contents.{Contents}
use Rattle.patch_cache.specs.Meaning.{IsCacheBy}
use Rattle.patch_cache.specs.Merging.{IsMergedBy}
use Rattle.patch_cache.proofs.Absent.{by_whole, in_part}
use Rattle.patch_cache.specs.Refusals.{IsMergeCause}
use Rattle.patch_cache.proofs.GivingUp.{merge_refused}
use Rattle.patch_cache.proofs.caches.Cache.answer_merge.Goals as goal

pub returns-in-Ok-clause-answer : goal.returns-in-Ok-clause-answer
returns-in-Ok-clause-answer g c whole run r =
    let m = by_whole whole (λ w. IsCacheBy w c.args.self.now run → IsMergedBy w run c.args.a c.args.b c.in-Ok.name c.merge.new.self) (c.in-Ok.ensures.merged run) (c.in-Ok.ensures.merged_paged run) r in
    record { right = inl (m.0, m.1); cache_is = m.2 }

pub returns-in-Err-clause-answer : goal.returns-in-Err-clause-answer
returns-in-Err-clause-answer g c whole run r = record {
  right = merge_refused run c.args.a c.args.b _ (subst (IsMergeCause (entries_of run) c.args.a c.args.b) (sym c.refusal.ensures) (c.in-Err.ensures.cause_paged run (in_part whole c.args.self.now _ run r)));
  cache_is = subst (λ (x : Contents). IsCacheBy whole x run) (sym c.in-Err.ensures.refused) r;
}
