use Rattle.std.proofs.Common.{inl, inr, subst, sym, ap}
use Rattle.patch_model.specs.Entry.{marks_memory}
use Rattle.patch_graph.specs.Meaning.{IsGraphOf}
use Rattle.patch_cache.specs.Contents.{Contents}
use Rattle.patch_cache.proofs.Mergers.{not_live, not_memory}
use Rattle.patch_cache.proofs.caches.Cache.in_memory.Goals as goal

pub returns-in-Flight : goal.returns-in-Flight
returns-in-Flight g c = λ all holds.
    let seen = subst (λ (s : Contents). IsGraphOf s.graph all) (sym c.self.view_is) holds in
    not_memory all c.args.no c.in-Some.class holds.orderly holds.numbered (c.in-Some.ensures all seen) (elim c.in-Flight.is [ inl e ↦ ap marks_memory e | inr e ↦ ap marks_memory e ])

pub returns-in-None : goal.returns-in-None
returns-in-None g c = λ all holds.
    let seen = subst (λ (s : Contents). IsGraphOf s.graph all) (sym c.self.view_is) holds in
    not_live all c.args.no holds.orderly holds.numbered (c.in-None.ensures all seen)
