use Rattle.std.proofs.Common.{length, ap, sym, arith}
use Rattle.patch_cache.proofs.Opening.{opened, unpatched_none_begun}
use Rattle.patch_cache.proofs.caches.Cache.open.Goals as goal

pub invariant_of-result : goal.invariant_of-result
invariant_of-result g c =
    let many = c.in_ok-all_resident.ensures.many in
    let few = c.requires.few in
    let none = ap length c.new-2.ensures.items in
    (omega (arith, many, few), sym (unpatched_none_begun _ _ c.in_ok-all_resident.ensures), omega (arith, none))

pub returns-clause-answer : goal.returns-clause-answer
returns-clause-answer g c = opened _ _ _ _ c.in_ok-all_resident.ensures c.new.ensures c.requires.some c.requires.few
