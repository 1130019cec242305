use Rattle.std.proofs.Common.{◌∙◌, None, length, sym, ap, arith}
use Rattle.std.proofs.lemmas.List.{length-replicate}
use Rattle.patch_cache.proofs.Opening.{none_begun, none_resident, opened_empty}
use Rattle.patch_cache.proofs.caches.Cache.of.Goals as goal

pub invariant_of-result : goal.invariant_of-result
invariant_of-result g c =
    let long = ap length c.of.ensures ∙ length-replicate c.args.count None in
    let few = c.requires.few in
    let none = ap length c.new-2.ensures.items in
    (omega (arith, long, few), sym (none_begun c.of.result.items c.args.count c.of.ensures), omega (arith, none))

pub returns-clause-answer : goal.returns-clause-answer
returns-clause-answer g c = λ first blocks. opened_empty c.of.result.items c.args.count first c.new.result _ c.of.ensures blocks c.new.ensures c.requires.some c.requires.few

pub returns-clause-none : goal.returns-clause-none
returns-clause-none g c = λ n. none_resident c.of.result.items c.args.count n c.of.ensures
