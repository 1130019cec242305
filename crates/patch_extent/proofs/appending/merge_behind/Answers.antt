use Rattle.std.proofs.Common.{sym, subst}
use Rattle.patch_extent.specs.Appending.{MergesBehind}
use Rattle.patch_extent.specs.Merging.{outcome_of}
use Rattle.patch_extent.proofs.Merged.{tried, none_before}
use Rattle.patch_extent.proofs.appending.merge_behind.Goals as goal

pub returns-in-Some : goal.returns-in-Some
returns-in-Some g c =
    let told = c.merge.ensures in
    subst (λ o. MergesBehind c.args.before.now c.args.no o c.args.cache.now c.merge.new.self) (sym c.outcome_of.ensures)
    (subst (λ b. MergesBehind b c.args.no (outcome_of c.merge.result) c.args.cache.now c.merge.new.self) (sym c.in-Some.is)
    (tried c.pairs_merge.ensures.legal c.in-Some.before c.args.no c.args.cache.now c.merge.new.self c.merge.result told.merged told.cause told.trace told.refused))

pub returns-in-None : goal.returns-in-None
returns-in-None g c = none_before c.args.before.now c.args.no c.args.cache.now c.in-None.is
