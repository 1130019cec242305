use Rattle.std.proofs.Common.{true, false, rules, List, sym, subst}
use Rattle.patch_model.specs.declared.refusals.RefusalKind.TheVariants as kind
use Rattle.patch_model.specs.Entry.{Entry}
use Rattle.patch_model.specs.State.{entries_of}
use Rattle.patch_model.specs.Legal.{IsLegalMerge}
use Rattle.patch_model.specs.Refusing.{bare}
use Rattle.patch_cache.specs.Contents.{Contents}
use Rattle.patch_cache.specs.Meaning.{IsCacheOf, IsPagedCacheOf}
use Rattle.patch_cache.specs.Refusals.{IsMergeCause, sooner, between, against, no_memory, merge_cause}
use Rattle.patch_cache.proofs.caches.Cache.merge.Goals as goal

pub returns-in_err-block-clause-cause : goal.returns-in_err-block-clause-cause
returns-in_err-block-clause-cause g c = λ run at.
    let why : IsMergeCause (entries_of run) c.args.a c.args.b (merge_cause c.in_err-block.field-0.0) = against (sooner (c.in_err-block.ensures.answer true run at)) in
    search rules

pub returns-in_err-block-clause-cause_paged : goal.returns-in_err-block-clause-cause_paged
returns-in_err-block-clause-cause_paged g c = λ run at.
    let why : IsMergeCause (entries_of run) c.args.a c.args.b (merge_cause c.in_err-block.field-0.0) = against (sooner (c.in_err-block.ensures.answer false run at)) in
    search rules

pub returns-in-Some-clause-cause : goal.returns-in-Some-clause-cause
returns-in-Some-clause-cause g c = λ run at.
    let near = (c.in_ok-block.ensures.answer true run at).0 in
    against (between near (c.in-Some.ensures.answer true run at near))

pub returns-in-Some-clause-cause_paged : goal.returns-in-Some-clause-cause_paged
returns-in-Some-clause-cause_paged g c = λ run at.
    let near = (c.in_ok-block.ensures.answer false run at).0 in
    against (between near (c.in-Some.ensures.answer false run at near))

pub returns-in_err-make_one-clause-cause : goal.returns-in_err-make_one-clause-cause
returns-in_err-make_one-clause-cause g c = λ run at.
    let all : List Entry = entries_of run in
    let near = (c.in_ok-block.ensures.answer true run at).0 in
    let lawful : IsLegalMerge all c.args.a c.args.b = (c.pairs_merge.ensures.legal all c.args.a c.args.b).0 (near, c.in_default.ensures.answer true run at near) in
    let why : IsMergeCause all c.args.a c.args.b (bare kind.OutOfMemory) = no_memory lawful in
    search rules

pub returns-in_err-make_one-clause-cause_paged : goal.returns-in_err-make_one-clause-cause_paged
returns-in_err-make_one-clause-cause_paged g c = λ run at.
    let all : List Entry = entries_of run in
    let near = (c.in_ok-block.ensures.answer false run at).0 in
    let lawful : IsLegalMerge all c.args.a c.args.b = (c.pairs_merge.ensures.legal all c.args.a c.args.b).0 (near, c.in_default.ensures.answer false run at near) in
    let why : IsMergeCause all c.args.a c.args.b (bare kind.OutOfMemory) = no_memory lawful in
    search rules

pub returns-clause-merged : goal.returns-clause-merged
returns-clause-merged g c = λ run at.
    let all : List Entry = entries_of run in
    let here = c.in_ok-block.ensures.answer true run at in
    let lawful : IsLegalMerge all c.args.a c.args.b = (c.pairs_merge.ensures.legal all c.args.a c.args.b).0 (here.0, c.in_default.ensures.answer true run at here.0) in
    let still = subst (λ (s : Contents). IsCacheOf s run) (sym c.in_default.ensures.same) at in
    c.in_ok-make_one.ensures.merged true run still (lawful, here.1)

pub returns-clause-merged_paged : goal.returns-clause-merged_paged
returns-clause-merged_paged g c = λ run at.
    let all : List Entry = entries_of run in
    let here = c.in_ok-block.ensures.answer false run at in
    let lawful : IsLegalMerge all c.args.a c.args.b = (c.pairs_merge.ensures.legal all c.args.a c.args.b).0 (here.0, c.in_default.ensures.answer false run at here.0) in
    let still = subst (λ (s : Contents). IsPagedCacheOf s run) (sym c.in_default.ensures.same) at in
    c.in_ok-make_one.ensures.merged false run still (lawful, here.1)
