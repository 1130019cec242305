use Rattle.std.proofs.Common.{◌≡◌, ◌∙◌, sym, ap, subst}
use Rattle.patch_cache.specs.Contents.{Contents}
use Rattle.patch_cache.specs.Meaning.{IsCacheOf}
use Rattle.patch_store.specs.Meaning.{Store}
use Rattle.patch_shared.specs.Books.{run_of}
use Rattle.patch_shared.proofs.serving.finish.Goals as goal

pub returns-clause-holds : goal.returns-clause-holds
returns-clause-holds g c = λ honest.
    let lent : c.cache.result.now ≡ c.args.ran.book.store.cache = c.cache.ensures ∙ ap (λ (s : Store). s.cache) c.store.ensures in
    let kept : IsCacheOf c.cache.result.now (run_of c.args.ran.book) =
    subst (λ (x : Contents). IsCacheOf x (run_of c.args.ran.book)) (sym lent) c.into_parts-store.ensures.kept.cache_is in
    c.in_default.ensures.holds honest (run_of c.args.ran.book) kept c.requires.blocks
