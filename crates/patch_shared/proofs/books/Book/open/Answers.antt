use Rattle.std.proofs.Common.{sym, ap, subst, map, refl}
use Rattle.patch_cache.specs.Meaning.{IsCacheOf}
use Rattle.patch_shared.specs.Books.{entry_of}
use Rattle.patch_shared.proofs.Calls.{kept_open, opened_on}
use Rattle.patch_shared.proofs.books.Book.open.Goals as goal

pub invariant_of-result : goal.invariant_of-result
invariant_of-result g c =
    kept_open c.args.store c.in-Ok.opening.items c.requires.0 (map entry_of c.new.result.items) c.requires.1
    (λ run stands. c.in-Ok.ensures run (subst (λ k. IsCacheOf k run) (sym c.cache.ensures) stands)) (ap (map entry_of) c.new.ensures.items)

pub returns-clause-begun : goal.returns-clause-begun
returns-clause-begun g c = record {
  store_is = refl;
  opening_is = λ blocks fresh. opened_on c.args.store c.in-Ok.opening.items blocks fresh
      (λ run stands. c.in-Ok.ensures run (subst (λ k. IsCacheOf k run) (sym c.cache.ensures) stands));
  no_calls = ap (map entry_of) c.new.ensures.items;
  none_counted = refl;
}
