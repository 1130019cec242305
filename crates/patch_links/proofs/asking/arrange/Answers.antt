use Rattle.std.proofs.Common.{nat_eq}
use Rattle.std.proofs.lemmas.List.Sorted.{IsNonDecreasingBy-from_sort}
use Rattle.std.proofs.lemmas.List.Filters.{dedup_is}
use Rattle.patch_links.proofs.Arranging.{arranges}
use Rattle.patch_links.proofs.asking.arrange.Goals as goal

pub returns : goal.returns
returns g c = arranges c.args.all.now.items c.sort.new.self.items c.dedup.new.self.items c.sort.ensures.permutation
    (IsNonDecreasingBy-from_sort (λ n. n) c.sort.new.self.items c.in_ok-sort.ensures.sorted)
    (dedup_is nat_eq c.sort.new.self.items c.dedup.new.self.items c.dedup.ensures.filtered)
