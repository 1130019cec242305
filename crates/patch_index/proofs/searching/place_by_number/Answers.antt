use Rattle.std.proofs.Common.{rules, of_calls, ◌∙◌, [], get_or, sym}
use Rattle.std.specs.Prelude.{nat_lt}
use Rattle.std.proofs.lemmas.Fn.{always_returns_same}
use Rattle.patch_index.specs.Orders.{unranked}
use Rattle.patch_index.proofs.Ranked.{parted, by_number}
use Rattle.patch_index.proofs.searching.place_by_number.Goals as goal

pub returns : goal.returns
returns c =
    let order = c.args.order.now in
    let slot = c.args.slot in
    let point = c.partition_point.ensures.partitioned (λ s. nat_lt s slot) (always_returns_same _ _ _ (λ a r f k. search (rules, of_calls)))
    (λ i j d low within is. sym (by_number (get_or order i d) slot) ∙ parted unranked order c.requires ([], slot) i j d low within (by_number (get_or order j d) slot ∙ is)) in
    record {
      within = c.partition_point.ensures.bound;
      point = (λ k d low less. by_number (get_or order k d) slot ∙ point.0 k d low less, λ k d low less. by_number (get_or order k d) slot ∙ point.1 k d low less);
    }
