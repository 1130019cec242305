use Rattle.std.proofs.Common.{rules, of_calls, map}
use Rattle.std.proofs.lemmas.Fn.{always_returns_same}
use Rattle.patch_index.specs.Index.{told}
use Rattle.patch_index.specs.Orders.{comes_before, ranked, key_in}
use Rattle.patch_index.proofs.Ranked.{parted}
use Rattle.patch_index.proofs.searching.place_by_key.Goals as goal

pub returns : goal.returns
returns c =
    let rank = key_in (map told c.args.slots.now) in
    record {
      within = c.partition_point.ensures.bound;
      point =
          c.partition_point.ensures.partitioned (λ s. comes_before (ranked rank s) (c.args.key.now, c.args.slot)) (always_returns_same _ _ _ (λ a r f k. search (rules, of_calls)))
          (parted rank c.args.order.now c.requires (c.args.key.now, c.args.slot));
    }
