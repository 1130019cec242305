use Rattle.std.proofs.Common.{◌≡◌, ◌∙◌, length, ap}
use Rattle.std.specs.Prelude.{sum_by}
use Rattle.std.specs.List.{range_with_len}
use Rattle.patch_frame.specs.Geometry.{block_count}
use Rattle.patch_frame.specs.declared.geometries.Geometry.{Geometry}
use Rattle.patch_history.specs.Choosing.{empty_extents}
use Rattle.patch_history.specs.History.{standing_of}
use Rattle.patch_history.specs.Shelf.{Shelf}
use Rattle.patch_index.specs.Reporting.{live_bytes, of_slots}
use Rattle.patch_store.specs.Checking.{entries_of}
use Rattle.patch_store.specs.Meaning.{Store}
use Rattle.patch_store.proofs.Reported.{listed_so}
use Rattle.patch_store.proofs.stores.Store.totals.Goals as goal

pub returns : goal.returns
returns g c h was =
    let s = c.args.self.now.shelf in
    let shelf = (standing_of h).shelf in
    let lists = listed_so c.shelves_are_kept.ensures c.histories_are_of_stores.ensures.read h c.args.self.now was (of_slots s.slots) (λ i. of_slots s.slots) in
    let divided : c.self.inside.geometry ≡ shelf.extents.geometry =
    c.self.invariant.0 ∙ ap (λ (x : Store). x.shelf.extents.geometry) c.self.view_is ∙ ap (λ (x : Shelf). x.extents.geometry) was.shelf_is in
    let keys : c.used.result ≡ length (entries_of h) =
    c.used.ensures ∙ ap (λ (x : Store). length (of_slots x.shelf.slots)) c.self.view_is ∙ ap length lists.listed in
    let live : c.live_bytes.result ≡ sum_by (live_bytes shelf.slots) (range_with_len 0 shelf.extents.geometry.extents) =
    c.live_bytes.ensures ∙ ap (λ (x : Shelf). sum_by (live_bytes x.slots) (range_with_len 0 x.extents.geometry.extents)) was.shelf_is in
    let blocks : c.block_count.result ≡ block_count shelf.extents.geometry = c.block_count.ensures ∙ ap block_count divided in
    let extents : c.self.inside.geometry.extents ≡ shelf.extents.geometry.extents = ap (λ (x : Geometry). x.extents) divided in
    let empty : c.count_empty.result ≡ length (empty_extents shelf) =
    c.count_empty.ensures ∙ ap (λ (x : Shelf). length (empty_extents x)) was.shelf_is in
    λ i. record { keys = keys i; live = live i; blocks = blocks i; extents = extents i; empty = empty i }
