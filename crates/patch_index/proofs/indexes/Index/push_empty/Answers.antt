use Rattle.std.proofs.Common.{◌≡◌, ◌∙◌, ◌∷◌, [], ◌++◌, length, map, sym, ap, refl, arith}
use Rattle.std.specs.Prelude.{None}
use Rattle.std.specs.List.{insert}
use Rattle.std.proofs.lemmas.List.{length-map, map-append, length_push}
use Rattle.patch_index.specs.Index.{told}
use Rattle.patch_index.proofs.SlotChanges.{lengthened, same_orders}
use Rattle.patch_index.proofs.Summing.{summed_on, same_sums}
use Rattle.patch_index.proofs.indexes.Index.push_empty.Goals as goal

pub invariant_of-self-2 : goal.invariant_of-self-2
invariant_of-self-2 g c =
    let items = c.self.inside.slots.items in
    let slots = map told items in
    let inside = c.self.inside in
    let now = c.in-Ok.ensures.items in
    let long : length items ≡ length c.args.self.now = sym (length-map items told) ∙ ap length c.self.view_is in
    let room = c.requires in
    let more = ap length now ∙ length_push items None in
    let count = c.len-number.ensures in
    let same = length-map items told in
    let number : c.len-number.result ≡ length slots = omega (arith, count, same) in (
      omega (arith, long, room, more),
      same_orders (slots ++ None ∷ []) (map told c.push.new.self.items) (insert inside.empty (length inside.empty) (length slots)) c.insert.new.self inside.by_key inside.by_key
          inside.by_place inside.by_place (sym (ap (map told) now ∙ map-append told items (None ∷ [])))
          (sym (c.insert.ensures ∙ ap (λ n. insert inside.empty n c.len-number.result) c.len-last.ensures ∙ ap (insert inside.empty (length inside.empty)) number)) refl refl
          (lengthened slots inside.empty inside.by_key inside.by_place c.self.invariant.1),
      same_sums (slots ++ None ∷ []) (map told c.push.new.self.items) inside.live inside.live (sym (ap (map told) now ∙ map-append told items (None ∷ []))) refl
          (summed_on slots inside.live c.self.invariant.2),
    )
