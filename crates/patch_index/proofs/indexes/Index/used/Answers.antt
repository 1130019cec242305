use Rattle.std.proofs.Common.{◌≡◌, ◌-◌, ◌∙◌, length, map, ap, arith}
use Rattle.std.proofs.lemmas.List.{length-map}
use Rattle.patch_index.specs.Index.{told}
use Rattle.patch_index.specs.Reporting.{of_slots}
use Rattle.patch_index.proofs.Counted.{all_counted}
use Rattle.patch_index.proofs.indexes.Index.used.Goals as goal

pub returns : goal.returns
returns g c =
    let items = c.self.inside.slots.items in
    let slots = map told items in
    let all = all_counted slots c.self.inside.empty c.self.invariant.1.empties in
    let long = length-map items told in
    let used : c.len.result - c.len-2.result ≡ length (of_slots slots) = omega (arith, all, long, c.len.ensures, c.len-2.ensures) in
    used ∙ ap (λ s. length (of_slots s)) c.self.view_is
