use Rattle.std.proofs.Common.{rules, ap, arith, ◌∙◌, ◌≡◌}
use Rattle.std.specs.Prelude.{◌-◌}
use Rattle.std.specs.List.{swap}
use Rattle.patch_links.proofs.Swaps.{left-swapped}
use Rattle.patch_links.proofs.lists.OfBlock.leave.Goals as goal

pub returns : goal.returns
returns g c =
    let done : c.self.inside.done ≡ c.args.self.now.done = ap (λ o. o.done) c.self.view_is in
    let ready : c.self.inside.ready.items ≡ c.args.self.now.ready = ap (λ o. o.ready) c.self.view_is in
    let before = c.place_of-place.ensures.before in
    left-swapped c.args.self.now _ c.place_of-place.result (c.self.inside.done - 1) c.args.key before c.requires.within c.place_of-place.ensures.here (omega arith)
    (c.swap.ensures.items ∙ ap (λ xs. swap xs c.place_of-place.result (c.self.inside.done - 1)) ready) (search rules)
