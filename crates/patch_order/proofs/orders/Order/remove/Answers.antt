use Rattle.std.proofs.Common.{◌≡◌, ◌-◌, ◌∙◌, length, take, sym, ap, arith}
use Rattle.std.proofs.lemmas.List.{length-take-le}
use Rattle.std.specs.List.{remove}
use Rattle.patch_order.proofs.Lined.{take_out_memory, refilled}
use Rattle.patch_order.proofs.orders.Order.remove.Goals as goal

pub returns : goal.returns
returns g c =
    let xs = c.self.inside.numbers.items in
    let n = c.self.inside.count in
    let told = c.self.invariant.0 in
    let few = c.self.invariant.1 in
    let long : length c.args.self.now ≡ n = ap length (sym c.self.view_is) ∙ length-take-le n xs (omega (arith, told, few)) in
    let low = c.requires in
    let ms = c.as_mut_slice-numbers.result.now in
    let ys = c.rotate_left.new.self in
    let value = c.as_mut_slice-numbers.ensures.value in
    let len : c.self.inside.numbers.len ≡ length ms = c.self.inside.numbers.ok.0 ∙ sym (ap length value) in
    ap (take (n - 1)) (refilled xs ms c.args.at (n - c.args.at) c.self.inside.numbers.len ys c.rotate_left.ensures.len len)
    ∙ take_out_memory xs ms n c.args.at ys value (omega (arith, low, long)) (omega (arith, few, told)) c.rotate_left.ensures.after
    ∙ ap (λ s. remove s c.args.at) c.self.view_is
