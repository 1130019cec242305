use Rattle.std.proofs.Common.{ap, subst, sym, ◌<◌, ◌≤◌, length, slice_set, arith, refl}
use Rattle.patch_stacks.proofs.Within.{settled_within}
use Rattle.patch_stacks.proofs.Apart.{are_taken, settled_apart}
use Rattle.patch_records.specs.Records.{Class}
use Rattle.patch_stacks.specs.State.{Block}
use Rattle.patch_stacks.specs.Changes.{Settles}
use Rattle.patch_stacks.proofs.Settling.{settled}
use Rattle.patch_images.proofs.Baring.{no_image}
use Rattle.patch_stacks.proofs.stacks.Stack.settle.Goals as goal

pub returns-clause-settled : goal.returns-clause-settled
returns-clause-settled g c =
    let now : Block = record { bytes = c.self.inside.bytes.items; classes = slice_set c.take_out-upper.new.list.items c.args.low c.become_both-is_of_both.new.self } in
    subst (λ z. Settles z c.args.low c.args.high c.args.drawn now) c.self.view_is (λ is.
    ap (λ ds. let b : Block = record { bytes = c.self.inside.bytes.items; classes = ds } in b)
    (settled c.self.inside.classes.items c.take_out-upper.new.list.items c.args.low c.args.high c.index_mut-lower.result.now c.take_out-upper.result
    c.become_both-is_of_both.new.self c.args.drawn c.requires.less (subst (λ z. c.args.high < length z.classes) (sym c.self.view_is) c.requires.within)
    c.take_out-upper.ensures.value c.take_out-upper.ensures.items c.index_mut-lower.ensures.value c.become_both-is_of_both.ensures.drawn is))

pub invariant_of-self : goal.invariant_of-self
invariant_of-self g c =
    let e = c.spread_over-self-inside.ensures in
    let l = c.len.ensures in
    let k = c.is_taken-is_taken.ensures in
    let j = c.joined-self-inside.ensures in
    let g = c.greater_name-greater.ensures in
    let within : c.args.high < length c.self.inside.classes.items = subst (λ z. c.args.high < length z.classes) (sym c.self.view_is) c.requires.within in
    let taken = are_taken c.self.inside.classes.items c.take_out-upper.new.list.items c.args.low c.args.high c.index_mut-lower.result.now c.take_out-upper.result
    c.requires.less within c.take_out-upper.ensures.value c.take_out-upper.ensures.items c.index_mut-lower.ensures.value in
    let fits : length c.take_out-upper.new.list.items ≤ c.take_out-upper.new.list.len = omega (arith, c.take_out-upper.new.list.ok.0) in (
      c.self.invariant.0,
      rw (e, l, k) (settled_within (λ (k : Class). k.taken) refl c.self.inside.classes.items c.take_out-upper.new.list.items c.args.low c.args.high c.become_both-is_of_both.new.self c.self.inside.taken
          c.take_out-upper.new.list.len c.take_out-upper.ensures.items within fits c.self.invariant.1),
      rw (j, g) (settled_apart c.self.inside.classes.items c.take_out-upper.new.list.items c.args.low c.args.high
          c.index_mut-lower.result.now c.take_out-upper.result c.become_both-is_of_both.new.self c.self.inside.members c.become_both-is_of_both.result taken
          c.become_both-is_of_both.ensures.of_both c.self.invariant.2),
      rw (c.spread_over-self-inside-2.ensures, c.len-2.ensures, c.is_flying-is_flying.ensures) (settled_within (λ (k : Class). k.flying) refl c.self.inside.classes.items c.take_out-upper.new.list.items c.args.low c.args.high c.become_both-is_of_both.new.self c.self.inside.flying
          c.take_out-upper.new.list.len c.take_out-upper.ensures.items within fits c.self.invariant.3),
      (λ m is on. no_image c.forget.new.image m c.forget.ensures is on),
      (λ m is on. no_image c.forget.new.image m c.forget.ensures is on),
    )
