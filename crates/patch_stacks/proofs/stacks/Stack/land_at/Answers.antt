use Rattle.std.proofs.Common.{◌+◌, ◌<◌, ◌≤◌, length, sym, subst, arith, refl, ap, not, ◌∙◌}
use Rattle.std.specs.List.{remove}
use Rattle.patch_records.specs.Records.{Class, is_takeable}
use Rattle.patch_stacks.proofs.Within.{removed_within}
use Rattle.patch_stacks.proofs.Apart.{removed_apart}
use Rattle.patch_images.proofs.Baring.{removed_image, trimmed_image, class_is}
use Rattle.patch_images.proofs.Gapping.{removed_gap, stays_gap}
use Rattle.patch_stacks.proofs.stacks.Stack.land_at.Goals as goal

pub invariant_of-self : goal.invariant_of-self
invariant_of-self g c =
    let within : c.args.at < length c.self.inside.classes.items = subst (λ z. c.args.at < length z.classes) (sym c.self.view_is) c.requires in
    let e = c.spread-self-inside.ensures in
    let l = c.len.ensures in
    let gone = c.take_out-gone.ensures.items in
    let fits : length c.take_out-gone.new.list.items ≤ c.take_out-gone.new.list.len = omega (arith, c.take_out-gone.new.list.ok.0) in
    let fits_too : length (remove c.self.inside.classes.items c.args.at) ≤ c.take_out-gone.new.list.len = rw gone at fits in (
      c.self.invariant.0,
      rw (e, l, gone) (removed_within (λ (k : Class). k.taken) refl c.self.inside.classes.items c.args.at c.self.inside.taken c.take_out-gone.new.list.len fits_too within c.self.invariant.1),
      rw gone (removed_apart c.self.inside.classes.items c.args.at c.self.inside.members within c.self.invariant.2),
      rw (c.spread-self-inside-2.ensures, c.len-2.ensures, gone) (removed_within (λ (k : Class). k.flying) refl c.self.inside.classes.items c.args.at c.self.inside.flying c.take_out-gone.new.list.len fits_too within c.self.invariant.3),
      trimmed_image c.forget_unless.new.image c.trim_gap.new.image c.take_out-gone.new.list.items c.self.inside.bytes.items c.args.at (c.args.at + 1) c.trim_gap.ensures
          (rw gone (removed_image c.self.inside.image c.forget_unless.new.image c.self.inside.classes.items c.args.at c.self.inside.bytes.items c.is_takeable.result within
          (c.is_takeable.ensures ∙ ap is_takeable (class_is c.self.inside.classes.items c.args.at c.take_out-gone.result within c.take_out-gone.ensures.value))
          c.forget_unless.ensures c.self.invariant.4)),
      rw gone (removed_gap c.forget_unless.new.image c.trim_gap.new.image c.self.inside.classes.items c.args.at within c.trim_gap.ensures
          (stays_gap (not c.is_takeable.result) c.self.inside.image c.forget_unless.new.image c.self.inside.classes.items c.forget_unless.ensures c.self.invariant.5)),
    )
