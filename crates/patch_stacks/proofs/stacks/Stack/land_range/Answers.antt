use Rattle.std.proofs.Common.{◌≡◌, ◌≤◌, ap, ◌∙◌, not, length, filter, arith, refl, rules, sym, subst}
use Rattle.std.specs.List.{remove_range}
use Rattle.patch_records.specs.Records.{Class}
use Rattle.patch_stacks.specs.State.{Block, with_landed, AllFlyAt, FlyingWithin}
use Rattle.patch_stacks.proofs.Within.{filtered_within}
use Rattle.patch_stacks.proofs.Landing.{filter-range, none_flying}
use Rattle.patch_stacks.proofs.Apart.{filtered_apart}
use Rattle.patch_images.proofs.Baring.{filtered_image, trimmed_image}
use Rattle.patch_images.proofs.Gapping.{cut_gap}
use Rattle.patch_stacks.proofs.stacks.Stack.land_range.Given.{Over}
use Rattle.patch_stacks.proofs.stacks.Stack.land_range.Goals as goal

out : (g : Over) (c : goal.After-self-2-1 g) → c.drop.new.self.0.items ≡ remove_range c.self.inside.classes.items c.args.flying.from c.args.flying.to
out g c = search rules

kept : (g : Over) (c : goal.After-self-2-1 g) → c.drop.new.self.0.items ≡ filter (λ (k : Class). not k.flying) c.self.inside.classes.items
kept g c =
    let v = sym c.self.view_is in
    let flying = c.args.flying in
    out g c ∙ filter-range c.self.inside.classes.items flying.from flying.to c.requires.range.0
    (subst (λ (b : Block). flying.to ≤ length b.classes) v c.requires.range.1) (subst (λ (b : Block). AllFlyAt flying b.classes) v c.requires.all)
    (subst (λ (b : Block). FlyingWithin flying b.classes) v c.requires.within)

pub returns : goal.returns
returns g c = ap (λ ks. let b : Block = record { bytes = c.self.inside.bytes.items; classes = ks } in b) (kept g c) ∙ ap with_landed c.self.view_is

pub invariant_of-self : goal.invariant_of-self
invariant_of-self g c =
    let is = kept g c in
    let e = c.spread-self-inside.ensures in
    let l = c.len.ensures in
    let long : length (filter (λ (k : Class). not k.flying) c.self.inside.classes.items) ≤ c.drop.new.self.0.len = omega (arith, ap length is, c.drop.new.self.0.ok.0) in (
      c.self.invariant.0,
      rw (e, l, is) (filtered_within (λ (k : Class). k.taken) refl (λ k. not k.flying) c.self.inside.classes.items c.self.inside.taken c.drop.new.self.0.len long c.self.invariant.1),
      rw is (filtered_apart (λ k. not k.flying) c.self.inside.classes.items c.self.inside.members c.self.invariant.2),
      rw is (none_flying c.self.inside.classes.items _),
      trimmed_image c.self.inside.image c.trim_gap.new.image c.drop.new.self.0.items c.self.inside.bytes.items c.args.flying.from c.args.flying.to c.trim_gap.ensures
          (rw is (filtered_image c.self.inside.image c.self.inside.classes.items c.self.inside.bytes.items c.self.invariant.4)),
      rw (out g c) (cut_gap c.self.inside.image c.trim_gap.new.image c.self.inside.classes.items c.args.flying.from c.args.flying.to c.requires.range.0
          (subst (λ (b : Block). c.args.flying.to ≤ length b.classes) (sym c.self.view_is) c.requires.range.1) c.trim_gap.ensures c.self.invariant.5),
    )
