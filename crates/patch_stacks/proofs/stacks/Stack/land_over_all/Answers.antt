use Rattle.std.proofs.Common.{◌≡◌, ◌≤◌, ℕ, ap, ◌∙◌, rules, not, length, filter, arith, refl, subst}
use Rattle.std.proofs.lemmas.Fn.{filter_same}
use Rattle.patch_records.specs.Records.{Class}
use Rattle.patch_stacks.specs.State.{Block, with_landed}
use Rattle.patch_images.specs.Images.{IsTrimmed}
use Rattle.patch_stacks.proofs.Within.{filtered_within}
use Rattle.patch_stacks.proofs.Landing.{none_flying}
use Rattle.patch_stacks.proofs.Apart.{filtered_apart}
use Rattle.patch_images.proofs.Baring.{filtered_image, trimmed_image}
use Rattle.patch_images.proofs.Gapping.{emptied_gap}
use Rattle.patch_stacks.proofs.stacks.Stack.land_over_all.Goals as goal

pub returns : goal.returns
returns g c =
    let kept = filter_same _ (λ (k : Class). not k.flying) _ (λ x b f h. search rules) _ _ c.retain.ensures.filtered in
    ap (λ ks. let b : Block = record { bytes = c.self.inside.bytes.items; classes = ks } in b) kept ∙ ap with_landed c.self.view_is

pub invariant_of-self : goal.invariant_of-self
invariant_of-self g c =
    let kept = filter_same _ (λ (k : Class). not k.flying) _ (λ x b f h. search rules) _ _ c.retain.ensures.filtered in
    let e = c.spread-self-inside.ensures in
    let l = c.len.ensures in
    let l2 = c.len-2.ensures in
    let whole : c.len.result ≡ length c.self.inside.classes.items = omega (arith, l, c.self.inside.classes.ok.0) in
    let long : length (filter (λ (k : Class). not k.flying) c.self.inside.classes.items) ≤ c.retain.new.self.len = omega (arith, ap length kept, c.retain.new.self.ok.0) in (
      c.self.invariant.0,
      rw (e, l2, kept) (filtered_within (λ (k : Class). k.taken) refl (λ k. not k.flying) c.self.inside.classes.items c.self.inside.taken c.retain.new.self.len long c.self.invariant.1),
      rw kept (filtered_apart (λ k. not k.flying) c.self.inside.classes.items c.self.inside.members c.self.invariant.2),
      rw kept (none_flying c.self.inside.classes.items _),
      trimmed_image c.self.inside.image c.trim_gap.new.image c.retain.new.self.items c.self.inside.bytes.items 0 c.len.result c.trim_gap.ensures
          (rw kept (filtered_image c.self.inside.image c.self.inside.classes.items c.self.inside.bytes.items c.self.invariant.4)),
      emptied_gap c.self.inside.image c.trim_gap.new.image c.self.inside.classes.items c.retain.new.self.items
          (subst (λ (n : ℕ). IsTrimmed 0 n c.self.inside.image c.trim_gap.new.image) whole c.trim_gap.ensures) c.self.invariant.5,
    )
