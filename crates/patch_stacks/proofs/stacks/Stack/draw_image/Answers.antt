use Rattle.std.proofs.Common.{subst}
use Rattle.patch_images.specs.Images.{IsDrawnOf}
use Rattle.patch_images.proofs.Baring.{drawn_image}
use Rattle.patch_images.proofs.Gapping.{drawn_gap}
use Rattle.patch_stacks.proofs.stacks.Stack.draw_image.Goals as goal

pub invariant_of-self : goal.invariant_of-self
invariant_of-self g c =
    let classes = c.self.inside.classes.items in
    let bytes = c.self.inside.bytes.items in
    let image = c.self.inside.image in
    let now = c.draw_unless_known.new.image in
    let drawn =
    subst (λ cs. IsDrawnOf cs bytes image now) c.as_slice-classes.ensures.value
    (subst (λ bs. IsDrawnOf c.as_slice-classes.result.now bs image now) c.as_slice.ensures.value c.draw_unless_known.ensures) in (
      c.self.invariant.0,
      c.self.invariant.1,
      c.self.invariant.2,
      c.self.invariant.3,
      drawn_image image now classes bytes drawn c.self.invariant.4,
      drawn_gap image now classes bytes drawn c.self.invariant.5,
    )
