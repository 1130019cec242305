use Rattle.std.proofs.Common.{◌∙◌, length, sym, ap}
use Rattle.patch_stacks.specs.State.{Block}
use Rattle.patch_images.specs.Images.{bared}
use Rattle.patch_stacks.proofs.Imaging.{swept-bared}
use Rattle.patch_stacks.proofs.stacks.Stack.take_all_from.Goals as goal

pub returns-then-not-copy_image-clause-exact : goal.returns-then-not-copy_image-clause-exact
returns-then-not-copy_image-clause-exact g c =
    c.uncover_all.ensures.exact ∙ ap (λ cs. bared cs c.copy_image.new.copy) c.as_slice.ensures.value
    ∙ ap (bared c.self.inside.classes.items) (c.copy_image.ensures.same c.if-not-copy_image.true ∙ c.requires)
    ∙ ap (λ b. bared b.classes c.args.self.now.bytes) c.self.view_is ∙ sym (swept-bared c.args.self.now)

pub returns-else-not-copy_image-clause-exact : goal.returns-else-not-copy_image-clause-exact
returns-else-not-copy_image-clause-exact g c =
    let h = c.copy_image.ensures.copied c.if-not-copy_image.false in
    h.is ∙ c.self.invariant.4 h.from h.some h.known ∙ ap (λ b. bared b.classes b.bytes) c.self.view_is ∙ sym (swept-bared c.args.self.now)

pub copy_image-requires : goal.copy_image-requires
copy_image-requires g c = ap length (c.requires ∙ sym (ap (λ (b : Block). b.bytes) c.self.view_is)) ∙ c.self.invariant.0

pub uncover_all-requires : goal.uncover_all-requires
uncover_all-requires g c = c.copy_image.auto.copy ∙ ap length (c.requires ∙ sym (ap (λ (b : Block). b.bytes) c.self.view_is)) ∙ c.self.invariant.0

pub returns-then-not-copy_image-clause-length : goal.returns-then-not-copy_image-clause-length
returns-then-not-copy_image-clause-length g c = c.uncover_all.ensures.length

pub returns-else-not-copy_image-clause-length : goal.returns-else-not-copy_image-clause-length
returns-else-not-copy_image-clause-length g c = c.copy_image.auto.copy ∙ ap length (c.requires ∙ sym (ap (λ (b : Block). b.bytes) c.self.view_is)) ∙ c.self.invariant.0
