use Rattle.std.proofs.Common.{◌∙◌, true, length, ap, sym, List, ℕ}
use Rattle.std.proofs.lemmas.List.{with_items_is}
use Rattle.patch_images.specs.declared.gaps.Gap.{Gap}
use Rattle.patch_images.specs.Images.{Image, bared}
use Rattle.patch_images.proofs.images.Image.draw.Goals as goal

pub copy_from_slice-requires : goal.copy_from_slice-requires
copy_from_slice-requires g c = ap length c.as_mut_slice-copy.ensures.value ∙ c.self.invariant ∙ sym c.requires

pub uncover_all-requires : goal.uncover_all-requires
uncover_all-requires g c = c.copy_from_slice.ensures.len ∙ ap length c.as_mut_slice-copy.ensures.value ∙ c.self.invariant

pub invariant_of-self : goal.invariant_of-self
invariant_of-self g c =
    ap length (with_items_is c.self.inside.bytes c.uncover_all.new.copy (c.uncover_all.auto.copy ∙ c.copy_from_slice.ensures.len ∙ c.as_mut_slice-copy.ensures.len))
    ∙ c.uncover_all.ensures.length

pub returns : goal.returns
returns g c =
    let drawn = with_items_is c.self.inside.bytes c.uncover_all.new.copy (c.uncover_all.auto.copy ∙ c.copy_from_slice.ensures.len ∙ c.as_mut_slice-copy.ensures.len)
    ∙ c.uncover_all.ensures.exact ∙ ap (bared c.args.classes.now) c.copy_from_slice.ensures.after in
    ap (λ (bytes : List ℕ). let m : Image = record { bytes = bytes; known = true; gap = c.none-self-inside.result } in m) drawn
    ∙ ap (λ (gap : Gap). let m : Image = record { bytes = bared c.args.classes.now c.args.block.now; known = true; gap = gap } in m) c.none-self-inside.ensures
