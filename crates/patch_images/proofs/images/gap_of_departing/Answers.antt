use Rattle.std.proofs.Common.{◌∙◌, ap, sym, subst}
use Rattle.std.proofs.lemmas.Option.{IfSome_then}
use Rattle.patch_records.specs.Records.{is_takeable}
use Rattle.patch_images.specs.Images.{Image}
use Rattle.patch_images.specs.Gaps.{IsGap}
use Rattle.patch_records.proofs.Reading.{not_past}
use Rattle.patch_images.proofs.Baring.{class_is}
use Rattle.patch_images.proofs.images.gap_of_departing.Goals as goal

pub offset_bounds-classes-at : goal.offset_bounds-classes-at
offset_bounds-classes-at g c = not_past _ _ c.requires.there

pub bounds-classes-at : goal.bounds-classes-at
bounds-classes-at g c = c.requires.there

pub gap_left-requires-clause-there : goal.gap_left-requires-clause-there
gap_left-requires-clause-there g c = c.requires.there

pub gap_left-requires-clause-gap : goal.gap_left-requires-clause-gap
gap_left-requires-clause-gap g c =
    subst (λ (m : Image). IsGap m.gap c.args.classes.now) (sym c.image.view_is)
    (c.requires.gap c.in-Some.image c.in-Some.is (sym c.is_known.ensures ∙ c.if-is_known.true))

pub returns-then-is_takeable : goal.returns-then-is_takeable
returns-then-is_takeable g c = IfSome_then c.gap_left.result c.gap_left.ensures (λ gap alone. record {
  takeable = ap is_takeable (sym (class_is c.args.classes.now c.args.at c.index-classes-at.result c.requires.there c.index-classes-at.is))
      ∙ sym c.is_takeable.ensures ∙ c.if-is_takeable.true;
  alone = alone;
})
