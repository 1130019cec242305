use Rattle.std.proofs.Common.{◌∙◌, ap, arith}
use Rattle.patch_records.specs.Records.{Class, saved_end}
use Rattle.patch_records.proofs.Reading.{not_past}
use Rattle.patch_images.proofs.Baring.{class_is, next_alone}
use Rattle.patch_images.proofs.gaps.are_others_elsewhere.Goals as goal

pub offset_bounds-classes-at : goal.offset_bounds-classes-at
offset_bounds-classes-at g c = not_past _ _ c.requires

pub bounds-classes-at : goal.bounds-classes-at
bounds-classes-at g c = c.requires

pub is_apart-requires-clause-within : goal.is_apart-requires-clause-within
is_apart-requires-clause-within g c = c.loop-other-test.true

pub is_apart-requires-clause-start : goal.is_apart-requires-clause-start
is_apart-requires-clause-start g c =
    c.start-start.ensures ∙ ap (λ (d : Class). d.start) (class_is c.args.classes.now c.args.at c.index-classes-at.result c.requires c.index-classes-at.is)

pub is_apart-requires-clause-stop : goal.is_apart-requires-clause-stop
is_apart-requires-clause-stop g c =
    c.saved_end-stop.ensures.exact ∙ ap saved_end (class_is c.args.classes.now c.args.at c.index-classes-at.result c.requires c.index-classes-at.is)

pub loop-other-init : goal.loop-other-init
loop-other-init g c k below = absurd (omega (arith, below))

pub loop-other-preserved : goal.loop-other-preserved
loop-other-preserved g c = next_alone c.args.classes.now c.args.at c.loop-other.other c.loop-other.invariant (c.is_apart.ensures c.if-not-is_apart.false)

pub returns : goal.returns
returns g c t k w = c.loop-other.invariant k (let over = c.loop-other-test.false in let end = c.loop-other.auto.other-end in omega arith)
