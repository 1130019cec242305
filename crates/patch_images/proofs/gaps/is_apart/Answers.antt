use Rattle.std.proofs.Common.{◌∙◌, sym}
use Rattle.std.proofs.lemmas.Bool.{both_ways, not-true}
use Rattle.patch_images.proofs.Baring.{class_is, apart_unless}
use Rattle.patch_images.proofs.gaps.is_apart.Goals as goal

pub returns-then-not-saves_any : goal.returns-then-not-saves_any
returns-then-not-saves_any g c t =
    apart_unless c.args.classes.now c.args.at c.args.other c.args.start c.args.stop c.index-classes-other.result
    (class_is c.args.classes.now c.args.other c.index-classes-other.result c.requires.within c.index-classes-other.is) c.requires.start c.requires.stop
    c.saves_any.ensures.fits (λ ne soft. sym c.saves_any.ensures.exact ∙ c.if-not-saves_any.true)

pub returns-then-other-at : goal.returns-then-other-at
returns-then-other-at g c t =
    apart_unless c.args.classes.now c.args.at c.args.other c.args.start c.args.stop c.index-classes-other.result
    (class_is c.args.classes.now c.args.other c.index-classes-other.result c.requires.within c.index-classes-other.is) c.requires.start c.requires.stop
    c.saves_any.ensures.fits (λ ne soft. absurd (ne c.if-other-at.true))

pub returns : goal.returns
returns g c t =
    apart_unless c.args.classes.now c.args.at c.args.other c.args.start c.args.stop c.index-classes-other.result
    (class_is c.args.classes.now c.args.other c.index-classes-other.result c.requires.within c.index-classes-other.is) c.requires.start c.requires.stop
    c.saves_any.ensures.fits (λ ne soft. absurd (both_ways _ (not-true _ t) (c.is_takeable.ensures ∙ soft)))
