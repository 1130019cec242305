use Rattle.std.specs.Prelude.{IfSome, ℕ, List, Option, None, Some}
use Rattle.patch_records.specs.Records.{Class}
use Rattle.patch_images.specs.declared.gaps.Gap.{Gap}
use Rattle.patch_images.specs.Gaps.{IsGapRound}
use Rattle.patch_images.specs.Images.{StandsAlone}
use Rattle.patch_images.proofs.Gapping.{round-alone, missed-alone}
use Rattle.patch_images.proofs.gaps.gap_left.Goals as goal

by-round : (cs : List Class) (at : ℕ) (o : Option Gap) → IfSome o (λ g. IsGapRound g cs at) → IfSome o (λ g. StandsAlone cs at g)
by-round cs at None r = r
by-round cs at (Some g) r = round-alone cs at g r

pub returns-then-has : goal.returns-then-has
returns-then-has g c = by-round c.args.classes.now c.args.at c.gap_round.result c.gap_round.ensures

pub returns : goal.returns
returns g c =
    rw c.missed.ensures (missed-alone c.args.classes.now c.args.at c.args.known c.requires.gap (c.are_others_elsewhere.ensures c.if-not-are_others_elsewhere.false))
