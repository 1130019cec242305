use Rattle.std.proofs.Common.{◌≡◌, ◌∙◌, get_or, refl, ap, subst, arith}
use Rattle.patch_records.specs.Records.{Class, no_class, saved_end}
use Rattle.patch_images.specs.Gaps.{IsBeside, IsNarrowed}
use Rattle.patch_images.proofs.Baring.{class_is}
use Rattle.patch_images.proofs.Gapping.{begun-round, begun-beside, begun-within, next-beside, passed-beside}
use Rattle.patch_images.proofs.gaps.gap_round.Goals.{then-other-at+in_ok-gap, else-other-at}
use Rattle.patch_images.proofs.gaps.gap_round.Goals as goal

pub loop-other-init : goal.loop-other-init
loop-other-init g c =
    let cs = c.args.classes.now in
    let start = c.start-start.result in
    let stop = c.saved_end-stop.result in
    rw c.begun-begun.ensures (record {
      round = begun-round c.args.known start stop c.saved_end-stop.ensures.fits;
      beside = begun-beside c.args.known cs c.args.at start stop c.requires.gap;
      within = begun-within c.args.known cs start stop c.requires.gap;
    })

pub loop-other-preserved : goal.loop-other-preserved
loop-other-preserved g c =
    let cs = c.args.classes.now in
    let at = c.args.at in
    let n = c.loop-other.other in
    let was = c.loop-other.gap in
    let all = c.loop-other.invariant in
    let less = c.loop-other-test.true in
    elim c.if-other-at.branch [
      | then-other-at+in_ok-gap w ↦
          let now = c.if-other-at.gap in
          let new : IsNarrowed was w.index-classes-other.result c.start-start.result c.saved_end-stop.result now = rw w.gap-is w.in_ok-gap.ensures in
          let here = class_is cs n w.index-classes-other.result less w.index-classes-other.is in
          record {
            round = new.round;
            beside = next-beside cs at n was.start was.stop now.start now.stop new.low new.high all.beside (subst (λ d. IsBeside d now.start now.stop) here new.beside);
            within = omega (arith, less);
          }
      | else-other-at w ↦
          rw w.gap-is (record {
            round = all.round;
            beside = passed-beside cs at n was.start was.stop w.if-other-at.false all.beside;
            within = omega (arith, less);
          })
    ]

pub returns : goal.returns
returns g c =
    let cs = c.args.classes.now in
    let is = class_is cs c.args.at c.index-classes-at.result c.requires.there c.index-classes-at.is in
    let start : c.start-start.result ≡ (get_or cs c.args.at no_class).start = c.start-start.ensures ∙ ap (λ (d : Class). d.start) is in
    let stop : c.saved_end-stop.result ≡ saved_end (get_or cs c.args.at no_class) = c.saved_end-stop.ensures.exact ∙ ap saved_end is in
    let fits = c.saved_end-stop.ensures.fits in
    let all = c.loop-other.invariant in
    let low = all.round.0 in
    let high = all.round.1 in
    let over = c.loop-other-test.false in
    record {
      all = refl;
      fits = omega (arith, stop, fits);
      round = (omega (arith, start, low), omega (arith, stop, high));
      beside = λ k less apart. all.beside k (omega (arith, less, over)) apart;
    }
