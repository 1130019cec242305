use Rattle.std.proofs.Common.{true, false, sym, ◌∙◌, arith}
use Rattle.patch_links.specs.State.{leads_at}
use Rattle.patch_links.proofs.Places.{same_default}
use Rattle.patch_links.proofs.Tallies.{one-more, all-told}
use Rattle.patch_links.proofs.joining.count_leading.Goals.{then-leads_to, else-leads_to}
use Rattle.patch_links.proofs.joining.count_leading.Goals as goal

pub loop-no-preserved : goal.loop-no-preserved
loop-no-preserved g c =
    let p = leads_at c.args.keys.now.numbers c.args.key in
    let at = sym (c.no-item.is ∙ same_default c.args.numbers.now c.loop-no.no-index c.no-item.result 0 c.loop-no-test.true) in
    elim c.if-leads_to.branch [
      | then-leads_to w ↦
          one-more p c.args.numbers.now c.loop-no.no-index c.no-item.result c.loop-no.count c.if-leads_to.count true c.loop-no-test.true at w.if-leads_to.ensures w.count-is c.loop-no.invariant
      | else-leads_to w ↦
          let same = w.count-is in
          one-more p c.args.numbers.now c.loop-no.no-index c.no-item.result c.loop-no.count c.if-leads_to.count false c.loop-no-test.true at w.if-leads_to.ensures (omega (arith, same)) c.loop-no.invariant
    ]

pub returns-clause-counted : goal.returns-clause-counted
returns-clause-counted g c = all-told (leads_at c.args.keys.now.numbers c.args.key) c.args.numbers.now c.loop-no.no-index c.loop-no.count c.loop-no-test.false c.loop-no.invariant
