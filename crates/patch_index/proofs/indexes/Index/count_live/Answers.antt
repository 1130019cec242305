use Rattle.std.proofs.Common.{◌∙◌, map, ap, arith}
use Rattle.std.specs.List.{sum_by}
use Rattle.std.proofs.lemmas.List.{take_all}
use Rattle.patch_index.specs.Index.{told}
use Rattle.patch_index.specs.Reporting.{live_bytes}
use Rattle.patch_index.proofs.Reported.{length_at, live_sum}
use Rattle.patch_index.proofs.indexes.Index.count_live.Goals as goal

pub returns : goal.returns
returns g c =
    let slots = map told c.as_slice-slots.result.now in
    let part = c.live_part-part.result.now in
    let end = c.loop-at-test.false in
    c.loop-at.invariant.live
    ∙ ap (sum_by (length_at slots)) (take_all c.loop-at.at part (omega (arith, end)))
    ∙ ap (sum_by (length_at slots)) c.live_part-part.ensures.slots
    ∙ live_sum slots c.args.extent
    ∙ ap (λ v. live_bytes v c.args.extent) (ap (map told) c.as_slice-slots.ensures.value ∙ c.self.view_is)
