use Rattle.std.proofs.Common.{◌<◌, ◌∙◌, length, map, replicate, [], sym, ap, arith}
use Rattle.std.proofs.lemmas.List.{length-map}
use Rattle.patch_store.proofs.Renewed.{cleared_more, cleared_all}
use Rattle.patch_store.proofs.renewing.clear_each.Goals as goal

pub loop-patches-preserved : goal.loop-patches-preserved
loop-patches-preserved g c =
    let old = c.args.left.now in
    let now = c.loop-patches.left in
    let at = c.loop-patches.patches-index in
    let same = c.loop-patches.auto.left in
    let test = c.loop-patches-test.true in
    let within : at < length now = omega (arith, same, test) in
    cleared_more (λ v. v.items) (map (λ v. v.items) old) now at c.clear.new.self within
    (length-map now (λ v. v.items) ∙ same ∙ sym (length-map old (λ v. v.items))) c.clear.ensures.items c.loop-patches.invariant

pub returns : goal.returns
returns g c =
    let old = c.args.left.now in
    let long = length-map old (λ v. v.items) in
    let end = c.loop-patches.auto.patches-index-end in
    let test = c.loop-patches-test.false in
    cleared_all (map (λ v. v.items) old) (map (λ v. v.items) c.loop-patches.left) c.loop-patches.patches-index (omega (arith, long, end, test)) c.loop-patches.invariant
    ∙ ap (λ n. replicate n []) long
