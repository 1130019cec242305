use Rattle.std.proofs.Common.{◌≡◌, ◌<◌, ◌∙◌, ◌++◌, ◌∷◌, [], map, sym, ap, subst, arith}
use Rattle.std.specs.List.{range_with_len}
use Rattle.std.proofs.lemmas.Result.{IfOk-from_err}
use Rattle.patch_frame.specs.declared.geometries.Geometry.{Geometry}
use Rattle.patch_store.specs.Meaning.{Store}
use Rattle.patch_store.specs.Checking.{extent_report}
use Rattle.patch_store.proofs.Reported.{more_extents}
use Rattle.patch_store.proofs.stores.Store.extent_reports.Goals as goal

pub loop-extent-preserved : goal.loop-extent-preserved
loop-extent-preserved g c =
    let told = extent_report c.args.self.now.shelf in
    let extent = c.loop-extent.extent in
    c.in_ok-push.ensures.items ∙ ap (λ es. es ++ c.extent_report.result ∷ []) c.loop-extent.invariant
    ∙ ap (λ e. map told (range_with_len 0 extent) ++ e ∷ []) c.extent_report.ensures ∙ sym (more_extents told extent)

pub returns-in_err-extents : goal.returns-in_err-extents
returns-in_err-extents g c = IfOk-from_err c.from_residual.result _ c.from_residual.ensures.0

pub loop-extent-init : goal.loop-extent-init
loop-extent-init g c = c.in_ok-extents.ensures.items

pub extent_report-requires : goal.extent_report-requires
extent_report-requires g c =
    subst (λ n. c.loop-extent.extent < n) (ap (λ (x : Geometry). x.extents) c.self.invariant.0 ∙ ap (λ (x : Store). x.shelf.extents.geometry.extents) c.self.view_is)
    c.loop-extent-test.true

pub returns-in_err-push : goal.returns-in_err-push
returns-in_err-push g c = IfOk-from_err c.from_residual-in_err-push.result _ c.from_residual-in_err-push.ensures.0

pub loop-extent-smaller : goal.loop-extent-smaller
loop-extent-smaller g c = let less = c.loop-extent-test.true in omega (arith, less)

pub returns : goal.returns
returns g c =
    let s = c.args.self.now.shelf in
    let same = ap (λ (x : Geometry). x.extents) c.self.invariant.0 ∙ ap (λ (x : Store). x.shelf.extents.geometry.extents) c.self.view_is in
    let last : c.loop-extent.extent ≡ s.extents.geometry.extents =
    let done = c.loop-extent-test.false in let few = c.loop-extent.auto.extent-end in omega (arith, done, few, same) in
    c.loop-extent.invariant ∙ ap (λ n. map (extent_report s) (range_with_len 0 n)) last
