use Rattle.std.proofs.Common.{◌∙◌, sym, ap, arith}
use Rattle.std.specs.Prelude.{Some, slice_get}
use Rattle.patch_frame.specs.declared.geometries.Geometry.{Geometry}
use Rattle.patch_history.specs.Shelf.{Shelf}
use Rattle.patch_store.specs.Checking.{extent_reports}
use Rattle.patch_store.specs.Meaning.{Store}
use Rattle.patch_store.specs.declared.reports.ExtentReport.{ExtentReport}
use Rattle.patch_store.proofs.Reported.{extent_told, no_extent_told}
use Rattle.patch_store.proofs.stores.Store.extent.Goals as goal

pub extent_report-requires : goal.extent_report-requires
extent_report-requires g c =
    let same = ap (λ (x : Geometry). x.extents) c.self.invariant.0 ∙ ap (λ (x : Store). x.shelf.extents.geometry.extents) c.self.view_is in
    omega (arith, c.if-extent-self.true, same)

pub returns-then-extent-self : goal.returns-then-extent-self
returns-then-extent-self g c h was =
    let same = ap (λ (x : Geometry). x.extents) c.self.invariant.0 ∙ ap (λ (x : Store). x.shelf.extents.geometry.extents) c.self.view_is in
    ap (λ (e : ExtentReport). Some e) c.extent_report.ensures
    ∙ sym (extent_told c.args.self.now.shelf c.args.extent (omega (arith, c.if-extent-self.true, same)))
    ∙ ap (λ (s : Shelf). slice_get (extent_reports s) c.args.extent) was.shelf_is

pub returns-else-extent-self : goal.returns-else-extent-self
returns-else-extent-self g c h was =
    let same = ap (λ (x : Geometry). x.extents) c.self.invariant.0 ∙ ap (λ (x : Store). x.shelf.extents.geometry.extents) c.self.view_is in
    sym (no_extent_told c.args.self.now.shelf c.args.extent (omega (arith, c.if-extent-self.false, same)))
    ∙ ap (λ (s : Shelf). slice_get (extent_reports s) c.args.extent) was.shelf_is
