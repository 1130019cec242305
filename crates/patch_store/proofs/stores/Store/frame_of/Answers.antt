use Rattle.std.proofs.Common.{◌∙◌, sym, ap, subst}
use Rattle.patch_frame.specs.declared.geometries.Geometry.{Geometry}
use Rattle.patch_frame.specs.Frame.{content}
use Rattle.patch_frame.specs.Geometry.{IsFormat, value_limit}
use Rattle.patch_extent.specs.Answers.{IsSettingOf}
use Rattle.patch_index.specs.Index.{fields_of}
use Rattle.patch_store.specs.Framing.{setting_of}
use Rattle.patch_store.specs.Meaning.{Store}
use Rattle.patch_store.specs.Moving.{IsCached}
use Rattle.patch_store.proofs.Copied.{copied_so}
use Rattle.patch_store.proofs.stores.Store.frame_of.Goals as goal

pub value_limit-limit-requires : goal.value_limit-limit-requires
value_limit-limit-requires g c = subst (λ (d : Geometry). IsFormat d.format) (sym c.self.invariant.0) c.self.invariant.1.geometry.format

pub returns : goal.returns
returns g c run d stands cached =
    let stood = subst (λ (s : Store). IsSettingOf (setting_of s) run) (sym c.self.view_is) stands in
    let there = subst (λ (s : Store). IsCached s.shelf.extents.geometry run (fields_of c.args.entry.now) d) (sym c.self.view_is) cached in
    let limit = c.value_limit-limit.ensures ∙ ap (λ (k : Geometry). value_limit k.format) c.self.invariant.0 in
    let e = c.in-Ok-decode_within.ensures in
    copied_so _ run (fields_of c.args.entry.now) d (content c.in-Ok-decode_within.field-0) c.in-Ok.frame.items c.as_slice.result.now _ _ there
    c.as_slice.ensures.value (c.in-Ok.ensures.bytes run stood.cache_is stood.represents) limit e.exact e.found.1 e.found.2
