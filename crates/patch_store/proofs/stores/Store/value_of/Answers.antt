use Rattle.std.proofs.Common.{◌∙◌, ◌+◌, ◌-◌, length, sym, ap, subst}
use Rattle.patch_cache.specs.Meaning.{IsCacheOf}
use Rattle.patch_plans.specs.Meaning.{AreExtentsOf}
use Rattle.patch_extent.specs.Answers.{cached_bytes}
use Rattle.patch_index.specs.Index.{fields_of}
use Rattle.patch_store.specs.Getting.{value_bytes}
use Rattle.patch_store.specs.Meaning.{Store}
use Rattle.patch_store.proofs.stores.Store.value_of.Goals as goal

pub returns : goal.returns
returns g c run cache extents =
    let entry = c.args.entry.now in
    c.in-Ok.ensures.bytes run (subst (λ (s : Store). IsCacheOf s.cache run) (sym c.self.view_is) cache) (subst (λ (s : Store). AreExtentsOf s.shelf.extents run) (sym c.self.view_is) extents)
    ∙ ap (λ k. cached_bytes c.self.inside.extents.geometry run entry.extent (entry.offset + (12 + length k)) (entry.length - 16 - length k)) c.as_slice.ensures
    ∙ ap (λ (s : Store). value_bytes s.shelf.extents.geometry run (fields_of entry)) c.self.view_is
