use Rattle.std.proofs.Common.{◌∙◌, sym, ap, subst}
use Rattle.std.specs.Prelude.{Some}
use Rattle.patch_plans.specs.Meaning.{AreExtentsOf}
use Rattle.patch_history.specs.Shelf.{Shelf}
use Rattle.patch_history.specs.History.{execution_of}
use Rattle.patch_index.specs.Index.{fields_of, told}
use Rattle.patch_store.specs.Getting.{value_bytes}
use Rattle.patch_store.specs.Meaning.{Store, IsStoreOf}
use Rattle.patch_store.proofs.Finding.{found_so, absent_so, empty_never, key_fits}
use Rattle.patch_store.proofs.stores.Store.get.Goals as goal

pub returns-in_default : goal.returns-in_default
returns-in_default g c h was =
    let w = subst (λ s. IsStoreOf s h) (sym c.self.view_is) was in
    let laws = c.histories_are_of_stores.ensures in (
      key_fits c.args.key.now c.is_empty.result c.is_empty.ensures c.if-is_empty.false c.if-key-gt-MAX_KEY.false,
      absent_so c.shelves_are_kept.ensures laws.read laws.agree h _ w c.args.key.now (sym c.slot_of.ensures ∙ c.in_default.is),
    )

pub returns-in_default-entry : goal.returns-in_default-entry
returns-in_default-entry g c h was =
    absurd (empty_never c.self.inside.index c.args.key.now c.in-Some.slot (sym c.slot_of.ensures ∙ c.in-Some.is) (sym c.entry.ensures ∙ ap told c.in_default-entry.is))

pub returns : goal.returns
returns g c h was =
    let w = subst (λ s. IsStoreOf s h) (sym c.self.view_is) was in
    let laws = c.histories_are_of_stores.ensures in
    let extents = subst (λ (s : Shelf). AreExtentsOf s.extents (execution_of h)) (sym was.shelf_is) (c.extents_are_kept.ensures h was.legal) in
    let found = found_so c.shelves_are_kept.ensures laws.read laws.agree h _ w c.args.key.now c.in-Some.slot _ (sym c.slot_of.ensures ∙ c.in-Some.is)
    (sym c.entry.ensures ∙ ap told c.in-Some-entry.is) in (
      key_fits c.args.key.now c.is_empty.result c.is_empty.ensures c.if-is_empty.false c.if-key-gt-MAX_KEY.false,
      ap (λ b. Some b) (c.in-Ok.ensures (execution_of h) was.cache_is extents ∙ sym (ap (λ (s : Store). value_bytes s.shelf.extents.geometry (execution_of h) (fields_of c.in-Some-entry.entry)) c.self.view_is)) ∙ found,
    )
