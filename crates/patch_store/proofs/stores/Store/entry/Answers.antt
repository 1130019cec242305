use Rattle.std.proofs.Common.{◌∙◌, refl, ap}
use Rattle.std.specs.Prelude.{slice_get}
use Rattle.patch_index.specs.Reporting.{of_slots}
use Rattle.patch_store.specs.Meaning.{Store}
use Rattle.patch_store.proofs.Reported.{listed_so}
use Rattle.patch_store.proofs.stores.Store.entry.Goals as goal

pub returns : goal.returns
returns g c h was =
    let slots = c.args.self.now.shelf.slots in
    let lists = listed_so c.shelves_are_kept.ensures c.histories_are_of_stores.ensures.read h _ was (of_slots slots) refl in
    c.report.ensures ∙ ap (λ (s : Store). slice_get (of_slots s.shelf.slots) c.args.number) c.self.view_is
    ∙ ap (λ entries. slice_get entries c.args.number) lists.listed
