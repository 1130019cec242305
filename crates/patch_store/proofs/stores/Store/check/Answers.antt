use Rattle.patch_index.specs.Reporting.{of_slots}
use Rattle.patch_store.proofs.Reported.{listed_so}
use Rattle.std.proofs.Common.{◌∙◌, ap}
use Rattle.patch_store.specs.Checking.{extent_reports}
use Rattle.patch_store.specs.Meaning.{Store}
use Rattle.patch_store.proofs.stores.Store.check.Goals as goal

pub returns-clause-entries : goal.returns-clause-entries
returns-clause-entries g c h was =
    listed_so c.shelves_are_kept.ensures c.histories_are_of_stores.ensures.read h _ was _
    (c.in_ok-entries.ensures ∙ ap (λ (s : Store). of_slots s.shelf.slots) c.self.view_is)

pub returns-clause-extents : goal.returns-clause-extents
returns-clause-extents g c h was = c.in_ok-extents.ensures ∙ ap extent_reports was.shelf_is
