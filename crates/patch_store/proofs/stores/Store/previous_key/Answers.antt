use Rattle.std.proofs.Common.{◌∙◌, refl, ap, subst}
use Rattle.std.specs.Prelude.{MatchOption, option_map}
use Rattle.patch_index.specs.Keys.{IsPrevious, NoneBelow}
use Rattle.patch_index.specs.Reporting.{reported, of_slots}
use Rattle.patch_store.specs.Meaning.{Store}
use Rattle.patch_store.proofs.Reported.{listed_so}
use Rattle.patch_store.proofs.stores.Store.previous_key.Goals as goal

pub returns : goal.returns
returns g c h was =
    let lists = listed_so c.shelves_are_kept.ensures c.histories_are_of_stores.ensures.read h _ was (of_slots c.args.self.now.shelf.slots) refl in
    let below = option_map (λ b. b.now) c.args.before in
    subst (λ entries. MatchOption c.previous_key.result (NoneBelow entries below) (λ it. IsPrevious entries below (reported it)))
    (ap (λ (s : Store). of_slots s.shelf.slots) c.self.view_is ∙ lists.listed) c.previous_key.ensures
