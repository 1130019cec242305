use Rattle.std.proofs.Common.{◌≡◌, ◌∙◌, map, sym, ap}
use Rattle.std.specs.Prelude.{Some, None, position, is_none}
use Rattle.std.specs.List.{slice_get}
use Rattle.std.proofs.lemmas.Option.{get_or_from_slice_get}
use Rattle.patch_index.specs.Index.{told}
use Rattle.patch_index.proofs.Found.{first_empty, none_empty, some_first, none_first}
use Rattle.patch_index.proofs.indexes.Index.empty_slot.Goals as goal

pub returns-in-Some : goal.returns-in-Some
returns-in-Some g c =
    let slots = map told c.self.inside.slots.items in
    let empty = c.self.inside.empty in
    let first : slice_get empty 0 ≡ Some c.in-Some.slot.now = ap (λ xs. slice_get xs 0) (sym c.as_slice.ensures) ∙ sym c.in-Some.ensures.value in
    ap Some (c.from.ensures ∙ sym (get_or_from_slice_get empty 0 c.in-Some.slot.now 0 first))
    ∙ sym (first_empty slots empty c.self.invariant.1.empties (some_first empty c.in-Some.slot.now first)) ∙ ap (position is_none) c.self.view_is

pub returns-in-None : goal.returns-in-None
returns-in-None g c =
    let slots = map told c.self.inside.slots.items in
    let empty = c.self.inside.empty in
    let first : slice_get empty 0 ≡ None = ap (λ xs. slice_get xs 0) (sym c.as_slice.ensures) ∙ sym c.in-None.ensures.value in
    sym (none_empty slots empty c.self.invariant.1.empties (none_first empty first)) ∙ ap (position is_none) c.self.view_is
