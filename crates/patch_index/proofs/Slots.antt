-- Slots as the code keeps them.
use Rattle.std.proofs.Common.{◌≡◌, ℕ, ◌<◌, ◌∙◌, List, length, map, get_or, sym}
use Rattle.std.specs.Prelude.{Option, None}
use Rattle.std.proofs.lemmas.List.{get_or-map, get_or_default}
use Rattle.patch_index.specs.declared.entries.Entry.{Entry}
use Rattle.patch_index.specs.Index.{told}

-- what is read at a slot's place
pub item_is : (slots : List (Option Entry)) (i : ℕ) (o : Option Entry) → i < length slots → o ≡ get_or slots i o → get_or slots i None ≡ o
item_is slots i o within is = get_or_default slots i None o within ∙ sym is

pub told_at : (slots : List (Option Entry)) (i : ℕ) → i < length slots → get_or (map told slots) i None ≡ told (get_or slots i None)
told_at slots i within = get_or-map told slots i None None within
