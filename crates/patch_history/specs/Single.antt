-- What the execution alone says of a history: its changes, and what its store keeps beside the cache.
use Rattle.std.specs.Prelude.{◌≡◌, List, [], ◌∷◌, length}
use Rattle.patch_recovery.specs.Change.{Made}
use Rattle.patch_recovery.specs.Ledger.{Ledger}
use Rattle.patch_history.specs.Shelf.{Shelf, opened, after_change}
use Rattle.patch_history.specs.History.{History, IsLegalHistory, execution_of, standing_of}

-- what is kept beside the cache after these changes, the newest of which stands first
abbrev pub shelf_of : Ledger → List Made → Shelf
shelf_of first [] = opened first
shelf_of first (made ∷ earlier) = after_change (shelf_of first earlier) (length earlier) made.change

-- it is that of all changes that were made, and nothing else that happened counts
abbrev pub ShelvesAreOfChanges : Type 0
ShelvesAreOfChanges = (h : History) → (standing_of h).shelf ≡ shelf_of h.first (standing_of h).made

-- legal histories of the same opening blocks and the same steps have made the same changes
abbrev pub ChangesAreSingle : Type 0
ChangesAreSingle =
    (h other : History) → IsLegalHistory h → IsLegalHistory other → execution_of h ≡ execution_of other
    → (standing_of h).made ≡ (standing_of other).made

-- so one shelf stands beside an execution: whoever knows the steps needs to be told no shelf
abbrev pub ShelvesAreSingle : Type 0
ShelvesAreSingle =
    (h other : History) → IsLegalHistory h → IsLegalHistory other → execution_of h ≡ execution_of other
    → (standing_of h).shelf ≡ (standing_of other).shelf
