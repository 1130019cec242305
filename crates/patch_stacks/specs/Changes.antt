-- What the calls that change a block's records make of them.
use Rattle.std.specs.Prelude.{ℕ, ◌≡◌, ◌<◌, ◌⊎◌, length, Option, Some, None, Result, Ok, Err, MatchResult}
use Rattle.std.specs.Fn.{Once, FnOnceReturnsAtMut}
use Rattle.std.specs.Borrow.{MutBor}
use Rattle.patch_records.specs.Merged.{Drawn, IsDrawn, in_its_place}
use Rattle.patch_stacks.specs.State.{Block, Joint, class_at, settled_at}
use Rattle.patch_stacks.specs.Rearranged.{IsMadeOne}

-- The one value is what a call left of the other that gave this answer. Where it is an error, there may have been no call.
abbrev pub Enters : {F V R E : Type 0} → Once F (MutBor V × Unit {0}) (Result R E × (MutBor V × Unit {0})) → F → V → Result R E → V → Type 0
Enters {E = E} once enter old result new = MatchResult result
    (λ r. FnOnceReturnsAtMut once enter old (Ok r) new)
    (λ _. (new ≡ old) ⊎ ((e : E) × FnOnceReturnsAtMut once enter old (Err e) new))

-- the record that was drawn up of the classes at two places stands in place of both
abbrev pub Settles : Block → (low high : ℕ) → Option Drawn → Block → Type 0
Settles old low high drawn new =
    IsDrawn (class_at old low) (class_at old high) drawn
    → new ≡ settled_at old low high (in_its_place (class_at old low) (class_at old high) drawn)

-- the classes at two places are one, if the record was drawn up of both
abbrev pub JoinsPlaces : Block → (low high : ℕ) → Option Drawn → Block → Type 0
JoinsPlaces old low high drawn new =
    IsDrawn (class_at old low) (class_at old high) drawn
    → IsMadeOne old low high (in_its_place (class_at old low) (class_at old high) drawn) new

-- the classes at the places of a joint are one, if it was drawn up of them
abbrev pub JoinsAt : Block → Option Joint → Block → Type 0
JoinsAt old None new = new ≡ old
JoinsAt old (Some joint) new = joint.low < joint.high → joint.high < length old.classes → JoinsPlaces old joint.low joint.high joint.drawn new
