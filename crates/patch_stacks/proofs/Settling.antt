-- A record that was drawn up, in its place.
use Rattle.std.proofs.Common.{◌≡◌, ℕ, zero, suc, ◌<◌, ◌∙◌, List, [], ◌∷◌, length, refl, sym, ap, subst, arith}
use Rattle.std.specs.Prelude.{slice_set, slice_index_or, Option}
use Rattle.std.specs.List.{remove}
use Rattle.std.proofs.lemmas.List.{get_or_default}
use Rattle.std.proofs.lemmas.List.Edits.{get_or-remove_below}
use Rattle.patch_records.specs.Records.{Class, no_class}
use Rattle.patch_stacks.specs.State.{Block, class_at, settled_at}
use Rattle.patch_records.specs.Merged.{Drawn, IsDrawn, in_its_place}
use Rattle.patch_stacks.specs.Rearranged.{AreNear}
use Rattle.patch_stacks.specs.Changes.{Settles, JoinsPlaces}

-- a record is set, and a higher one removed, in either order
pub set-remove : (cs : List Class) (low high : ℕ) (c : Class) → low < high
    → slice_set (remove cs high) low c ≡ remove (slice_set cs low c) high
set-remove cs low zero c less = absurd (omega arith)
set-remove [] zero (suc high) c less = refl
set-remove [] (suc low) (suc high) c less = refl
set-remove (d ∷ cs) zero (suc high) c less = refl
set-remove (d ∷ cs) (suc low) (suc high) c less = ap (λ ds. d ∷ ds) (set-remove cs low high c (omega arith))

-- of two classes that are near to one another what was drawn up of them stands in place of both
pub settled-near : (old mid new : Block) (low high front : ℕ) (drawn : Option Drawn) → AreNear old mid low high front → Settles mid front high drawn new → JoinsPlaces old low high drawn new
settled-near old mid new low high front drawn near settles is = record {
  mid = mid;
  front = front;
  near = near;
  is = settles (subst (λ z. IsDrawn z (class_at mid high) drawn) (sym near.same_low) (subst (λ z. IsDrawn (class_at old low) z drawn) (sym near.same_high) is))
      ∙ ap (λ z. settled_at mid front high (in_its_place z (class_at mid high) drawn)) near.same_low
      ∙ ap (λ z. settled_at mid front high (in_its_place (class_at old low) z drawn)) near.same_high;
}

-- the lower class became what was drawn up of it and the higher one, which was taken out
pub settled : (cs rest : List Class) (low high : ℕ) (lower upper both : Class) (drawn : Option Drawn) → low < high → high < length cs
    → upper ≡ slice_index_or cs high upper → rest ≡ remove cs high → lower ≡ slice_index_or rest low lower
    → (IsDrawn lower upper drawn → both ≡ in_its_place lower upper drawn)
    → IsDrawn (slice_index_or cs low no_class) (slice_index_or cs high no_class) drawn
    → slice_set rest low both
    ≡ remove (slice_set cs low (in_its_place (slice_index_or cs low no_class) (slice_index_or cs high no_class) drawn)) high
settled cs rest low high lower upper both drawn less within upper_is rest_is lower_is became is =
    let w_low : low < length cs = omega arith in
    let u : upper ≡ slice_index_or cs high no_class = upper_is ∙ get_or_default cs high upper no_class within in
    let l : lower ≡ slice_index_or cs low no_class = lower_is ∙ ap (λ ds. slice_index_or ds low lower) rest_is
    ∙ get_or-remove_below cs high lower low less within ∙ get_or_default cs low lower no_class w_low in
    let here : IsDrawn lower upper drawn =
    subst (λ z. IsDrawn z upper drawn) (sym l) (subst (λ z. IsDrawn (slice_index_or cs low no_class) z drawn) (sym u) is) in
    let place : in_its_place lower upper drawn ≡ in_its_place (slice_index_or cs low no_class) (slice_index_or cs high no_class) drawn =
    ap (λ z. in_its_place z upper drawn) l ∙ ap (λ z. in_its_place (slice_index_or cs low no_class) z drawn) u in
    ap (λ ds. slice_set ds low both) rest_is ∙ ap (λ z. slice_set (remove cs high) low z) (became here ∙ place)
    ∙ set-remove cs low high (in_its_place (slice_index_or cs low no_class) (slice_index_or cs high no_class) drawn) less
