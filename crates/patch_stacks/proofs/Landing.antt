-- Classes in flight that go one after another, the highest first.
use Rattle.std.proofs.Common.{◌≡◌, ℕ, zero, suc, ◌-◌, ◌<◌, ◌≤◌, ◌∙◌, true, false, not, inl, inr, List, [], ◌∷◌, length, filter, get_or, refl, sym, ap, subst, arith}
use Rattle.std.specs.List.{remove, remove_range}
use Rattle.std.proofs.lemmas.Bool.{cases_Bool, cases_eq, both_ways, false_from_ne_true}
use Rattle.std.proofs.lemmas.List.Elements.{filter_passes}
use Rattle.std.proofs.lemmas.List.Edits.{length-remove}
use Rattle.patch_stacks.specs.declared.places.Places.{Places}
use Rattle.patch_records.specs.Records.{Class, no_class}
use Rattle.patch_stacks.specs.State.{Block, class_at, FlyingWithin, AllFlyAt, landed_at, with_landed}
use Rattle.patch_stacks.proofs.ClassPlaces.{stood, stood_is, at_stood}
use Rattle.patch_stacks.proofs.Within.{marked_inside}
use Rattle.patch_images.proofs.Baring.{stays}

-- some that went, and those left stand between these places
pub record IsLandedTo (old now : Block) (from to : ℕ) : Type 0 where
  pub same : with_landed now ≡ with_landed old
  pub within : FlyingWithin (record { from = from; to = to }) now.classes
  pub fits : to ≤ length now.classes

-- one that doesn't stay may go before
filter-remove : (cs : List Class) (at : ℕ) → at < length cs → (get_or cs at no_class).flying ≡ true → filter stays (remove cs at) ≡ filter stays cs
filter-remove [] at w on = absurd (omega arith)
filter-remove (c ∷ cs) zero w on = let off : stays c ≡ false = ap not on in rw off refl
filter-remove (c ∷ cs) (suc at) w on =
    let r = filter-remove cs at (omega arith) on in
    elim (cases_Bool (stays c)) [
      | inl t ↦ rw t (ap (λ ds. c ∷ ds) r)
      | inr f ↦ rw f r
    ]

pub start_landing : (b : Block) (p : Places) → p.to ≤ length b.classes → FlyingWithin p b.classes → IsLandedTo b b p.from (p.to - 0)
start_landing b p fits within =
    let e : p.to - 0 ≡ p.to = omega arith in
    subst (λ (z : ℕ). IsLandedTo b b p.from z) (sym e) (record { same = refl; within = within; fits = fits })

pub one_landed : (old now : Block) (from to at : ℕ) → at < to → to ≡ suc at → (class_at now at).flying ≡ true → IsLandedTo old now from to
    → IsLandedTo old (landed_at now at) from at
one_landed old now from to at less is on k =
    let w : at < length now.classes = omega (arith, k.fits) in
    let l = length-remove now.classes at w in
    record {
      same = ap (λ cs. let d : Block = record { bytes = now.bytes; classes = cs } in d) (filter-remove now.classes at w on) ∙ k.same;
      within = λ i fly.
          let r = k.within (stood at i) (ap (λ (c : Class). c.flying) (sym (at_stood now.classes at i w)) ∙ fly) in
          elim (stood_is at i) [
            | inl s ↦ (omega (arith, r.0, r.1), omega (arith, r.0, r.1))
            | inr s ↦ absurd (omega (arith, r.0, r.1))
          ];
      fits = omega (arith, k.fits);
    }

pub none_landed : (old now : Block) (from to at : ℕ) → at < to → to ≡ suc at → (class_at now at).flying ≡ false → IsLandedTo old now from to → IsLandedTo old now from at
none_landed old now from to at less is off k = record {
  same = k.same;
  within = λ i fly.
      let r = k.within i fly in
      elim (cases_eq i at) [
        | inl e ↦ absurd (both_ways _ off (ap (λ (z : ℕ). (class_at now z).flying) (sym e) ∙ fly))
        | inr ne ↦ (r.0, omega (arith, r.1))
      ];
  fits = omega (arith, k.fits);
}

all_stay : (cs : List Class) → ((i : ℕ) → (get_or cs i no_class).flying ≡ false) → filter stays cs ≡ cs
all_stay [] none = refl
all_stay (c ∷ cs) none =
    let on : stays c ≡ true = ap not (none 0) in
    rw on (ap (λ ds. c ∷ ds) (all_stay cs (λ i. none (suc i))))

none_left : (old now : Block) (from to : ℕ) → to ≤ from → IsLandedTo old now from to → (i : ℕ) → (class_at now i).flying ≡ false
none_left old now from to over k i = false_from_ne_true _ (λ fly. let r = k.within i fly in absurd (omega (arith, r.0, r.1)))

pub all_landed : (old now : Block) (from to : ℕ) → to ≤ from → IsLandedTo old now from to → now ≡ with_landed old
all_landed old now from to over k =
    sym (ap (λ cs. let d : Block = record { bytes = now.bytes; classes = cs } in d) (all_stay now.classes (none_left old now from to over k))) ∙ k.same

-- of those that stay none is in flight
pub none_flying : (cs : List Class) (p : Places) → FlyingWithin p (filter stays cs)
none_flying cs p i fly =
    let w = marked_inside (λ c. c.flying) refl (filter stays cs) i fly in
    let passes = filter_passes stays cs i no_class w in
    absurd (both_ways _ (ap not fly) passes)

-- those that stay, where those in flight are the ones of a range
pub filter-range : (cs : List Class) (from to : ℕ) → from ≤ to → to ≤ length cs → AllFlyAt (record { from = from; to = to }) cs
    → FlyingWithin (record { from = from; to = to }) cs → remove_range cs from to ≡ filter stays cs
filter-range cs zero zero order fits all within = sym (all_stay cs (λ i. false_from_ne_true _ (λ fly. let w = within i fly in absurd (omega (arith, w.1)))))
filter-range cs (suc from) zero order fits all within = absurd (omega arith)
filter-range [] zero (suc to) order fits all within = absurd (omega arith)
filter-range [] (suc from) (suc to) order fits all within = absurd (omega arith)
filter-range (c ∷ cs) zero (suc to) order fits all within =
    let off : stays c ≡ false = ap not (all 0 (omega arith) (omega arith)) in
    rw off (filter-range cs zero to (omega arith) (omega arith) (λ i above less. all (suc i) (omega arith) (omega arith))
    (λ i fly. let w = within (suc i) fly in (omega arith, omega (arith, w.1))))
filter-range (c ∷ cs) (suc from) (suc to) order fits all within =
    let on : stays c ≡ true = ap not (false_from_ne_true _ (λ fly. let w = within 0 fly in absurd (omega (arith, w.0)))) in
    rw on (ap (λ ds. c ∷ ds) (filter-range cs from to (omega arith) (omega arith) (λ i above less. all (suc i) (omega arith) (omega arith))
    (λ i fly. let w = within (suc i) fly in (omega (arith, w.0), omega (arith, w.1)))))
