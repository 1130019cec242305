-- The gap beside what a block's first classes saved, as the classes change.
use Rattle.std.proofs.Common.{◌≡◌, ℕ, ◌+◌, ◌-◌, ◌<◌, ◌≤◌, ◌∙◌, Bool, true, false, inl, inr, List, [], ◌∷◌, ◌++◌, length, take, drop, length-append, get_or, set, get_or-set_same, get_or-set_other, refl, sym, ap, subst, arith, Option, Some}
use Rattle.std.specs.Prelude.{IfSome, min, nat_lt}
use Rattle.std.specs.List.{remove, remove_range}
use Rattle.std.proofs.lemmas.Bool.{both_ways, cases_Bool, cases_eq, ltb-true, ltb-false}
use Rattle.std.proofs.lemmas.Bool.Decides.{nat_tests}
use Rattle.std.proofs.lemmas.List.{length-set, length-take-le, length-drop, length_push, get_or_append_left, get_or-append_right, get_or-take, get_or-drop}
use Rattle.std.proofs.lemmas.List.Edits.{length-remove, get_or-remove_below, get_or-remove_above}
use Rattle.patch_records.specs.Records.{Class, no_class, is_takeable, departed, saves_any, saved_end}
use Rattle.patch_images.specs.declared.gaps.Gap.{Gap}
use Rattle.patch_images.specs.Gaps.{has_bytes, begun_gap, IsRound, IsBeside, IsGap, IsGapRound, AreBeside, missed}
use Rattle.patch_images.specs.Images.{Image, StaysIf, IsDrawnOf, KeepsSpan, IsTrimmed, IsAlone, IsAloneBelow, IsApartAt, StandsAlone, DepartsAlone, KnownGap}
use Rattle.patch_images.proofs.Baring.{flies}

-- what is beside some bytes is beside those that lie among them
off-within : (c : Class) (start stop from to : ℕ) → start ≤ from → to ≤ stop → saves_any c start stop ≡ false → saves_any c from to ≡ false
off-within c start stop from to low high off = grind (arith, nat_tests, low, high, off)

pub beside-within : (c : Class) (start stop from to : ℕ) → start ≤ from → to ≤ stop → IsBeside c start stop → IsBeside c from to
beside-within c start stop from to low high b = record { fits = b.fits; off = λ t. off-within c start stop from to low high (b.off t) }

pub ends-before : (c : Class) (start stop : ℕ) → saved_end c ≤ 4096 → saved_end c ≤ start → IsBeside c start stop
ends-before c start stop fits before = record { fits = fits; off = λ t. grind (arith, nat_tests, before) }

pub begins-behind : (c : Class) (start stop : ℕ) → saved_end c ≤ 4096 → stop ≤ c.start → IsBeside c start stop
begins-behind c start stop fits behind = record { fits = fits; off = λ t. grind (arith, nat_tests, behind) }

pub hidden : (c : Class) (start stop : ℕ) → saved_end c ≤ 4096 → is_takeable c ≡ false → IsBeside c start stop
hidden c start stop fits off = record { fits = fits; off = λ t. absurd (both_ways _ off t) }

-- a search begins
pub begun-round : (g : Gap) (start stop : ℕ) → stop ≤ 4096 → IsRound (begun_gap g start stop) start stop
begun-round g start stop fits = elim (cases_Bool (has_bytes g start stop)) [
  | inl is ↦ rw is (grind (arith, nat_tests, is))
  | inr off ↦ rw off (omega arith, fits)
]

pub begun-beside : (g : Gap) (cs : List Class) (at start stop : ℕ) → IsGap g cs
    → AreBeside cs at (begun_gap g start stop).count (begun_gap g start stop).start (begun_gap g start stop).stop
begun-beside g cs at start stop is = elim (cases_Bool (has_bytes g start stop)) [
  | inl is-in ↦ rw is-in (λ k less apart. is.beside k less)
  | inr off ↦ rw off (λ k less apart. absurd (omega (arith, less)))
]

pub begun-within : (g : Gap) (cs : List Class) (start stop : ℕ) → IsGap g cs → (begun_gap g start stop).count ≤ length cs
begun-within g cs start stop is = elim (cases_Bool (has_bytes g start stop)) [
  | inl is-in ↦ rw is-in is.within
  | inr off ↦ rw off (omega arith)
]

-- and goes on
pub next-beside : (cs : List Class) (at n start stop from to : ℕ) → start ≤ from → to ≤ stop → AreBeside cs at n start stop → IsBeside (get_or cs n no_class) from to → AreBeside cs at (n + 1) from to
next-beside cs at n start stop from to low high all one k less apart = elim (cases_eq k n) [
  | inl e ↦ subst (λ (z : ℕ). IsBeside (get_or cs z no_class) from to) (sym e) one
  | inr ne ↦ beside-within (get_or cs k no_class) start stop from to low high (all k (omega (arith, less, ne)) apart)
]

pub passed-beside : (cs : List Class) (at n start stop : ℕ) → n ≡ at → AreBeside cs at n start stop → AreBeside cs at (n + 1) start stop
passed-beside cs at n start stop here all k less apart = all k (omega (arith, less, here, apart)) apart

-- the class stands alone, in the gap round it
pub round-alone : (cs : List Class) (at : ℕ) (g : Gap) → IsGapRound g cs at → StandsAlone cs at g
round-alone cs at g r =
    let all = r.all in
    record {
      others = λ k less. elim (cases_eq k at) [
        | inl e ↦ subst (λ (z : ℕ). IsApartAt cs at z) (sym e) (record { fits = r.fits; apart = λ ne. absurd (ne refl) })
        | inr ne ↦
            let b = r.beside k less ne in
            record {
              fits = b.fits;
              apart = λ _ t. off-within (get_or cs k no_class) g.start g.stop (get_or cs at no_class).start (saved_end (get_or cs at no_class)) r.round.0 r.round.1 (b.off t);
            }
      ];
      gap = record {
        within = omega (arith, all);
        beside = λ k less apart. r.beside k (omega (arith, less, all)) apart;
      };
    }

-- or elsewhere
pub missed-alone : (cs : List Class) (at : ℕ) (g : Gap) → IsGap g cs → IsAloneBelow cs at (length cs) → StandsAlone cs at (missed g)
missed-alone cs at g is others = record { others = others; gap = record { within = is.within; beside = λ k less apart. is.beside k less } }

pub alone-in : (cs : List Class) (at : ℕ) (g : Gap) → DepartsAlone cs at g → IsAlone cs at
alone-in cs at g d = record { takeable = d.takeable; others = d.alone.others }

-- and departs
pub departed_gap : (old new : Option Image) (cs : List Class) (c : Class) (at start stop : ℕ) (bytes : List ℕ) (gap : Option Gap) → at < length cs → c ≡ departed (get_or cs at no_class)
    → ((g : Gap) → gap ≡ Some g → DepartsAlone cs at g) → KeepsSpan gap bytes start stop old new → KnownGap new (set cs at c)
departed_gap old new cs c at start stop bytes gap w is a keeps m now on =
    let d = a m.gap (keeps m now on).0 in
    let long = length-set cs at c in
    let within = d.alone.gap.within in
    record {
      within = omega (arith, long, within);
      beside = λ k less. elim (cases_eq k at) [
        | inl e ↦
            let here : get_or (set cs at c) k no_class ≡ departed (get_or cs at no_class) =
            ap (λ (z : ℕ). get_or (set cs at c) z no_class) e ∙ get_or-set_same cs at c no_class w ∙ is in
            let fits = (d.alone.others at w).fits in
            subst (λ x. IsBeside x m.gap.start m.gap.stop) (sym here)
            (hidden (departed (get_or cs at no_class)) m.gap.start m.gap.stop (omega (arith, fits)) (flies (departed (get_or cs at no_class)) refl))
        | inr ne ↦
            subst (λ x. IsBeside x m.gap.start m.gap.stop) (sym (get_or-set_other cs at k c no_class ne)) (d.alone.gap.beside k less ne)
      ];
    }

-- a class more
pub laid_gap : (old new : Option Image) (cs : List Class) (c : Class) → StaysIf true old new → KnownGap old cs → KnownGap new (cs ++ c ∷ [])
laid_gap old new cs c stay known m is on =
    let g = known m (stay m is on).1 on in
    let long = length_push cs c in
    let within = g.within in
    record {
      within = omega (arith, long, within);
      beside = λ k less. subst (λ x. IsBeside x m.gap.start m.gap.stop) (sym (get_or_append_left cs (c ∷ []) no_class k (omega (arith, less, within)))) (g.beside k less);
    }

-- the bytes are drawn
pub drawn_gap : (old new : Option Image) (cs : List Class) (bytes : List ℕ) → IsDrawnOf cs bytes old new → KnownGap old cs → KnownGap new cs
drawn_gap old new cs bytes d k m is on = elim (d m is on) [
  | inl was ↦ k m was on
  | inr e ↦ subst (λ g. IsGap g cs) (sym e.1) (record { within = omega arith; beside = λ k less. absurd (omega (arith, less)) })
]

-- where those from one place up to another go, the ones left of the first so many were among these
still-below : (count from to k : ℕ) → k < count - (min count to - min count from) → k < count
still-below count from to k less = grind (arith, nat_tests, less)

still-above : (count from to k : ℕ) → from ≤ to → from ≤ k → k < count - (min count to - min count from) → k + (to - from) < count
still-above count from to k up above less = grind (arith, nat_tests, up, above, less)

-- classes go from one place up to another, and the others stay in their order
trimmed_gap : (old new : Option Image) (cs left : List Class) (from to : ℕ) → from ≤ to → to ≤ length cs → length left + (to - from) ≡ length cs
    → ((k : ℕ) → k < from → get_or left k no_class ≡ get_or cs k no_class) → ((k : ℕ) → from ≤ k → get_or left k no_class ≡ get_or cs (k + (to - from)) no_class)
    → IsTrimmed from to old new → KnownGap old cs → KnownGap new left
trimmed_gap old new cs left from to up fits long low high t known m is on =
    let b = t m is on in
    let g = known b.before b.was b.known in
    let within = g.within in
    subst (λ x. IsGap x left) (sym b.gap) (record {
      within = grind (arith, nat_tests, within, up, fits, long);
      beside = λ k less. elim (cases_Bool (nat_lt k from)) [
        | inl u ↦ subst (λ x. IsBeside x b.before.gap.start b.before.gap.stop) (sym (low k (ltb-true k from u))) (g.beside k (still-below b.before.gap.count from to k less))
        | inr u ↦ subst (λ x. IsBeside x b.before.gap.start b.before.gap.stop) (sym (high k (ltb-false k from u)))
            (g.beside (k + (to - from)) (still-above b.before.gap.count from to k up (ltb-false k from u) less))
      ];
    })

-- none of the gap's classes counts any more
pub emptied_gap : (old new : Option Image) (cs left : List Class) → IsTrimmed 0 (length cs) old new → KnownGap old cs → KnownGap new left
emptied_gap old new cs left t known m is on =
    let b = t m is on in
    let g = known b.before b.was b.known in
    let within = g.within in
    let none : b.before.gap.count - (min b.before.gap.count (length cs) - min b.before.gap.count 0) ≡ 0 = grind (arith, nat_tests, within) in
    subst (λ x. IsGap x left) (sym b.gap) (record { within = omega (arith, none); beside = λ k less. absurd (omega (arith, none, less)) })

pub stays_gap : (stays : Bool) (old new : Option Image) (cs : List Class) → StaysIf stays old new → KnownGap old cs → KnownGap new cs
stays_gap stays old new cs s k m is on = k m (s m is on).1 on

pub removed_gap : (old new : Option Image) (cs : List Class) (at : ℕ) → at < length cs → IsTrimmed at (at + 1) old new → KnownGap old cs → KnownGap new (remove cs at)
removed_gap old new cs at less t known =
    let long = length-remove cs at less in
    let one : at + 1 - at ≡ 1 = omega arith in
    trimmed_gap old new cs (remove cs at) at (at + 1) (omega arith) (omega (arith, less)) (omega (arith, long, less)) (λ k low. get_or-remove_below cs at no_class k low less)
    (λ k high. get_or-remove_above cs at no_class k high less ∙ ap (λ n. get_or cs (k + n) no_class) (sym one)) t known

front-stays : (cs : List Class) (from to k : ℕ) → k < from → from ≤ length cs → get_or (remove_range cs from to) k no_class ≡ get_or cs k no_class
front-stays cs from to k low fits =
    let long = length-take-le from cs fits in
    get_or_append_left (take from cs) (drop to cs) no_class k (omega (arith, long, low)) ∙ get_or-take from cs k no_class low

back-stays : (cs : List Class) (from to k : ℕ) → from ≤ to → from ≤ k → from ≤ length cs → get_or (remove_range cs from to) k no_class ≡ get_or cs (k + (to - from)) no_class
back-stays cs from to k up high fits =
    let place : to + (k - from) ≡ k + (to - from) = omega (arith, up, high) in
    get_or-append_right (take from cs) (drop to cs) from k no_class (length-take-le from cs fits) high ∙ get_or-drop to cs (k - from) no_class ∙ ap (λ n. get_or cs n no_class) place

pub cut_gap : (old new : Option Image) (cs : List Class) (from to : ℕ) → from ≤ to → to ≤ length cs → IsTrimmed from to old new → KnownGap old cs → KnownGap new (remove_range cs from to)
cut_gap old new cs from to up fits t known =
    let long = length-take-le from cs (omega (arith, up, fits)) in
    let whole = length-append (take from cs) (drop to cs) in
    let rest = length-drop to cs in
    trimmed_gap old new cs (remove_range cs from to) from to up fits (omega (arith, long, whole, rest, up, fits)) (λ k low. front-stays cs from to k low (omega (arith, up, fits)))
    (λ k high. back-stays cs from to k up high (omega (arith, up, fits))) t known

pub some-is : {X : Type 0} (P : X → Type 0) (o : Option X) (x : X) → o ≡ Some x → IfSome o P → P x
some-is P o x is holds = rw is at holds
