-- Two classes as one: its members, its span and what it names.
use Rattle.std.proofs.Common.{◌≡◌, ℕ, ◌+◌, ◌-◌, ◌<◌, ◌≤◌, ◌⊎◌, ◌∙◌, true, inl, inr, List, ◌++◌, length, sym, ap, arith, get_or-set_same, get_or-set_other, min, max, replicate}
use Rattle.std.specs.Prelude.{◌==◌, ◌||◌, ◌≢◌, slice_index_or, slice_set, IsPermutation}
use Rattle.std.proofs.lemmas.Bool.{cases_Bool, cases_eq, cases_lt, or_left, or_right, or_cases, both_ways}
use Rattle.std.proofs.lemmas.List.{length-set, length-replicate}
use Rattle.std.proofs.lemmas.List.Folds.{list_any-append}
use Rattle.std.proofs.lemmas.List.Sorted.{list_any-IsPermutation}
use Rattle.std.proofs.lemmas.List.Edits.{length-remove}
use Rattle.std.specs.Cmp.{both_ways as same_bool}
use Rattle.patch_model.specs.Entry.{is_among}
use Rattle.patch_records.specs.Records.{Class, no_class, spans}
use Rattle.patch_stacks.specs.State.{Block, class_at, settled_at}
use Rattle.patch_records.specs.Merged.{merged}
use Rattle.patch_records.specs.Exchanges.{laid_over}
use Rattle.patch_records.proofs.Bytes.{spans-at, spans-from, length-laid_over}
use Rattle.patch_stacks.proofs.ClassPlaces.{stood, stood_is, at_stood}

pub among-merged : (low high : Class) (ms : List ℕ) (n : ℕ) → IsPermutation (low.members ++ high.members) ms
    → is_among ms n ≡ (is_among low.members n || is_among high.members n)
among-merged low high ms n same = sym (list_any-IsPermutation (λ k. k == n) (low.members ++ high.members) ms same)
    ∙ list_any-append (λ k. k == n) low.members high.members

-- the spans of two classes that overlap or touch
pub spans-merged : (low high : Class) (ms us : List ℕ) (space : ℕ) (x : ℕ) → low.start ≤ high.stop → high.start ≤ low.stop → low.start < low.stop → high.start < high.stop
    → spans (merged low high ms us space) x ≡ (spans low x || spans high x)
spans-merged low high ms us space x near_a near_b some_a some_b = same_bool (spans (merged low high ms us space) x) (spans low x || spans high x)
    (λ t. let p = spans-at (merged low high ms us space) x t in
    let f : min low.start high.start ≤ x = p.0 in let g : x < max low.stop high.stop = p.1 in
    elim (cases_Bool (spans low x)) [
      | inl u ↦ or_left _ (spans high x) u
      | inr u ↦ or_right (spans low x) _ (elim (cases_lt x low.start) [
        | inl before ↦ spans-from high x (omega arith) (omega arith)
        | inr from ↦ elim (cases_lt x low.stop) [
          | inl to ↦ absurd (both_ways _ u (spans-from low x from to))
          | inr behind ↦ spans-from high x (omega arith) (omega arith)
        ]
      ])
    ])
    (λ t. elim (or_cases (spans low x) (spans high x) t) [
      | inl u ↦ let p = spans-at low x u in let f : low.start ≤ x = p.0 in let g : x < low.stop = p.1 in spans-from (merged low high ms us space) x (omega arith) (omega arith)
      | inr u ↦ let p = spans-at high x u in let f : high.start ≤ x = p.0 in let g : x < high.stop = p.1 in spans-from (merged low high ms us space) x (omega arith) (omega arith)
    ])

pub merged-long : (low high : Class) (ms us : List ℕ) (space : ℕ) → low.start + length low.saved ≡ low.stop → high.start + length high.saved ≡ high.stop → low.start < low.stop → high.start < high.stop
    → (merged low high ms us space).start + length (merged low high ms us space).saved ≡ (merged low high ms us space).stop
merged-long low high ms us space long_l long_h some_l some_h =
    let z : length (replicate (max low.stop high.stop - min low.start high.start) 0) ≡ max low.stop high.stop - min low.start high.start = length-replicate {A = ℕ} (max low.stop high.stop - min low.start high.start) 0 in
    let fits_h : high.start - min low.start high.start + length high.saved ≤ length (replicate (max low.stop high.stop - min low.start high.start) 0) = omega (arith, z) in
    let inner : length (laid_over (high.start - min low.start high.start) high.saved (replicate (max low.stop high.stop - min low.start high.start) 0)) ≡ max low.stop high.stop - min low.start high.start =
    length-laid_over (high.start - min low.start high.start) high.saved (replicate (max low.stop high.stop - min low.start high.start) 0) fits_h ∙ z in
    let fits_l : low.start - min low.start high.start + length low.saved ≤ length (laid_over (high.start - min low.start high.start) high.saved (replicate (max low.stop high.stop - min low.start high.start) 0)) = omega (arith, inner) in
    let outer : length (merged low high ms us space).saved ≡ max low.stop high.stop - min low.start high.start =
    length-laid_over (low.start - min low.start high.start) low.saved (laid_over (high.start - min low.start high.start) high.saved (replicate (max low.stop high.stop - min low.start high.start) 0)) fits_l ∙ inner in
    omega (arith, outer)

pub after-merged : (low high : Class) (us : List ℕ) (n : ℕ) → IsPermutation (low.after ++ high.after) us → is_among us n ≡ (is_among low.after n || is_among high.after n)
after-merged low high us n pa = sym (list_any-IsPermutation (λ k. k == n) (low.after ++ high.after) us pa) ∙ list_any-append (λ k. k == n) low.after high.after

-- what stands at a place afterwards
pub joined_place : (b : Block) (low high i : ℕ) (c : Class) → low < high → high < length b.classes
    → ((i ≡ low) × (stood high i ≡ low) × (class_at (settled_at b low high c) i ≡ c))
    ⊎ ((stood high i ≢ low) × (i ≢ low) × (class_at (settled_at b low high c) i ≡ class_at b (stood high i)))
joined_place b low high i c less within =
    let l : length (slice_set b.classes low c) ≡ length b.classes = length-set b.classes low c in
    let w : high < length (slice_set b.classes low c) = omega arith in
    let at_ = at_stood (slice_set b.classes low c) high i w in
    elim (cases_eq i low) [
      | inl e ↦ let s : stood high i ≡ low = elim (stood_is high i) [ inl t ↦ omega arith | inr t ↦ omega arith ] in
          inl (e, s, at_ ∙ ap (λ k. slice_index_or (slice_set b.classes low c) k no_class) s ∙ get_or-set_same b.classes low c no_class (omega arith))
      | inr ne ↦ let s : stood high i ≢ low = (λ q. elim (stood_is high i) [ inl t ↦ omega arith | inr t ↦ omega arith ]) in
          inr (s, ne, at_ ∙ get_or-set_other b.classes low (stood high i) c no_class s)
    ]

-- a member of a class was one of a class before
pub was-member : (b : Block) (low high j n : ℕ) (ms us : List ℕ) (space : ℕ) → low < high → high < length b.classes
    → IsPermutation ((class_at b low).members ++ (class_at b high).members) ms
    → j < length (settled_at b low high (merged (class_at b low) (class_at b high) ms us space)).classes
    → is_among (class_at (settled_at b low high (merged (class_at b low) (class_at b high) ms us space)) j).members n ≡ true
    → (k : ℕ) × (k < length b.classes) × (is_among (class_at b k).members n ≡ true)
was-member b low high j n ms us space less within pm h_j on =
    let c : Class = merged (class_at b low) (class_at b high) ms us space in
    let l : length (slice_set b.classes low c) ≡ length b.classes = length-set b.classes low c in
    let w_set : high < length (slice_set b.classes low c) = omega arith in
    let lr : length (settled_at b low high c).classes + 1 ≡ length (slice_set b.classes low c) = length-remove (slice_set b.classes low c) high w_set in
    elim (joined_place b low high j c less within) [
      | inl s ↦
          let both : is_among ms n ≡ true = ap (λ d. is_among d.members n) (sym s.2) ∙ on in
          elim (or_cases (is_among (class_at b low).members n) (is_among (class_at b high).members n) (sym (among-merged (class_at b low) (class_at b high) ms n pm) ∙ both)) [
            | inl u ↦ (low, omega arith, u)
            | inr u ↦ (high, within, u)
          ]
      | inr s ↦ (stood high j, elim (stood_is high j) [ inl u ↦ omega arith | inr u ↦ omega arith ], ap (λ d. is_among d.members n) (sym s.2) ∙ on)
    ]
