-- The parts of an append are the pieces of its bytes.
use Rattle.std.proofs.Common.{◌≡◌, ℕ, zero, suc, ◌+◌, ◌-◌, ◌/◌, ◌%◌, ◌<◌, ◌≤◌, ◌∙◌, inl, inr, List, [], ◌∷◌, length}
use Rattle.std.proofs.Common.{take, drop, refl, sym, ap, arith}
use Rattle.std.specs.Prelude.{map, slice_range}
use Rattle.std.specs.List.{range_with_len}
use Rattle.std.proofs.lemmas.Bool.{cases_lt}
use Rattle.std.proofs.lemmas.List.{drop-drop, length-drop, take_all}
use Rattle.std.proofs.Math.Nat.{div-add-mod}
use Rattle.patch_recovery.specs.Change.{Change, Data, Made}
use Rattle.patch_recovery.specs.Putting.{pieces_within, pieces}
use Rattle.patch_plans.specs.Planning.{touched, part_start, part_end, part, parts}

-- how far the first block reaches
rest_of : ℕ → ℕ
rest_of offset = 4096 - offset % 4096

next_block : (o : ℕ) → (o + (4096 - o % 4096)) / 4096 ≡ o / 4096 + 1
next_block o = omega arith

start_next : (o k : ℕ) → part_start o (k + 1) ≡ part_start (o + (4096 - o % 4096)) k
start_next o k = let e = next_block o in let d = div-add-mod o 4096 in omega arith

end_next : (o len k : ℕ) → 4096 - o % 4096 ≤ len
    → part_end o len (k + 1) ≡ part_end (o + (4096 - o % 4096)) (len - (4096 - o % 4096)) k
end_next o len k le = let e = next_block o in let d = div-add-mod o 4096 in omega arith

start_behind : (o k : ℕ) → o + (4096 - o % 4096) ≤ part_start o (k + 1)
start_behind o k = let d = div-add-mod o 4096 in omega arith

touched_more : (o len : ℕ) → 4096 - o % 4096 < len
    → touched o len ≡ suc (touched (o + (4096 - o % 4096)) (len - (4096 - o % 4096)))
touched_more o len h = omega arith

touched_one : (o len : ℕ) → 0 < len → len ≤ 4096 - o % 4096 → touched o len ≡ 1
touched_one o len some h = omega arith

part_next : (e o k : ℕ) (bs : List ℕ) → 4096 - o % 4096 ≤ length bs
    → part e o bs (k + 1) ≡ part e (o + (4096 - o % 4096)) (drop (4096 - o % 4096) bs) k
part_next e o k bs le =
    let d : ℕ = 4096 - o % 4096 in
    let rest = length-drop (4096 - o % 4096) bs in
    let from = start_next o k in
    let to = end_next o (length bs) k le in
    let behind = start_behind o k in
    let at : (4096 - o % 4096) + (part_start (o + (4096 - o % 4096)) k - (o + (4096 - o % 4096)))
    ≡ part_start o (k + 1) - o =
    omega (arith, from, behind) in
    let count : part_end o (length bs) (k + 1) - o - (part_start o (k + 1) - o)
    ≡ part_end (o + (4096 - o % 4096)) (length (drop (4096 - o % 4096) bs)) k - (o + (4096 - o % 4096)) - (part_start (o + (4096 - o % 4096)) k - (o + (4096 - o % 4096))) =
    ap (λ n. n - o - (part_start o (k + 1) - o)) to
    ∙ ap (λ n. part_end (o + (4096 - o % 4096)) n k - o - (part_start o (k + 1) - o)) (sym rest)
    ∙ (let x : ℕ = part_end (o + (4096 - o % 4096)) (length (drop (4096 - o % 4096) bs)) k in omega (arith, from, behind)) in
    let same : slice_range bs (part_start o (k + 1) - o) (part_end o (length bs) (k + 1) - o)
    ≡ slice_range (drop (4096 - o % 4096) bs) (part_start (o + (4096 - o % 4096)) k - (o + (4096 - o % 4096)))
    (part_end (o + (4096 - o % 4096)) (length (drop (4096 - o % 4096) bs)) k - (o + (4096 - o % 4096))) =
    ap (λ n. take (part_end o (length bs) (k + 1) - o - (part_start o (k + 1) - o)) (drop n bs)) (sym at)
    ∙ ap (take (part_end o (length bs) (k + 1) - o - (part_start o (k + 1) - o)))
    (sym (drop-drop (part_start (o + (4096 - o % 4096)) k - (o + (4096 - o % 4096))) (4096 - o % 4096) bs))
    ∙ ap (λ n. take n (drop (part_start (o + (4096 - o % 4096)) k - (o + (4096 - o % 4096))) (drop (4096 - o % 4096) bs))) count in
    ap (λ n. Data e n (slice_range bs (part_start o (k + 1) - o) (part_end o (length bs) (k + 1) - o))) from
    ∙ ap (Data e (part_start (o + (4096 - o % 4096)) k)) same

parts_next : (e o a n : ℕ) (bs : List ℕ) → 4096 - o % 4096 ≤ length bs
    → map (part e o bs) (range_with_len (a + 1) n) ≡ map (part e (o + (4096 - o % 4096)) (drop (4096 - o % 4096) bs)) (range_with_len a n)
parts_next e o a zero bs le = refl
parts_next e o a (suc n) bs le =
    ap (λ c. c ∷ map (part e o bs) (range_with_len (a + 1 + 1) n)) (part_next e o a bs le)
    ∙ ap (λ cs. part e (o + (4096 - o % 4096)) (drop (4096 - o % 4096) bs) a ∷ cs) (parts_next e o (a + 1) n bs le)

part_first : (e o : ℕ) (bs : List ℕ) → part e o bs 0 ≡ Data e o (take (4096 - o % 4096) bs)
part_first e o bs =
    let d = div-add-mod o 4096 in
    let from : part_start o 0 ≡ o = omega (arith, d) in
    let at : part_start o 0 - o ≡ 0 = omega (arith, from) in
    let cut : take (part_end o (length bs) 0 - o - 0) bs ≡ take (4096 - o % 4096) bs = elim (cases_lt (4096 - o % 4096) (length bs)) [
      | inl less ↦ ap (λ n. take n bs) (let e : part_end o (length bs) 0 - o - 0 ≡ 4096 - o % 4096 = omega (arith, d, less) in e)
      | inr all ↦ ap (λ n. take n bs) (let e : part_end o (length bs) 0 - o - 0 ≡ length bs = omega (arith, d, all) in e)
          ∙ take_all (length bs) bs (omega arith) ∙ sym (take_all (4096 - o % 4096) bs (omega (arith, all)))
    ] in
    ap (λ n. Data e n (take (part_end o (length bs) 0 - o - (part_start o 0 - o)) (drop (part_start o 0 - o) bs))) from
    ∙ ap (λ n. Data e o (take (part_end o (length bs) 0 - o - n) (drop n bs))) at
    ∙ ap (Data e o) cut

nothing_left : (bs : List ℕ) → length bs ≡ 0 → bs ≡ []
nothing_left [] h = refl
nothing_left (b ∷ bs) h = absurd (omega (arith, h))

no_pieces : (most e o : ℕ) → pieces_within most e o [] ≡ []
no_pieces zero e o = refl
no_pieces (suc most) e o = refl

-- the changes of the parts
abbrev changes_of : (extent offset : ℕ) → List ℕ → List Change
changes_of e o bs = map (part e o bs) (range_with_len 0 (touched o (length bs)))

parts_within : (most e o : ℕ) (bs : List ℕ) → length bs ≤ most → 0 < length bs
    → changes_of e o bs ≡ pieces_within most e o bs
parts_within zero e o bs le some = absurd (omega (arith, le, some))
parts_within (suc most) e o [] le some = absurd (omega (arith, some))
parts_within (suc most) e o (b ∷ bs) le some =
    let rest = length-drop (4096 - o % 4096) (b ∷ bs) in
    let small : o % 4096 < 4096 = omega arith in
    elim (cases_lt (4096 - o % 4096) (length (b ∷ bs))) [
      | inl less ↦
          let len : length (drop (4096 - o % 4096) (b ∷ bs)) ≤ most = omega (arith, rest, small, le) in
          let left : 0 < length (drop (4096 - o % 4096) (b ∷ bs)) = omega (arith, rest, less) in
          ap (λ n. map (part e o (b ∷ bs)) (range_with_len 0 n))
          (touched_more o (length (b ∷ bs)) less ∙ ap (λ n. suc (touched (o + (4096 - o % 4096)) n)) (sym rest))
          ∙ ap (λ c. c ∷ map (part e o (b ∷ bs)) (range_with_len 1 (touched (o + (4096 - o % 4096)) (length (drop (4096 - o % 4096) (b ∷ bs)))))) (part_first e o (b ∷ bs))
          ∙ ap (λ cs. Data e o (take (4096 - o % 4096) (b ∷ bs)) ∷ cs) (
          parts_next e o 0 (touched (o + (4096 - o % 4096)) (length (drop (4096 - o % 4096) (b ∷ bs)))) (b ∷ bs) (omega (arith, less))
          ∙ parts_within most e (o + (4096 - o % 4096)) (drop (4096 - o % 4096) (b ∷ bs)) len left)
      | inr all ↦
          let none : drop (4096 - o % 4096) (b ∷ bs) ≡ [] =
          nothing_left (drop (4096 - o % 4096) (b ∷ bs)) (omega (arith, rest, all)) in
          ap (λ n. map (part e o (b ∷ bs)) (range_with_len 0 n)) (touched_one o (length (b ∷ bs)) some all)
          ∙ ap (λ c. c ∷ []) (part_first e o (b ∷ bs))
          ∙ ap (λ cs. Data e o (take (4096 - o % 4096) (b ∷ bs)) ∷ cs)
          (sym (no_pieces most e (o + (4096 - o % 4096))) ∙ ap (pieces_within most e (o + (4096 - o % 4096))) (sym none))
    ]

-- each patch with the same names
abbrev pub named : List ℕ → Change → Made
named names change = record { change = change; after = names }

map-named : (e o : ℕ) (bs names numbers : List ℕ)
    → map (λ k. record { change = part e o bs k; after = names }) numbers ≡ map (named names) (map (part e o bs) numbers)
map-named e o bs names [] = refl
map-named e o bs names (n ∷ ns) = ap (λ ms. named names (part e o bs n) ∷ ms) (map-named e o bs names ns)

-- The parts are the pieces.
pub parts_are_pieces : (e o : ℕ) (bs names : List ℕ) → 0 < length bs
    → parts e o bs names (touched o (length bs)) ≡ map (named names) (pieces e o bs)
parts_are_pieces e o bs names some =
    map-named e o bs names (range_with_len 0 (touched o (length bs)))
    ∙ ap (map (named names)) (parts_within (length bs) e o bs (omega arith) some)
