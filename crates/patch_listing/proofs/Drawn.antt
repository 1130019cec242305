-- How bars and pictures grow, a column or a line at a time.
use Rattle.std.proofs.Common.{◌≡◌, ℕ, zero, suc, ◌+◌, ◌∙◌, ◌++◌, List, [], ◌∷◌, refl, sym, ap, append_assoc, arith, add-one, add-zero}
use Rattle.std.specs.Prelude.{flat_map}
use Rattle.std.specs.List.{range_with_len}
use Rattle.std.proofs.lemmas.List.{append-nil}
use Rattle.std.proofs.lemmas.Grind.{flat_map-append}
use Rattle.patch_history.specs.Shelf.{Shelf}
use Rattle.patch_listing.specs.Pictures.{mark_at, marks}
use Rattle.patch_listing.specs.Statting.{bar_line, bars}

range_more : (first n next : ℕ) → first + n ≡ next → range_with_len first (suc n) ≡ range_with_len first n ++ next ∷ []
range_more first zero next is = ap (λ x. x ∷ []) (sym (add-zero first) ∙ is)
range_more first (suc n) next is = ap (λ xs. first ∷ xs) (range_more (first + 1) n next (omega arith))

flat_more : (f : ℕ → List ℕ) (n : ℕ) → flat_map f (range_with_len 0 (n + 1)) ≡ flat_map f (range_with_len 0 n) ++ f n
flat_more f n =
    let ranges : range_with_len 0 (n + 1) ≡ range_with_len 0 n ++ n ∷ [] = ap (range_with_len 0) (add-one n) ∙ range_more 0 n n (omega arith) in
    ap (flat_map f) ranges ∙ flat_map-append f (range_with_len 0 n) (n ∷ []) ∙ ap (λ x. flat_map f (range_with_len 0 n) ++ x) (append-nil (f n))

pub no_marks : (old : List ℕ) (live written : ℕ) → old ≡ old ++ marks live written 0
unfolding marks
no_marks old live written = sym (append-nil old)

pub one_mark_more : (old mid : List ℕ) (live written columns : ℕ) → mid ≡ old ++ marks live written columns
    → mid ++ mark_at live written columns ≡ old ++ marks live written (columns + 1)
unfolding marks
one_mark_more old mid live written columns before =
    let mark = mark_at live written in
    let so_far = flat_map mark (range_with_len 0 columns) in
    ap (λ (x : List ℕ). x ++ mark columns) before ∙ append_assoc old so_far (mark columns) ∙ ap (λ x. old ++ x) (sym (flat_more mark columns))

pub no_bars : (s : Shelf) (extents : ℕ) → bars s extents 0 ≡ []
unfolding bars
no_bars s extents = refl

pub one_bar_more : (s : Shelf) (extents count : ℕ) → bars s extents (count + 1) ≡ bars s extents count ++ bar_line s extents count
unfolding bars
one_bar_more s extents count = flat_more (bar_line s extents) count
