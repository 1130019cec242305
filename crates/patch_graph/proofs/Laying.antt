-- Spans laid on the skylines of blocks.
use Rattle.std.proofs.Common.{◌≡◌, ◌∙◌, ℕ, zero, suc, ◌<◌, List, [], ◌∷◌, length, get_or, set, Option, None, Some, is_some, true≢false, inl, inr, refl, sym, ap, subst}
use Rattle.std.proofs.lemmas.Bool.{cases_lt}
use Rattle.std.proofs.lemmas.List.{get_or-set_same, get_or-set_other, get_or_past, set_past, set-get_or}
use Rattle.std.proofs.Math.ListN.{get_or-map}
use Rattle.patch_skyline.specs.declared.skylines.Span.{Span}
use Rattle.patch_graph.specs.Skyline.{Skylines, line_or_none, lines_of, spans_of, put_before, trimmed, IsEmptied, IsLaidOn, IsRespanned}
use Rattle.patch_skyline.specs.Skyline.{IsLaid}

spans-first : (ss : List Span) (others : Skylines) → spans_of (put_before ss others) 0 ≡ ss
spans-first [] [] = refl
spans-first [] (os ∷ others) = refl
spans-first (s ∷ ss) others = refl

spans-behind : (ss : List Span) (others : Skylines) (block : ℕ) → spans_of (put_before ss others) (suc block) ≡ spans_of others block
spans-behind [] [] block = refl
spans-behind [] (os ∷ others) block = refl
spans-behind (s ∷ ss) others block = refl

-- each block's spans are what they are, whether the last blocks that have none are left out or not
pub spans-trimmed : (lines : Skylines) (block : ℕ) → spans_of (trimmed lines) block ≡ spans_of lines block
spans-trimmed [] block = refl
spans-trimmed (ss ∷ lines) zero = spans-first ss (trimmed lines)
spans-trimmed (ss ∷ lines) (suc block) = spans-behind ss (trimmed lines) block ∙ spans-trimmed lines block

abbrev pub Rows : Type 0
Rows = List (Option (List Span))

-- the row of the block, if it stands
abbrev pub row_of : Rows → ℕ → Option (List Span)
row_of rows block = get_or rows block None

spans-row : (rows : Rows) (block : ℕ) → spans_of (lines_of rows) block ≡ line_or_none (row_of rows block)
spans-row rows block = get_or-map line_or_none rows block None

-- the spans of the block, as its row is lent
pub line-at : (rows : Rows) (block i : ℕ) (row : Option (List Span)) → i ≡ block → row ≡ row_of rows i → line_or_none row ≡ spans_of (lines_of rows) block
line-at rows block i row e is = ap line_or_none is ∙ ap (λ k. line_or_none (row_of rows k)) e ∙ sym (spans-row rows block)

-- skylines of which each block has the same spans
trimmed-alike : (these those : Skylines) → ((block : ℕ) → spans_of these block ≡ spans_of those block) → trimmed these ≡ trimmed those
trimmed-alike [] [] same = refl
trimmed-alike [] (ss ∷ those) same = ap (put_before []) (trimmed-alike [] those (λ b. same (suc b))) ∙ ap (λ xs. put_before xs (trimmed those)) (same 0)
trimmed-alike (ss ∷ these) [] same = ap (put_before ss) (trimmed-alike these [] (λ b. same (suc b))) ∙ ap (λ xs. put_before xs []) (same 0)
trimmed-alike (ss ∷ these) (os ∷ those) same = ap (put_before ss) (trimmed-alike these those (λ b. same (suc b))) ∙ ap (λ xs. put_before xs (trimmed those)) (same 0)

-- the same rows stand
pub rows-alike : (rows after : Rows) → ((n : ℕ) → row_of after n ≡ row_of rows n) → trimmed (lines_of after) ≡ trimmed (lines_of rows)
rows-alike rows after same = trimmed-alike (lines_of after) (lines_of rows) (λ b. spans-row after b ∙ ap line_or_none (same b) ∙ sym (spans-row rows b))

-- a row that stands is among them
pub row-low : (rows : Rows) (i : ℕ) (ss : List Span) → Some ss ≡ row_of rows i → i < length rows
row-low rows i ss at = elim (cases_lt i (length rows)) [ inl h ↦ h | inr h ↦ absurd (true≢false (ap is_some (at ∙ get_or_past rows i None h))) ]

-- a row that is written as it was
pub row-same : (rows : Rows) (i : ℕ) (was now : List Span) → Some was ≡ row_of rows i → now ≡ was → trimmed (lines_of (set rows i (Some now))) ≡ trimmed (lines_of rows)
row-same rows i was now at same =
    ap (λ (ss : List Span). trimmed (lines_of (set rows i (Some ss)))) same ∙ ap (λ (row : Option (List Span)). trimmed (lines_of (set rows i row))) at
    ∙ ap (λ (xs : Rows). trimmed (lines_of xs)) (set-get_or rows i None)

-- one block has these spans now
respanned : (rows : Rows) (block i : ℕ) (row : Option (List Span)) → i ≡ block → row_of (set rows i row) i ≡ row → IsRespanned (trimmed (lines_of rows)) (trimmed (lines_of (set rows i row))) block (line_or_none row)
respanned rows block i row e at = record {
  here = spans-trimmed (lines_of (set rows i row)) block ∙ sym (line-at (set rows i row) block i row e (sym at));
  others = λ b d.
      spans-trimmed (lines_of (set rows i row)) b ∙ spans-row (set rows i row) b ∙ ap line_or_none (get_or-set_other rows i b row None (λ f. d (f ∙ e)))
      ∙ sym (spans-trimmed (lines_of rows) b ∙ spans-row rows b);
}

-- a block has none now
pub emptied : (rows : Rows) (block i : ℕ) (was now : List Span) → i ≡ block → Some was ≡ row_of rows i → now ≡ [] → IsEmptied (trimmed (lines_of rows)) (trimmed (lines_of (set rows i (Some now)))) block
emptied rows block i was now e at none =
    subst (IsRespanned (trimmed (lines_of rows)) (trimmed (lines_of (set rows i (Some now)))) block) none (respanned rows block i (Some now) e (get_or-set_same rows i (Some now) None (row-low rows i was at)))

pub none-emptied : (rows : Rows) (block i : ℕ) → i ≡ block → None ≡ row_of rows i → IsEmptied (trimmed (lines_of rows)) (trimmed (lines_of rows)) block
none-emptied rows block i e none = record { here = spans-trimmed (lines_of rows) block ∙ sym (line-at rows block i None e none); others = λ b d. refl }

-- its row was taken out
pub taken-emptied : (rows : Rows) (block i : ℕ) → i ≡ block → IsEmptied (trimmed (lines_of rows)) (trimmed (lines_of (set rows i None))) block
taken-emptied rows block i e = respanned rows block i None e (elim (cases_lt i (length rows)) [
  | inl low ↦ get_or-set_same rows i None None low
  | inr past ↦ ap (λ (xs : Rows). row_of xs i) (set_past rows i None past) ∙ get_or_past rows i None past
])

-- a span is laid on those that the block had
pub laid-on : (rows : Rows) (block i : ℕ) (top : Span) (row : Option (List Span)) (m : List Span) → i ≡ block → i < length rows → row ≡ row_of rows i → IsLaid (line_or_none row) m top
    → IsLaidOn (trimmed (lines_of rows)) (trimmed (lines_of (set rows i (Some m)))) block top
laid-on rows block i top row m e low was laid =
    let r = respanned rows block i (Some m) e (get_or-set_same rows i (Some m) None low) in
    record {
      here = subst (λ z. IsLaid (spans_of (trimmed (lines_of rows)) block) z top) (sym r.here)
          (subst (λ z. IsLaid z m top) (line-at rows block i row e was ∙ sym (spans-trimmed (lines_of rows) block)) laid);
      others = r.others;
    }
