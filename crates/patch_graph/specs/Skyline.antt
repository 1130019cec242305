-- The skyline of each block.
use Rattle.std.specs.Prelude.{ℕ, ◌≡◌, ◌≢◌, List, [], ◌∷◌, map, Option, None, Some, slice_index_or}
use Rattle.patch_skyline.specs.Skyline.{IsLaid}
use Rattle.patch_skyline.specs.declared.skylines.Span.{Span}

-- for each block, by its number, the spans of its skyline
abbrev pub Skylines : Type 0
Skylines = List (List Span)

-- the spans of a block whose row may not stand
abbrev pub line_or_none : Option (List Span) → List Span
line_or_none None = []
line_or_none (Some ss) = ss

-- the spans of each block, by rows that may not stand
abbrev pub lines_of : List (Option (List Span)) → Skylines
lines_of rows = map line_or_none rows

-- a block beyond them has none
abbrev pub spans_of : Skylines → ℕ → List Span
spans_of skylines block = slice_index_or skylines block []

-- with a block's spans before those of the others, where any has some
abbrev pub put_before : List Span → Skylines → Skylines
put_before [] [] = []
put_before [] (ss ∷ others) = [] ∷ ss ∷ others
put_before (s ∷ ss) others = (s ∷ ss) ∷ others

-- but for the last blocks that have none
abbrev pub trimmed : Skylines → Skylines
trimmed [] = []
trimmed (ss ∷ others) = put_before ss (trimmed others)

-- the block has these spans now, and the others what they had
pub record IsRespanned (old new : Skylines) (block : ℕ) (ss : List Span) : Type 0 where
  pub here : spans_of new block ≡ ss
  pub others : (other : ℕ) → other ≢ block → spans_of new other ≡ spans_of old other

-- the span was laid on the block's skyline, and the others are as they were
pub record IsLaidOn (old new : Skylines) (block : ℕ) (top : Span) : Type 0 where
  pub here : IsLaid (spans_of old block) (spans_of new block) top
  pub others : (other : ℕ) → other ≢ block → spans_of new other ≡ spans_of old other

-- the block's skyline has no span, and the others are as they were
abbrev pub IsEmptied : Skylines → Skylines → ℕ → Type 0
IsEmptied old new block = IsRespanned old new block []
