-- Which patch wrote each byte of a block last.
use Rattle.std.specs.Prelude.{ℕ, Bool, true, false, ◌≡◌, ◌<◌, ◌≤◌, ◌⊎◌, ◌&&◌, nat_le, nat_lt, if◌then◌else◌, List, [], ◌∷◌, Option, Some, None}
use Rattle.patch_model.specs.Member.{In}
use Rattle.patch_skyline.specs.declared.skylines.Span.{Span}

-- spans in rising order, and how many more there is room for
pub record Skyline : Type 0 where
  pub spans : List Span
  pub room : ℕ

abbrev pub has_byte : Span → ℕ → Bool
has_byte s x = nat_le s.start x && nat_lt x s.stop

-- the patch that wrote the byte last
abbrev pub top_at : List Span → ℕ → Option ℕ
top_at [] x = None
top_at (s ∷ ss) x = if has_byte s x then Some s.no else top_at ss x

-- each span has a byte, and ends before the next one begins
abbrev pub AreApart : List Span → Type 0
AreApart [] = Unit {0}
AreApart (s ∷ ss) = (s.start < s.stop) × ((t : Span) → In ss t → s.stop ≤ t.start) × AreApart ss

-- no span lies across the byte's beginning
abbrev pub IsCutAt : ℕ → List Span → Type 0
IsCutAt at ss = (s : Span) → In ss s → (s.stop ≤ at) ⊎ (at ≤ s.start)

-- the span's patch wrote its bytes last now, and of the others who did before
pub record IsLaid (old new : List Span) (top : Span) : Type 0 where
  pub here : (x : ℕ) → has_byte top x ≡ true → top_at new x ≡ Some top.no
  pub beside : (x : ℕ) → has_byte top x ≡ false → top_at new x ≡ top_at old x

-- the patch wrote a byte between these last
abbrev pub IsTopWithin : List Span → ℕ → ℕ → ℕ → Type 0
IsTopWithin ss start stop n = (x : ℕ) × (start ≤ x) × (x < stop) × (top_at ss x ≡ Some n)

-- the patches of those spans are those that wrote the bytes between these last
pub record AreTops (ss : List Span) (start stop : ℕ) (those : List Span) : Type 0 where
  pub each : (n : ℕ) → IsTopWithin ss start stop n → (s : Span) × In those s × (s.no ≡ n)
  pub only : (s : Span) → In those s → IsTopWithin ss start stop s.no
