-- A block's bytes without the classes that may be taken.
use Rattle.std.specs.Prelude.{ℕ, Bool, true, false, ◌≡◌, ◌≢◌, ◌⊎◌, ◌<◌, ◌≤◌, List, [], ◌∷◌, length, slice_index_or, slice_range, Option, Some}
use Rattle.patch_model.specs.declared.blocks.TheConstants.{BLOCK}
use Rattle.patch_records.specs.Records.{Class, no_class, is_takeable, saves_any, saved_end}
use Rattle.patch_records.specs.Exchanges.{uncovered, laid_over}
use Rattle.patch_images.specs.Gaps.{no_gap, without_places, IsGap, IsGapBut}
use Rattle.patch_images.specs.declared.gaps.Gap.{Gap}

-- bytes, whether they are known to be those of a block without such classes, and a gap beside what its first classes saved
pub record Image : Type 0 where
  pub bytes : List ℕ
  pub known : Bool
  pub gap : Gap

-- the bytes without each of these classes that may be taken and isn't, the highest first
abbrev pub bared : List Class → List ℕ → List ℕ
bared [] bytes = bytes
bared (c ∷ cs) bytes = uncovered c (bared cs bytes)

-- they are that, where they are known
abbrev pub KnownImage : Option Image → List Class → List ℕ → Type 0
KnownImage image cs bytes = (m : Image) → image ≡ Some m → m.known ≡ true → m.bytes ≡ bared cs bytes

-- nothing is known
abbrev pub IsForgotten : Option Image → Type 0
IsForgotten image = (m : Image) → image ≡ Some m → m.known ≡ false

-- what is known was known before, and stays so
abbrev pub StaysIf : Bool → Option Image → Option Image → Type 0
StaysIf stays old new = (m : Image) → new ≡ Some m → m.known ≡ true → (stays ≡ true) × (old ≡ Some m)

-- what is known was known before, or is that of these classes and bytes, with a gap beside none
abbrev pub IsDrawnOf : List Class → List ℕ → Option Image → Option Image → Type 0
IsDrawnOf cs bytes old new = (m : Image) → new ≡ Some m → m.known ≡ true → (old ≡ Some m) ⊎ ((m.bytes ≡ bared cs bytes) × (m.gap ≡ no_gap))

-- what is known was known before, but for the bytes from one place up to another, which are a block's
pub record HasSpan (bytes : List ℕ) (start stop : ℕ) (old : Option Image) (m : Image) : Type 0 where
  pub before : Image
  pub was : old ≡ Some before
  pub known : before.known ≡ true
  pub is : m.bytes ≡ laid_over start (slice_range bytes start stop) before.bytes

-- that is so, and only where a gap is left, which is known from then on
abbrev pub KeepsSpan : Option Gap → List ℕ → ℕ → ℕ → Option Image → Option Image → Type 0
KeepsSpan gap bytes start stop old new = (m : Image) → new ≡ Some m → m.known ≡ true → (gap ≡ Some m.gap) × HasSpan bytes start stop old m

-- what is known was known before, but for the gap, which no longer counts the classes from one place up to another
pub record IsTrimmedTo (from to : ℕ) (old : Option Image) (m : Image) : Type 0 where
  pub before : Image
  pub was : old ≡ Some before
  pub known : before.known ≡ true
  pub bytes : m.bytes ≡ before.bytes
  pub gap : m.gap ≡ without_places before.gap from to

abbrev pub IsTrimmed : ℕ → ℕ → Option Image → Option Image → Type 0
IsTrimmed from to old new = (m : Image) → new ≡ Some m → m.known ≡ true → IsTrimmedTo from to old m

-- where the bytes are known, each of the gap's classes is beside it
abbrev pub KnownGap : Option Image → List Class → Type 0
KnownGap image cs = (m : Image) → image ≡ Some m → m.known ≡ true → IsGap m.gap cs

-- these bytes were copied from what is known
pub record IsCopied (image : Option Image) (copy : List ℕ) : Type 0 where
  pub from : Image
  pub some : image ≡ Some from
  pub known : from.known ≡ true
  pub is : copy ≡ from.bytes

-- the class at the place k isn't another that may be taken and saved one of the same bytes
pub record IsApartAt (cs : List Class) (at k : ℕ) : Type 0 where
  pub fits : saved_end (slice_index_or cs k no_class) ≤ BLOCK
  pub apart : k ≢ at → is_takeable (slice_index_or cs k no_class) ≡ true
      → saves_any (slice_index_or cs k no_class) (slice_index_or cs at no_class).start (saved_end (slice_index_or cs at no_class)) ≡ false

-- nor is one of the first n
abbrev pub IsAloneBelow : List Class → ℕ → ℕ → Type 0
IsAloneBelow cs at n = (k : ℕ) → k < n → IsApartAt cs at k

-- the class at a place may be taken, and no other that may be saved one of the same bytes
pub record IsAlone (cs : List Class) (at : ℕ) : Type 0 where
  pub takeable : is_takeable (slice_index_or cs at no_class) ≡ true
  pub others : IsAloneBelow cs at (length cs)

-- no other class that may be taken saved one of its bytes, and the others are still beside the gap
pub record StandsAlone (cs : List Class) (at : ℕ) (g : Gap) : Type 0 where
  pub others : IsAloneBelow cs at (length cs)
  pub gap : IsGapBut g cs at

-- the class at a place may be taken and stands alone, and leaves the gap
pub record DepartsAlone (cs : List Class) (at : ℕ) (g : Gap) : Type 0 where
  pub takeable : is_takeable (slice_index_or cs at no_class) ≡ true
  pub alone : StandsAlone cs at g
