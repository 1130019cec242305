-- The five orders: which earlier changes a change has to come after.
use Rattle.std.specs.Prelude.{ℕ, Bool, true, false, ◌≡◌, ◌+◌, ◌==◌, ◌&&◌, ◌||◌, nat_lt, nat_le, is_none, IsTrue, List}
use Rattle.std.specs.Prelude.{◌∷◌, [], ◌++◌, length, Contains, Option, Some, None}
use Rattle.patch_model.specs.Patch.{Patch}
use Rattle.patch_model.specs.Dependency.{depends_directly}
use Rattle.patch_frame.specs.Slot.{SlotFields}
use Rattle.patch_recovery.specs.Change.{Change, Data, Point, Fill, Clear, Widen, Made, patch_of, patches_of}
use Rattle.patch_recovery.specs.Ledger.{Ledger, after_all}
use Rattle.patch_recovery.specs.Right.{IsRight}

-- the change puts bytes over what a slot names, or is the pointer patch, made on the ledger k, that went past it
abbrev pub is_of_frame : SlotFields → Ledger → Change → Bool
is_of_frame s k (Data extent offset bytes) =
    s.extent == extent && nat_lt offset (s.offset + s.length) && nat_lt s.offset (offset + length bytes)
is_of_frame s k (Point extent generation offset) =
    s.extent == extent && s.generation == generation
    && nat_lt (k.pointer extent).offset (s.offset + s.length) && nat_le (s.offset + s.length) offset
is_of_frame s k _ = false

-- the extent is set back
abbrev pub is_reset : ℕ → Change → Bool
is_reset extent (Point e generation offset) = extent == e && offset == 0
is_reset extent _ = false

-- what a slot says names the extent
abbrev pub names_extent : ℕ → Option SlotFields → Bool
names_extent extent None = false
names_extent extent (Some s) = extent == s.extent

-- a slot that named the extent is filled anew or cleared
abbrev pub takes_from : ℕ → Ledger → Change → Bool
takes_from extent l (Fill slot s) = names_extent extent (l.slot slot)
takes_from extent l (Clear slot) = names_extent extent (l.slot slot)
takes_from extent l _ = false

-- a slot is cleared
abbrev pub is_clear : Change → Bool
is_clear (Clear slot) = true
is_clear _ = false

-- the disk is made one of version 2
abbrev pub is_widen : Change → Bool
is_widen Widen = true
is_widen _ = false

-- The five orders, of a change made on the ledger l and an earlier one made on k. A slot that names a frame comes after
-- the frame's bytes and its extent's pointer, and after the upgrade; where it was empty, after each slot that was
-- cleared. A slot that is cleared comes after each that was before. Bytes come after their extent was set back. An
-- extent is set back after each slot that named it was filled anew or cleared.
abbrev pub comes_after : Ledger → Change → Ledger → Change → Bool
comes_after l (Fill slot s) k c = is_of_frame s k c || is_widen c || (is_none (l.slot slot) && is_clear c)
comes_after l (Clear slot) k c = is_clear c
comes_after l (Data extent offset bytes) k c = is_reset extent c
comes_after l (Point extent generation offset) k c = offset == 0 && takes_from extent k c
comes_after l Widen k c = false

-- one of the changes, and those that were made before it
pub record StandsIn (all : List Made) (made : Made) (before : List Made) : Type 0 where
  pub later : List Made
  pub are : all ≡ later ++ made ∷ before

-- a chain of direct dependencies leads from one patch to another
pub data Reaches (all : List Patch) : Patch → Patch → Type 0 where
  directly : {p q : Patch} → IsTrue (depends_directly p q) → Reaches all p q
  onward : {p q r : Patch} → IsTrue (depends_directly p q) → Contains all q → Reaches all q r → Reaches all p r

-- the change is right where it was made, and its patch reaches that of each earlier one that it comes after
pub record IsWellMade (first : Ledger) (made : Made) (earlier : List Made) : Type 0 where
  pub right : IsRight (after_all first earlier) made.change
  pub reaches : (other : Made) (before : List Made) → StandsIn earlier other before
      → IsTrue (comes_after (after_all first earlier) made.change (after_all first before) other.change)
      → Reaches (patches_of first.geometry (made ∷ earlier))
      (patch_of first.geometry (length earlier) made) (patch_of first.geometry (length before) other)

-- each of the changes, the newest of which stands first
abbrev pub AreWellMade : Ledger → List Made → Type 0
AreWellMade first [] = Unit {0}
AreWellMade first (made ∷ earlier) = IsWellMade first made earlier × AreWellMade first earlier
