-- What a shelf keeps of the changes that were made.
use Rattle.std.specs.Prelude.{ℕ, ◌≡◌, ◌<◌, All, IsTrue, IfSome, List, length, Option}
use Rattle.patch_model.specs.Entry.{is_among}
use Rattle.patch_frame.specs.Geometry.{slot_count}
use Rattle.patch_recovery.specs.Change.{Change, Data, Point, Fill, Clear, Made}
use Rattle.patch_recovery.specs.Ledger.{Ledger, after_all}
use Rattle.patch_recovery.specs.Orders.{StandsIn, is_reset, is_clear, is_widen, takes_from}
use Rattle.patch_recovery.specs.Naming.{newest, is_point, HasNames}
use Rattle.patch_plans.specs.Extents.{extent_at}
use Rattle.patch_history.specs.Shelf.{Shelf, slot_at, left_of}
use Rattle.patch_history.specs.StoreState.{made_by}
use Rattle.patch_history.specs.History.{History, standing_of, ledger_of}

-- what is kept beside the cache is what a disk says
pub record IsShelfOf (s : Shelf) (l : Ledger) : Type 0 where
  pub geometry : s.extents.geometry ≡ l.geometry
  pub extents : length s.extents.each ≡ l.geometry.extents
  pub slots : length s.slots ≡ slot_count l.geometry
  pub pointer : (e : ℕ) → e < l.geometry.extents → (extent_at s.extents e).pointer ≡ l.pointer e
  pub slot : (slot : ℕ) → slot < slot_count l.geometry → slot_at s slot ≡ l.slot slot

-- it goes with what the changes of a history leave
abbrev pub ShelvesAreKept : Type 0
ShelvesAreKept = (h : History) → IsShelfOf (standing_of h).shelf (ledger_of h)

-- a slot that is changed is one of so many
abbrev pub IsInIndex : ℕ → Change → Type 0
IsInIndex count (Fill slot fields) = slot < count
IsInIndex count (Clear slot) = slot < count
IsInIndex count _ = Unit {0}

-- Of the changes over a first ledger, it keeps all slot patches that took an entry from this extent since its newest
-- reset.
abbrev pub KeepsLeft : Shelf → Ledger → List Made → ℕ → Type 0
KeepsLeft s first made e =
    (other : Made) (before : List Made) → StandsIn made other before
    → IsInIndex (slot_count first.geometry) other.change
    → IsTrue (takes_from e (after_all first before) other.change)
    → IfSome (newest (is_reset e) made) (λ n. n < length before) → IsTrue (is_among (left_of s e) (length before))

-- The patches that are kept to be named are the newest of their kinds, and what left an extent is all there.
pub record KeepsNewest (s : Shelf) (first : Ledger) (made : List Made) : Type 0 where
  pub last_delete : s.last_delete ≡ newest is_clear made
  pub upgrade : s.upgrade ≡ newest is_widen made
  pub reset : (e : ℕ) → e < first.geometry.extents → (extent_at s.extents e).reset ≡ newest (is_reset e) made
  pub point : (e : ℕ) → e < first.geometry.extents → (extent_at s.extents e).point ≡ newest (is_point e) made
  pub left : (e : ℕ) → e < first.geometry.extents → KeepsLeft s first made e

-- so a history's shelf does
abbrev pub NewestAreKept : Type 0
NewestAreKept = (h : History) → KeepsNewest (standing_of h).shelf h.first (standing_of h).made

-- if there is such a number, it is that of one of so many patches
abbrev pub IsMade : ℕ → Option ℕ → Type 0
IsMade count number = IfSome number (λ n. n < count)

-- all that is kept to be named was made
pub record AreMade (s : Shelf) (count : ℕ) : Type 0 where
  pub last_delete : IsMade count s.last_delete
  pub upgrade : IsMade count s.upgrade
  pub resets : All (λ k. IsMade count k.reset) s.extents.each
  pub points : All (λ k. IsMade count k.point) s.extents.each
  pub left : All (All (λ n. n < count)) s.left

-- so it is in every history
abbrev pub KeptAreMade : Type 0
KeptAreMade = (h : History) → AreMade (standing_of h).shelf (made_by (standing_of h))

-- if there is such a number, it is one of these
abbrev pub Has : List ℕ → Option ℕ → Type 0
Has names number = IfSome number (λ n. IsTrue (is_among names n))

-- bytes that name the last reset of their extent have the names that they need
abbrev pub BytesAreNamed : Shelf → Ledger → List Made → Type 0
BytesAreNamed s first made =
    (e offset : ℕ) (bytes names : List ℕ) → e < first.geometry.extents → Has names (extent_at s.extents e).reset
    → HasNames first (record { change = Data e offset bytes; after = names }) made (Data e offset bytes)

-- so has a slot that is cleared and names the last delete
abbrev pub ClearsAreNamed : Shelf → Ledger → List Made → Type 0
ClearsAreNamed s first made =
    (slot : ℕ) (names : List ℕ) → Has names s.last_delete
    → HasNames first (record { change = Clear slot; after = names }) made (Clear slot)

-- and a reset that names what left its extent
abbrev pub ResetsAreNamed : Shelf → Ledger → List Made → Type 0
ResetsAreNamed s first made =
    (e generation offset : ℕ) (names : List ℕ) → e < first.geometry.extents
    → ((other : Made) (before : List Made) → StandsIn made other before
    → IsInIndex (slot_count first.geometry) other.change)
    → ((n : ℕ) → IsTrue (is_among (left_of s e) n) → IsTrue (is_among names n))
    → HasNames first (record { change = Point e generation offset; after = names }) made (Point e generation offset)

-- What is kept is all that the next patches have to name.
abbrev pub KeptAreNamed : Type 0
KeptAreNamed =
    (s : Shelf) (first : Ledger) (made : List Made) → KeepsNewest s first made
    → BytesAreNamed s first made × ClearsAreNamed s first made × ResetsAreNamed s first made
