-- A block's records in another order, in which each still stands above those that it follows.
use Rattle.std.specs.Prelude.{ℕ, true, false, ◌≡◌, ◌<◌, ◌≤◌, ◌⊎◌, length}
use Rattle.patch_records.specs.Records.{Class}
use Rattle.patch_stacks.specs.State.{Block, class_at, follows, settled_at}

-- The records of a block at other places: `came` tells where the one at a place stood. One that went below another doesn't follow it.
pub record IsRearranged (old new : Block) : Type 0 where
  pub came : ℕ → ℕ
  pub bytes : new.bytes ≡ old.bytes
  pub long : length new.classes ≡ length old.classes
  pub each : (i : ℕ) → i < length old.classes → class_at new i ≡ class_at old (came i)
  pub within : (i : ℕ) → i < length old.classes → came i < length old.classes
  pub all : (m : ℕ) → m < length old.classes → (i : ℕ) × (i < length old.classes) × (came i ≡ m)
  pub past : (i j : ℕ) → i < j → j < length old.classes
      → (came i < came j) ⊎ ((came j < came i) × (follows old (came i) (came j) ≡ false))

-- between two places each class follows one there that is below it, or the one at the first place
abbrev pub RestOn : Block → ℕ → ℕ → Type 0
RestOn b front k = (i : ℕ) → front < i → i < k → (m : ℕ) × (front ≤ m) × (m < i) × (follows b i m ≡ true)

-- The class from the place low stands at front now, and all up to k rest on it, directly or through others. Above these nothing changed.
pub record IsGathered (old new : Block) (low front k : ℕ) : Type 0 where
  pub from : low ≤ front
  pub to : front < k
  pub order : IsRearranged old new
  pub same_low : class_at new front ≡ class_at old low
  pub same_rest : (i : ℕ) → k ≤ i → class_at new i ≡ class_at old i
  pub carried : RestOn new front k

-- Of two classes of the block the lower one stands at front now, and between the two are none that the higher one follows, or such alone as
-- rest on the lower one.
pub record AreNear (old mid : Block) (low high front : ℕ) : Type 0 where
  pub to : front < high
  pub order : IsRearranged old mid
  pub same_low : class_at mid front ≡ class_at old low
  pub same_high : class_at mid high ≡ class_at old high
  pub between : ((m : ℕ) → front < m → m < high → follows mid high m ≡ false) ⊎ RestOn mid front high

-- a class stands in place of two that are near to one another, at the lower place
pub record IsMadeOne (old : Block) (low high : ℕ) (both : Class) (new : Block) : Type 0 where
  pub mid : Block
  pub front : ℕ
  pub near : AreNear old mid low high front
  pub is : new ≡ settled_at mid front high both
