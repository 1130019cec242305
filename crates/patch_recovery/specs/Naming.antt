-- What a patch of the store names, so that it comes after what it has to.
use Rattle.std.specs.Prelude.{ℕ, Bool, false, ◌≡◌, ◌+◌, ◌<◌, ◌≤◌, ◌==◌, if◌then◌else◌, IsTrue, IfSome, List, [], ◌∷◌}
use Rattle.std.specs.Prelude.{length, Option, Some, None}
use Rattle.patch_model.specs.Entry.{is_among}
use Rattle.patch_frame.specs.Slot.{SlotFields}
use Rattle.patch_recovery.specs.Change.{Change, Data, Point, Fill, Clear, Widen, Made}
use Rattle.patch_recovery.specs.Ledger.{Ledger, after_all, writes_at}
use Rattle.patch_recovery.specs.Right.{IsRight}
use Rattle.patch_recovery.specs.Orders.{StandsIn, is_reset, takes_from, is_clear, is_widen, AreWellMade, IsWellMade}

-- the extent's pointer record is written
abbrev pub is_point : ℕ → Change → Bool
is_point extent (Point e generation offset) = extent == e
is_point extent _ = false

-- the number of the newest change of a kind
abbrev pub newest : (Change → Bool) → List Made → Option ℕ
newest kind [] = None
newest kind (made ∷ earlier) = if kind made.change then Some (length earlier) else newest kind earlier

-- the change's patch names that number, if there is one
abbrev pub Names : Made → Option ℕ → Type 0
Names made number = IfSome number (λ n. IsTrue (is_among made.after n))

-- the newest pointer patch of the slot's extent is named, and names the newest patch over each byte of the slot's frame
pub record NamesFrame (made : Made) (earlier : List Made) (s : SlotFields) : Type 0 where
  pub pointer : Made
  pub before : List Made
  pub stands : StandsIn earlier pointer before
  pub newest_pointer : newest (is_point s.extent) earlier ≡ Some (length before)
  pub named : IsTrue (is_among made.after (length before))
  pub bytes : (place : ℕ) → s.offset ≤ place → place < s.offset + s.length
      → Names pointer (newest (writes_at s.extent place) earlier)

-- besides, the upgrade is named, and where the slot was empty the last slot that was cleared
pub record NamesOfFill (l : Ledger) (made : Made) (earlier : List Made) (slot : ℕ) (s : SlotFields) : Type 0 where
  pub frame : NamesFrame made earlier s
  pub upgrade : Names made (newest is_widen earlier)
  pub cleared : l.slot slot ≡ None → Names made (newest is_clear earlier)

-- where an extent is set back, each slot that named it and was filled anew or cleared since it was set back last
abbrev pub NamesOfPoint : Ledger → Made → List Made → (extent offset : ℕ) → Type 0
NamesOfPoint first made earlier extent offset =
    offset ≡ 0 → (other : Made) (before : List Made) → StandsIn earlier other before
    → IsTrue (takes_from extent (after_all first before) other.change)
    → IfSome (newest (is_reset extent) earlier) (λ n. n < length before) → IsTrue (is_among made.after (length before))

-- bytes name the patch that set their extent back last, and a slot that is cleared the last one that was cleared before
abbrev pub HasNames : Ledger → Made → List Made → Change → Type 0
HasNames first made earlier (Data extent offset bytes) = Names made (newest (is_reset extent) earlier)
HasNames first made earlier (Point extent generation offset) = NamesOfPoint first made earlier extent offset
HasNames first made earlier (Fill slot s) = NamesOfFill (after_all first earlier) made earlier slot s
HasNames first made earlier (Clear slot) = Names made (newest is_clear earlier)
HasNames first made earlier Widen = Unit {0}

-- with these names a change that is right comes after all that it has to
abbrev pub NamesSuffice : Type 0
NamesSuffice =
    (first : Ledger) (made : Made) (earlier : List Made)
    → AreWellMade first earlier → IsRight (after_all first earlier) made.change
    → HasNames first made earlier made.change → IsWellMade first made earlier
