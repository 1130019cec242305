-- Where a put goes.
use Rattle.std.specs.Prelude.{ℕ, ◌≡◌, ◌<◌, ◌+◌, List, length, Some}
use Rattle.patch_frame.specs.declared.framing.TheConstants.{OVERHEAD}
use Rattle.patch_history.specs.Choosing.{slot_for, extent_for_put}
use Rattle.patch_history.specs.Shelf.{Shelf}

-- the slot and the extent that are chosen, which are among those of the disk
pub record IsTarget (s : Shelf) (key value : List ℕ) (slot extent : ℕ) : Type 0 where
  pub slot_is : slot_for s key ≡ Some slot
  pub extent_is : extent_for_put s (OVERHEAD + length key + length value) ≡ Some extent
  pub within : slot < length s.slots
  pub known : extent < s.extents.geometry.extents
