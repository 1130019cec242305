-- What is known of a put or a reclaim that isn't refused.
use Rattle.std.specs.Prelude.{ℕ, false, ◌≡◌, ◌+◌, ◌<◌, ◌≤◌, List, ◌∷◌, ◌++◌, length, Some}
use Rattle.patch_frame.specs.Geometry.{value_limit, largest_pointer}
use Rattle.patch_frame.specs.Slot.{SlotFields}
use Rattle.patch_frame.specs.Frame.{Content, Fits, length_of}
use Rattle.patch_recovery.specs.Change.{Made}
use Rattle.patch_recovery.specs.Ledger.{Ledger, after_all}
use Rattle.patch_recovery.specs.Right.{IsNamed}
use Rattle.patch_plans.specs.Extents.{offset_at}
use Rattle.patch_history.specs.Command.{Put, Reclaim, is_refused}
use Rattle.patch_history.specs.Shelf.{Shelf, slot_at, after_plan}
use Rattle.patch_history.specs.Choosing.{slot_for, extent_for_put, extent_for_move, live_frames}
use Rattle.patch_history.specs.Planning.{put_plan, frame_plan, content_of, moves}
use Rattle.patch_history.specs.StoreState.{Standing, made_by, onto}
use Rattle.patch_history.specs.Refusing.{reply_of}
use Rattle.patch_history.specs.History.{History, IsLegalHistory, standing_of, ledger_of}

-- the extent is one of the disk's, and has room for so many bytes
pub record HasPlace (s : Shelf) (extent len : ℕ) : Type 0 where
  pub known : extent < s.extents.geometry.extents
  pub room : offset_at s.extents extent + len ≤ largest_pointer s.extents.geometry.format

-- a put finds a slot and an extent, and its plan is a frame's
pub record PutFits (st : Standing) (c : Content) : Type 0 where
  pub slot : ℕ
  pub extent : ℕ
  pub slot_is : slot_for st.shelf c.key ≡ Some slot
  pub extent_is : extent_for_put st.shelf (length_of c) ≡ Some extent
  pub plan_is : put_plan st.shelf (made_by st) c ≡ Some (frame_plan st.shelf (made_by st) extent slot c)
  pub within : slot < length st.shelf.slots
  pub place : HasPlace st.shelf extent (length_of c)
  pub fits : Fits (value_limit st.map.format) c

-- so does one that isn't refused
abbrev pub PutsFit : Type 0
PutsFit =
    (h : History) (writer : ℕ) (c : Content) → IsLegalHistory h
    → is_refused (reply_of (standing_of h) writer (Put c.key c.value)) ≡ false → PutFits (standing_of h) c

-- the frame that a slot names is there, with the value that the map has for the slot's key
pub record IsThere (l : Ledger) (entries : List Content) (f : SlotFields) : Type 0 where
  pub named : IsNamed l f
  pub content : named.content ≡ content_of entries f

-- so is that of each used slot
abbrev pub FramesAreThere : Type 0
FramesAreThere =
    (h : History) (slot : ℕ) (f : SlotFields) → IsLegalHistory h → slot_at (standing_of h).shelf slot ≡ Some f
    → IsThere (ledger_of h) (standing_of h).map.entries f

-- the shelf once some frames have moved
abbrev pub shelf_behind : History → List Made → Shelf
shelf_behind h moved = after_plan (standing_of h).shelf (made_by (standing_of h)) moved

-- the number of the next patch then
abbrev pub next_behind : History → List Made → ℕ
next_behind h moved = made_by (standing_of h) + length moved

-- Then the frame of the next slot is there, an extent has room for it, and the others can move behind it.
pub record NextMoves (h : History) (moved : List Made) (f : ℕ × SlotFields) (rest : List (ℕ × SlotFields)) : Type 0
  where
    pub there : IsThere (after_all h.first (onto moved (standing_of h).made)) (standing_of h).map.entries f.1
    pub within : f.0 < length (shelf_behind h moved).slots
    pub used : slot_at (shelf_behind h moved) f.0 ≡ Some f.1
    pub extent : ℕ
    pub extent_is : extent_for_move (shelf_behind h moved) f.1.length ≡ Some extent
    pub place : HasPlace (shelf_behind h moved) extent f.1.length
    pub plan : List Made
    pub plan_is : moves (standing_of h).map.entries (shelf_behind h moved) (next_behind h moved) (f ∷ rest) ≡ Some plan

-- so it is in each reclaim that isn't refused, move by move
abbrev pub ReclaimsGoOn : Type 0
ReclaimsGoOn =
    (h : History) (writer extent : ℕ) (before : List (ℕ × SlotFields)) (f : ℕ × SlotFields)
    (rest : List (ℕ × SlotFields)) (moved : List Made) → IsLegalHistory h
    → is_refused (reply_of (standing_of h) writer (Reclaim extent)) ≡ false
    → live_frames (standing_of h).shelf extent ≡ before ++ f ∷ rest
    → moves (standing_of h).map.entries (standing_of h).shelf (made_by (standing_of h)) before ≡ Some moved
    → NextMoves h moved f rest
