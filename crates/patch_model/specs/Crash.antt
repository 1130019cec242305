-- What a crash may leave.
use Rattle.std.specs.Prelude.{ℕ, suc, Bool, ◌≡◌, ◌≤◌, ◌&&◌, ◌||◌, IsTrue, List, [], ◌∷◌, map, length, slice_set, Contains}
use Rattle.std.specs.List.{range_with_len}
use Rattle.patch_model.specs.Execution.{Execution, cut}
use Rattle.patch_model.specs.Entry.{Entry, is_durable, is_flight, is_among}
use Rattle.patch_model.specs.Dependency.{depends_directly}
use Rattle.patch_model.specs.History.{history_of, image, pile_of}

-- each patch that one of the set depends on directly is in the set
abbrev pub IsClosed : List Entry → (Entry → Bool) → Type 0
IsClosed all set = (e f : Entry) → Contains all e → Contains all f → IsTrue (set e) → IsTrue (depends_directly e.patch f.patch) → IsTrue (set f)

-- with a patch of the set all its class is in the set
abbrev pub AreWhole : List Entry → (Entry → Bool) → Type 0
AreWhole all set = (e f : Entry) → Contains all e → Contains all f → e.class ≡ f.class → IsTrue (set e) → IsTrue (set f)

-- the durable patches, with those in flight of the blocks whose write had landed
abbrev pub crash_set : List ℕ → Entry → Bool
crash_set landed e = is_durable e || (is_flight e && is_among landed e.patch.block)

-- in each block the pile of the set's patches of it
abbrev pub disk_of : Execution → (Entry → Bool) → List (List ℕ)
disk_of run set = map (λ block. pile_of (history_of run block) set) (range_with_len 0 (length run.first))

-- a crash of this execution may leave this disk
pub record MayLeave (run : Execution) (disk : List (List ℕ)) : Type 0 where
  pub landed : List ℕ
  pub disk_is : disk ≡ disk_of run (crash_set landed)

-- the disk with the block's image written
abbrev pub with_image : Execution → ℕ → List (List ℕ) → List (List ℕ)
with_image run block disk = slice_set disk block (image (history_of run block))

-- Of the moments from this one on, one for each count: what is left at a moment are disks that a crash may leave after as many
-- steps as its count says; no count is below the one before it, nor the first one below this one.
abbrev pub HasTrail : Execution → (left_at : ℕ → List (List ℕ) → Type 0) → (moment from : ℕ) → List ℕ → Type 0
HasTrail run left_at moment from [] = from ≤ length run.steps
HasTrail run left_at moment from (n ∷ counts) =
    (from ≤ n) × ((disk : List (List ℕ)) → left_at moment disk → MayLeave (cut n run) disk) × HasTrail run left_at (suc moment) n counts
