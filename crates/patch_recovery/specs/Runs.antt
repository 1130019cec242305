-- Short runs of changes, on a disk of one index block and three extents.
use Rattle.std.specs.Prelude.{ℕ, Bool, ◌+◌, ◌-◌, ◌==◌, ◌&&◌, ◌||◌, not, List, [], ◌∷◌, ◌++◌, replicate}
use Rattle.std.specs.List.{list_all, range_with_len}
use Rattle.patch_model.specs.declared.patches.Undo.TheVariants.{MayDrop}
use Rattle.patch_model.specs.Patch.{Patch}
use Rattle.patch_model.specs.Execution.{Execution, extended}
use Rattle.patch_model.specs.Entry.{Entry, is_among}
use Rattle.patch_model.specs.Dependency.{depends_directly}
use Rattle.patch_model.specs.State.{entries_of}
use Rattle.patch_model.specs.Crash.{disk_of}
use Rattle.patch_frame.specs.declared.geometries.Format.TheVariants.{One}
use Rattle.patch_frame.specs.declared.geometries.Geometry.{Geometry}
use Rattle.patch_frame.specs.Slot.{SlotFields}
use Rattle.patch_frame.specs.Frame.{Content, spelling}
use Rattle.patch_recovery.specs.Change.{Change, Data, Point, Fill, Clear, Widen, Made, step_of}
use Rattle.patch_recovery.specs.Ledger.{Ledger}
use Rattle.patch_recovery.specs.Reading.{ledger_in}
use Rattle.patch_recovery.specs.Putting.{pieces, made_in_order}
use Rattle.patch_recovery.specs.Rows.{new_disk}

-- one index block and three extents
abbrev pub three : Geometry
three = record { index = 1; extents = 3; format = One }

-- what a new disk of them is read as
abbrev pub first_ledger : Ledger
first_ledger = ledger_in three (new_disk three)

-- the patches of these changes, the newest of which stands first, over a new disk
abbrev pub run_of : List Made → Execution
run_of [] = record { first = new_disk three; steps = [] }
run_of (made ∷ earlier) = extended (run_of earlier) (step_of three made)

-- the patches of these numbers
abbrev pub those : List ℕ → Entry → Bool
those numbers e = is_among numbers e.patch.no

-- what the patches of these numbers leave of the changes
abbrev pub left_of : List Made → List ℕ → List (List ℕ)
left_of changes numbers = disk_of (run_of changes) (those numbers)

-- each patch that one of the set depends on directly is in the set
abbrev pub is_closed : List Entry → (Entry → Bool) → Bool
is_closed all set = list_all (λ e. list_all (λ f. not (set e && depends_directly e.patch f.patch) || set f) all) all

-- the patches of these numbers are closed
abbrev pub closed_of : List Made → List ℕ → Bool
closed_of changes numbers = is_closed (entries_of (run_of changes)) (those numbers)

-- the key a with the value 01, whose frame has 18 bytes
abbrev pub content_a : Content
content_a = record { key = 0x61 ∷ []; value = 1 ∷ [] }

-- the key b with the value 02, whose frame has as many
abbrev pub content_b : Content
content_b = record { key = 0x62 ∷ []; value = 2 ∷ [] }

-- a change, and the numbers that its patch names
abbrev pub made : Change → List ℕ → Made
made change after = record { change = change; after = after }

-- what the slot of such a frame says, in generation 0
abbrev pub fields_at : Content → ℕ → ℕ → SlotFields
fields_at c extent offset = record { key = c.key; extent = extent; generation = 0; offset = offset; length = 18 }

-- a is put (0 to 2)
abbrev pub one_put_made : List Made
one_put_made =
    made (Fill 0 (fields_at content_a 0 0)) (1 ∷ [])
    ∷ made (Point 0 0 18) (0 ∷ [])
    ∷ made (Data 0 0 (spelling content_a)) []
    ∷ []

-- its first patch: the frame, in the first block of extent 0
abbrev pub bytes_patch : Patch
bytes_patch = record {
  no = 0;
  block = 3;
  start = 0;
  bytes = 0x46 ∷ 0x43 ∷ 0x48 ∷ 0x31 ∷ 1 ∷ 0 ∷ 0 ∷ 0 ∷ 0 ∷ 0 ∷ 0 ∷ 1 ∷ 0x61 ∷ 1 ∷ 0x31 ∷ 0x48 ∷ 0x43 ∷ 0x46 ∷ [];
  after = [];
  undo = MayDrop;
}

-- its second patch: the record, in the pointer block
abbrev pub pointer_patch : Patch
pointer_patch = record {
  no = 1;
  block = 2;
  start = 0;
  bytes = 0 ∷ 0 ∷ 0 ∷ 0 ∷ 0 ∷ 0 ∷ 0 ∷ 18 ∷ [];
  after = 0 ∷ [];
  undo = MayDrop;
}

-- and its third: the slot, in the index block
abbrev pub slot_patch : Patch
slot_patch = record {
  no = 2;
  block = 1;
  start = 0;
  bytes = 1 ∷ 1 ∷ 0 ∷ 0 ∷ 0 ∷ 0 ∷ 0 ∷ 0 ∷ 0 ∷ 0 ∷ 0 ∷ 0 ∷ 0 ∷ 0 ∷ 0 ∷ 18 ∷ 0x61 ∷ replicate 47 0;
  after = 1 ∷ [];
  undo = MayDrop;
}

-- all sets of them
abbrev pub sets_of_three : List (List ℕ)
sets_of_three =
    []
    ∷ (0 ∷ [])
    ∷ (1 ∷ [])
    ∷ (2 ∷ [])
    ∷ (0 ∷ 1 ∷ [])
    ∷ (0 ∷ 2 ∷ [])
    ∷ (1 ∷ 2 ∷ [])
    ∷ (0 ∷ 1 ∷ 2 ∷ [])
    ∷ []

-- none, the first one, the first two, and all three
abbrev pub first_ones_of_three : List (List ℕ)
first_ones_of_three = [] ∷ (0 ∷ []) ∷ (0 ∷ 1 ∷ []) ∷ (0 ∷ 1 ∷ 2 ∷ []) ∷ []

-- and deleted (3), and b is put (4 to 6)
abbrev pub put_delete_put : List Made
put_delete_put =
    made (Fill 0 (fields_at content_b 0 18)) (5 ∷ 3 ∷ [])
    ∷ made (Point 0 0 36) (4 ∷ [])
    ∷ made (Data 0 18 (spelling content_b)) []
    ∷ made (Clear 0) []
    ∷ one_put_made

-- sets of them that are closed, and have both pointer patches or none
abbrev pub closed_sets : List (List ℕ)
closed_sets =
    []
    ∷ (0 ∷ [])
    ∷ (4 ∷ [])
    ∷ (0 ∷ 4 ∷ [])
    ∷ (0 ∷ 1 ∷ 4 ∷ 5 ∷ [])
    ∷ (0 ∷ 1 ∷ 2 ∷ 4 ∷ 5 ∷ [])
    ∷ (0 ∷ 1 ∷ 2 ∷ 3 ∷ 4 ∷ 5 ∷ [])
    ∷ (0 ∷ 1 ∷ 2 ∷ 3 ∷ 4 ∷ 5 ∷ 6 ∷ [])
    ∷ []

-- the disk is upgraded (0), and a put (1 to 3)
abbrev pub upgrade_and_put : List Made
upgrade_and_put =
    made (Fill 0 (fields_at content_a 0 0)) (2 ∷ 0 ∷ [])
    ∷ made (Point 0 0 18) (1 ∷ [])
    ∷ made (Data 0 0 (spelling content_a)) []
    ∷ made Widen []
    ∷ []

-- and a is deleted (4)
abbrev pub up_to_delete : List Made
up_to_delete = made (Clear 0) [] ∷ upgrade_and_put

-- and b put (5 to 7)
abbrev pub up_to_second_put : List Made
up_to_second_put =
    made (Fill 0 (fields_at content_b 0 18)) (6 ∷ 4 ∷ 0 ∷ [])
    ∷ made (Point 0 0 36) (5 ∷ [])
    ∷ made (Data 0 18 (spelling content_b)) []
    ∷ up_to_delete

-- and moved to extent 1 (8 to 10)
abbrev pub up_to_move : List Made
up_to_move =
    made (Fill 0 (fields_at content_b 1 0)) (9 ∷ 0 ∷ [])
    ∷ made (Point 1 0 18) (8 ∷ [])
    ∷ made (Data 1 0 (spelling content_b)) []
    ∷ up_to_second_put

-- an upgrade, a put, a delete, a put, and a reclaim, which moves and then sets extent 0 back (11)
abbrev pub each_command : List Made
each_command = made (Point 0 1 0) (4 ∷ 10 ∷ []) ∷ up_to_move

-- the number of the move
abbrev pub is_the_move : ℕ → Bool
is_the_move number = number == 10

-- Runs in which one patch names these numbers. Where it doesn't name what it should, an order is left out.

-- a is put: its slot should wait for the pointer (1)
abbrev pub slot_naming : List ℕ → List Made
slot_naming names =
    made (Fill 0 (fields_at content_a 0 0)) names
    ∷ made (Point 0 0 18) (0 ∷ [])
    ∷ made (Data 0 0 (spelling content_a)) []
    ∷ []

-- a is put: its pointer should wait for the bytes (0)
abbrev pub pointer_naming : List ℕ → List Made
pointer_naming names =
    made (Fill 0 (fields_at content_a 0 0)) (1 ∷ [])
    ∷ made (Point 0 0 18) names
    ∷ made (Data 0 0 (spelling content_a)) []
    ∷ []

-- a is put and deleted, and extent 0 set back: the bytes of b there should wait for that (4)
abbrev pub bytes_naming : List ℕ → List Made
bytes_naming names =
    made (Data 0 0 (spelling content_b)) names
    ∷ made (Point 0 1 0) (3 ∷ [])
    ∷ made (Clear 0) []
    ∷ one_put_made

-- a is put and moved to extent 1: extent 0 should be set back after its slot has moved on (5)
abbrev pub reset_naming : List ℕ → List Made
reset_naming names =
    made (Point 0 1 0) names
    ∷ made (Fill 0 (fields_at content_a 1 0)) (4 ∷ [])
    ∷ made (Point 1 0 18) (3 ∷ [])
    ∷ made (Data 1 0 (spelling content_a)) []
    ∷ one_put_made

-- b and a are put
abbrev pub two_put : List Made
two_put =
    made (Fill 1 (fields_at content_a 0 18)) (4 ∷ [])
    ∷ made (Point 0 0 36) (3 ∷ [])
    ∷ made (Data 0 18 (spelling content_a)) []
    ∷ made (Fill 0 (fields_at content_b 0 0)) (1 ∷ [])
    ∷ made (Point 0 0 18) (0 ∷ [])
    ∷ made (Data 0 0 (spelling content_b)) []
    ∷ []

-- a is put again in slot 0 (8 to 10), whose slot patch names these numbers
abbrev pub put_again : List ℕ → List Made → List Made
put_again names earlier =
    made (Fill 0 (fields_at content_a 0 36)) (9 ∷ names)
    ∷ made (Point 0 0 54) (8 ∷ [])
    ∷ made (Data 0 36 (spelling content_a)) []
    ∷ earlier

-- b and a are put and deleted: the slot in which a is put again should wait for a's to be cleared (7)
abbrev pub claim_naming : List ℕ → List Made
claim_naming names = put_again names (made (Clear 1) (6 ∷ []) ∷ made (Clear 0) [] ∷ two_put)

-- a and b are deleted: the slot that is cleared last, in which a is put again, should wait for the other one (6)
abbrev pub clear_naming : List ℕ → List Made
clear_naming names = put_again (7 ∷ []) (made (Clear 0) names ∷ made (Clear 1) [] ∷ two_put)

-- a with a value that no disk of version 1 takes
abbrev pub content_long : Content
content_long = record { key = 0x61 ∷ []; value = replicate 40000 1 }

-- what its slot says
abbrev pub fields_long : SlotFields
fields_long = record { key = 0x61 ∷ []; extent = 0; generation = 0; offset = 0; length = 40017 }

-- the disk is upgraded, and a long value put: its slot should wait for the upgrade (0)
abbrev pub long_naming : List ℕ → List Made
long_naming names =
    made (Fill 0 fields_long) (11 ∷ names)
    ∷ made (Point 0 0 40017) (range_with_len 1 10)
    ∷ made_in_order [] (pieces 0 0 (spelling content_long)) (made Widen [] ∷ [])

-- the numbers 0 to 10 but for this one
abbrev pub all_but : ℕ → List ℕ
all_but number = range_with_len 0 number ++ range_with_len (number + 1) (10 - number)
