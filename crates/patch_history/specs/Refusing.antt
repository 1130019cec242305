-- Which reply is right: the first cause of the command's list, or what it answers where none holds.
use Rattle.std.specs.Prelude.{ℕ, Bool, true, false, ◌==◌, ◌&&◌, ◌||◌, not, nat_lt, nat_le, if◌then◌else◌, List, length}
use Rattle.std.specs.Prelude.{is_none, Option, Some, None}
use Rattle.std.specs.Option.{option_or}
use Rattle.patch_model.specs.declared.refusals.RefusalKind.TheVariants as kind
use Rattle.patch_model.specs.declared.refusals.Refusal.{Refusal}
use Rattle.patch_model.specs.Refusing.{bare}
use Rattle.patch_model.specs.State.{entries_of}
use Rattle.patch_frame.specs.declared.framing.TheConstants.{MAX_KEY}
use Rattle.patch_frame.specs.declared.geometries.Format.{Format}
use Rattle.patch_frame.specs.declared.geometries.Format.TheVariants.{One, Two}
use Rattle.patch_frame.specs.Geometry.{value_limit}
use Rattle.patch_plans.specs.Groups.{why_not_begun, why_not_engaged, why_not_disengaged, why_not_ordered, why_not_closed}
use Rattle.patch_plans.specs.Groups.{why_not_counted, pending}
use Rattle.patch_recovery.specs.Change.{Made}
use Rattle.patch_recovery.specs.Ledger.{value_in}
use Rattle.patch_plans.specs.Extents.{offset_at, generation_at}
use Rattle.patch_plans.specs.Room.{why_no_room}
use Rattle.patch_history.specs.Command.{Command, Reply, Put, Get, Delete, Reclaim, Upgrade, Group, Engage, Disengage}
use Rattle.patch_history.specs.Command.{Depend, CloseGroup, Pending, Done, Value, Absent, GroupMade, Count, unless}
use Rattle.patch_history.specs.Shelf.{Shelf}
use Rattle.patch_history.specs.Choosing.{slot_for, live_frames}
use Rattle.patch_history.specs.StoreState.{Standing, made_by, live_of, plan_for}

-- a key has 1 to 32 bytes
abbrev pub why_no_key : List ℕ → Option Refusal
why_no_key key = if length key == 0 || nat_lt MAX_KEY (length key) then Some (bare kind.KeyLength) else None

-- why a plan isn't made: there is none, or there is no room for all its patches
abbrev pub why_not_made : Standing → (no_plan : Refusal) → Option (List Made) → Option Refusal
why_not_made st no_plan None = Some no_plan
why_not_made st no_plan (Some plan) = why_no_room (made_by st) (live_of st) (length plan)

abbrev pub why_not_put : Standing → (key value : List ℕ) → Option Refusal
why_not_put st key value =
    option_or (why_no_key key) (
    if nat_lt (value_limit st.map.format) (length value) then Some (bare kind.ValueLength)
    else if is_none (slot_for st.shelf key) then Some (bare kind.IndexFull)
    else why_not_made st (bare kind.NoSpace) (plan_for st (Put key value)))

abbrev pub why_not_deleted : Standing → List ℕ → Option Refusal
why_not_deleted st key =
    option_or (why_no_key key) (
    if is_none (value_in st.map.entries key) then Some (bare kind.NoKey)
    else why_not_made st (bare kind.NoKey) (plan_for st (Delete key)))

-- the extent is the current one
abbrev pub is_current : Shelf → ℕ → Bool
is_current s extent = elim s.current [ Some current ↦ current == extent | None ↦ false ]

-- it is, and frames in it are live
abbrev pub is_in_use : Shelf → ℕ → Bool
is_in_use s extent = is_current s extent && not (length (live_frames s extent) == 0)

abbrev pub why_not_reclaimed : Standing → ℕ → Option Refusal
why_not_reclaimed st extent =
    if nat_le st.shelf.extents.geometry.extents extent then Some (bare kind.NoSuchExtent)
    else if offset_at st.shelf.extents extent == 0 then Some (bare kind.EmptyExtent)
    else if is_in_use st.shelf extent then Some (bare kind.OpenExtent)
    else if generation_at st.shelf.extents extent == 4294967295 then Some (bare kind.GenerationSpent)
    else why_not_made st (bare kind.NoSpace) (plan_for st (Reclaim extent))

abbrev pub is_wide : Format → Bool
is_wide One = false
is_wide (Two length) = true

abbrev pub why_not_upgraded : Standing → Option Refusal
why_not_upgraded st =
    if is_wide st.map.format then Some (bare kind.AlreadyVersion2)
    else why_not_made st (bare kind.AlreadyVersion2) (plan_for st Upgrade)

-- the value of a key, or that it has none
abbrev pub found : Option (List ℕ) → Reply
found (Some value) = Value value
found None = Absent

-- the right reply where memory doesn't run out
abbrev pub reply_of : Standing → (writer : ℕ) → Command → Reply
reply_of st writer (Put key value) = unless (why_not_put st key value) Done
reply_of st writer (Get key) = unless (why_no_key key) (found (value_in st.map.entries key))
reply_of st writer (Delete key) = unless (why_not_deleted st key) Done
reply_of st writer (Reclaim extent) = unless (why_not_reclaimed st extent) Done
reply_of st writer Upgrade = unless (why_not_upgraded st) Done
reply_of st writer Group = unless (why_not_begun st.groups) (GroupMade (length st.groups.groups))
reply_of st writer (Engage group) = unless (why_not_engaged st.groups writer group) Done
reply_of st writer (Disengage group) = unless (why_not_disengaged st.groups writer group) Done
reply_of st writer (Depend group on) = unless (why_not_ordered st.groups group on) Done
reply_of st writer (CloseGroup group) = unless (why_not_closed st.groups group) Done
reply_of st writer (Pending group) =
    unless (why_not_counted st.groups group) (Count (pending (entries_of st.run) st.groups group))
