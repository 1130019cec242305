-- Why a call of the extents is refused: the first cause of its list.
use Rattle.std.specs.Prelude.{ℕ, ◌+◌, ◌==◌, not, nat_lt, nat_le, if◌then◌else◌, List, length, count_by, Option, Some, None}
use Rattle.std.specs.List.{list_any}
use Rattle.patch_model.specs.declared.refusals.RefusalKind.TheVariants as kind
use Rattle.patch_model.specs.declared.refusals.Refusal.{Refusal}
use Rattle.patch_model.specs.Entry.{Entry, is_live}
use Rattle.patch_model.specs.Refusing.{bare}
use Rattle.patch_frame.specs.Geometry.{largest_pointer}
use Rattle.patch_cache.specs.Contents.{Contents}
use Rattle.patch_plans.specs.Extents.{Extents, generation_at, offset_at}
use Rattle.patch_plans.specs.Planning.{touched}
use Rattle.patch_plans.specs.Room.{why_no_room}
use Rattle.patch_extent.specs.declared.places.Place.{Place}

-- why so many more patches aren't made by a caller who names these, where so many were made and so many are live
abbrev pub why_not_behind : (made live : ℕ) (after : List ℕ) (count : ℕ) → Option Refusal
why_not_behind made live after count =
    if list_any (λ n. nat_le made n) after then Some (bare kind.UnknownDependency) else why_no_room made live count

-- by a cache that holds this
abbrev pub why_not_held : Contents → (after : List ℕ) (count : ℕ) → Option Refusal
why_not_held cache after count = why_not_behind cache.graph.made cache.live after count

abbrev pub why_not_after : List Entry → (after : List ℕ) (count : ℕ) → Option Refusal
why_not_after all after count = why_not_behind (length all) (count_by is_live all) after count

abbrev pub why_not_appended : Extents → List Entry → (extent len : ℕ) (after : List ℕ) → Option Refusal
why_not_appended s all extent len after =
    if nat_le s.geometry.extents extent then Some (bare kind.NoSuchExtent)
    else if nat_lt (largest_pointer s.geometry.format) (offset_at s extent + len) then Some (bare kind.ExtentFull)
    else why_not_after all after (touched (offset_at s extent) len + 1)

abbrev pub why_not_reset : Extents → List Entry → (extent : ℕ) (after : List ℕ) → Option Refusal
why_not_reset s all extent after =
    if nat_le s.geometry.extents extent then Some (bare kind.NoSuchExtent)
    else if generation_at s extent == 4294967295 then Some (bare kind.GenerationSpent)
    else why_not_after all after 1

abbrev pub why_not_read : Extents → Place → Option Refusal
why_not_read s place =
    if nat_le s.geometry.extents place.extent then Some (bare kind.NoSuchExtent)
    else if not (place.generation == generation_at s place.extent) then Some (bare kind.OldGeneration)
    else if nat_lt (offset_at s place.extent) (place.offset + place.len) then Some (bare kind.PastPointer)
    else None
