-- How full a store is, as text.
use Rattle.std.specs.Prelude.{ℕ, ◌≡◌, ◌*◌, ◌++◌, [], ◌∷◌, nat_le, if◌then◌else◌, List, Option, Ok, flat_map, codes, decimal}
use Rattle.std.specs.Io.KnownBytes.{Appends}
use Rattle.std.specs.List.{range_with_len}
use Rattle.patch_model.specs.declared.blocks.TheConstants.{BLOCK}
use Rattle.patch_frame.specs.Geometry.{largest_pointer}
use Rattle.patch_recovery.specs.Ledger.{Ledger}
use Rattle.patch_recovery.specs.Reading.{reading}
use Rattle.patch_history.specs.History.{History, standing_of}
use Rattle.patch_history.specs.Shelf.{Shelf}
use Rattle.patch_store.specs.Checking.{extent_report}
use Rattle.patch_store.specs.Opening.{at_opening}
use Rattle.patch_store.specs.Totals.{totals_of}
use Rattle.patch_store.specs.declared.totals.Totals.{Totals}
use Rattle.patch_listing.specs.Pictures.{extent_text}
use Rattle.patch_listing.specs.declared.statting.Detail.{Detail}
use Rattle.patch_listing.specs.declared.statting.Detail.TheVariants.{Numbers, Picture}

-- a number behind its name
abbrev pub number_line : (name : List ℕ) → ℕ → List ℕ
number_line name n = name ++ codes " " ++ decimal n ++ 10 ∷ []

-- The numbers of a store that was just opened, by the names of `fstch_statistics`: it has nothing to sync, and has done no sync.
abbrev pub numbers_text : Totals → List ℕ
numbers_text t =
    number_line (codes "keys") t.keys
    ++ number_line (codes "unsynced") 0
    ++ number_line (codes "live_bytes") t.live
    ++ number_line (codes "file_bytes") (t.blocks * BLOCK)
    ++ number_line (codes "extents") t.extents
    ++ number_line (codes "empty_extents") t.empty
    ++ number_line (codes "syncs") 0
    ++ number_line (codes "waves") 0

-- how many columns the numbers of so many extents have
abbrev pub columns_for : (extents : ℕ) → ℕ
columns_for extents = if nat_le extents 10 then 1 else if nat_le extents 100 then 2 else 3

-- the line of an extent, of which there are so many
abbrev pub bar_line : Shelf → (extents extent : ℕ) → List ℕ
bar_line s extents extent = extent_text (columns_for extents) (largest_pointer s.extents.geometry.format) extent (extent_report s extent)

-- those of so many first ones
unfoldable pub bars : Shelf → (extents count : ℕ) → List ℕ
bars s extents count = flat_map (bar_line s extents) (range_with_len 0 count)

-- the picture of the extents, behind an empty line
abbrev pub picture_text : Shelf → List ℕ
picture_text s = 10 ∷ [] ++ bars s s.extents.geometry.extents s.extents.geometry.extents

-- what is told of the store at the end of a history: its numbers, and where it is asked for, the picture behind them
abbrev pub detail_text : Detail → History → List ℕ
detail_text Numbers h = numbers_text (totals_of h)
detail_text Picture h = numbers_text (totals_of h) ++ picture_text (standing_of h).shelf

-- The blocks are read as a store's, and what is told of it as it is opened was written.
pub record HasTold (detail : Detail) (contents : List (List ℕ)) (old new : Option (List ℕ)) : Type 0 where
  pub ledger : Ledger
  pub reads : reading contents ≡ Ok ledger
  pub written : Appends old new (detail_text detail (at_opening contents ledger))
