-- How full an extent is, as a bar.
use Rattle.std.specs.Prelude.{ℕ, ◌-◌, ◌*◌, ◌/◌, ◌++◌, nat_lt, min, if◌then◌else◌, List, length, replicate, flat_map, codes, decimal}
use Rattle.std.specs.Int.{div_ceil}
use Rattle.std.specs.List.{range_with_len}
use Rattle.patch_store.specs.declared.reports.ExtentReport.{ExtentReport}
use Rattle.patch_listing.specs.declared.pictures.TheConstants.{COLUMNS}

-- how many columns so many bytes of an extent begin, and how many hundredths of it they are
abbrev pub columns_of : (bytes room : ℕ) → ℕ
columns_of bytes room = min (div_ceil (bytes * COLUMNS) room) COLUMNS

abbrev pub percent_of : (bytes room : ℕ) → ℕ
percent_of bytes room = min (bytes * 100 / room) 100

-- the first columns are of what is live, and the next ones of what else is written
abbrev pub mark_at : (live written column : ℕ) → List ℕ
mark_at live written column = if nat_lt column live then codes "#" else if nat_lt column written then codes "-" else codes " "

-- what stands in so many columns
unfoldable pub marks : (live written columns : ℕ) → List ℕ
marks live written columns = flat_map (mark_at live written) (range_with_len 0 columns)

abbrev pub bar_text : ExtentReport → (room : ℕ) → List ℕ
bar_text e room = marks (columns_of e.live room) (columns_of e.pointer room) COLUMNS

-- a number behind blanks, which with them has so many columns
abbrev pub right_aligned : (width n : ℕ) → List ℕ
right_aligned width n = replicate (width - length (decimal n)) 32 ++ decimal n

-- the line of an extent, where numbers of extents have so many columns
abbrev pub extent_text : (width room extent : ℕ) → ExtentReport → List ℕ
extent_text width room extent e =
    codes "extent " ++ right_aligned width extent ++ codes " [" ++ bar_text e room ++ codes "] " ++ right_aligned 3 (percent_of e.live room) ++ codes "% live\n"
