-- Extents that begin anew.
use Rattle.std.specs.Prelude.{map, None}
use Rattle.patch_plans.specs.declared.records.Extent.{Extent}
use Rattle.patch_plans.specs.Extents.{Extents}

-- the extent has its pointer record, and no patch of it is known
abbrev pub unpatched_extent : Extent → Extent
unpatched_extent k = record { pointer = k.pointer; reset = None; point = None }

-- so is each one
abbrev pub unpatched : Extents → Extents
unpatched s = record s { each = map unpatched_extent s.each }
