use Rattle.std.proofs.Common.{◌≡◌, ◌++◌}
use Rattle.std.specs.Prelude.{string_bytes}
use Rattle.patch_listing.specs.Pictures.{marks}
use Rattle.patch_listing.proofs.pictures.push_marks.Given as goal

-- the columns so far were written
abbrev pub invariant-loop-column : goal.invariant-loop-column
invariant-loop-column l = string_bytes l.out ≡ string_bytes l.fn.out ++ marks l.live l.written l.column
