use Rattle.std.proofs.Common.{◌++◌, ◌∷◌, []}
use Rattle.std.specs.Io.KnownBytes.{Appends}
use Rattle.patch_listing.specs.Statting.{bars}
use Rattle.patch_listing.proofs.statting.write_picture.Given as goal

-- the extents so far were drawn
abbrev pub invariant-loop-extent : goal.invariant-loop-extent
invariant-loop-extent g l =
    Appends (g.W.Write.contents l.fn.writer.inner) (g.W.Write.contents l.writer.inner) (10 ∷ [] ++ bars l.store.shelf l.extents l.extent)
