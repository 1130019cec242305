use Rattle.std.specs.Prelude.{◌≡◌, ◌++◌, map, take, drop}
use Rattle.patch_extent.specs.Renewing.{unpatched_extent}
use Rattle.patch_extent.proofs.renewing.forget_patches.Given as goal

-- the first ones are done, and the others are as they were
abbrev pub invariant-loop-extent : goal.invariant-loop-extent
invariant-loop-extent l = l.each ≡ map unpatched_extent (take l.extent-index l.fn.each) ++ drop l.extent-index l.fn.each
