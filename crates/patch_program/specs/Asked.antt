-- What a command line may ask for.
use Rattle.std.specs.Prelude.{ℕ, ◌<◌, ◌≤◌, List as ListOf, IfSome, length}
use Rattle.patch_frame.specs.declared.framing.TheConstants.{MAX_KEY}
use Rattle.patch_model.specs.declared.limits.TheConstants.{MAX_BLOCKS}
use Rattle.patch_program.specs.declared.arguments.Request.{Request}
use Rattle.patch_program.specs.declared.arguments.Request.TheVariants.{Replay, Make, Run, Check, List, Stat, Upgrade}

-- so many writers may have a thread each
abbrev pub AreWriters : ℕ → Type 0
AreWriters n = (0 < n) × (n ≤ 8)

-- bytes of a key, or none where it isn't given
abbrev pub IsKey : ListOf ℕ → Type 0
IsKey bytes = length bytes ≤ MAX_KEY

-- a replay has some blocks, and no more than a disk may have; a run has no more writers than may be; what a list is asked by are keys
abbrev pub MayBeAsked : Request → Type 0
MayBeAsked (Replay blocks) = (0 < blocks) × (blocks ≤ MAX_BLOCKS)
MayBeAsked (Make path geometry) = Unit {0}
MayBeAsked (Run path writers barriers reclaims) = IfSome writers AreWriters
MayBeAsked (Check path) = Unit {0}
MayBeAsked (List path from prefix values) = IsKey from.items × IsKey prefix.items
MayBeAsked (Stat path) = Unit {0}
MayBeAsked (Upgrade path) = Unit {0}
