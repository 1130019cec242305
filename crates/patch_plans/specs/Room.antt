-- Whether there is room for the patches of a plan.
use Rattle.std.specs.Prelude.{ℕ, ◌+◌, nat_lt, if◌then◌else◌, Option, Some, None}
use Rattle.patch_model.specs.declared.limits.TheConstants.{MAX_PATCHES, MAX_LIVE}
use Rattle.patch_model.specs.declared.refusals.RefusalKind.TheVariants as kind
use Rattle.patch_model.specs.declared.refusals.Refusal.{Refusal}
use Rattle.patch_model.specs.Refusing.{bare}

-- why so many more patches aren't made, where so many were made and so many are live
abbrev pub why_no_room : (made live count : ℕ) → Option Refusal
why_no_room made live count =
    if nat_lt MAX_PATCHES (made + count) then Some (bare kind.NumbersSpent)
    else if nat_lt MAX_LIVE (live + count) then Some (bare kind.TooManyLive)
    else None
