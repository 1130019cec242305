-- When groups may begin anew.
use Rattle.std.specs.Prelude.{Bool, not, ◌&&◌, if◌then◌else◌, Option, Some, None}
use Rattle.std.specs.List.{list_any}
use Rattle.patch_model.specs.declared.refusals.Refusal.{Refusal}
use Rattle.patch_model.specs.declared.refusals.RefusalKind.TheVariants as kind
use Rattle.patch_model.specs.Refusing.{bare}
use Rattle.patch_plans.specs.Groups.{Group, Groups}

-- the group was engaged, and it wasn't closed
abbrev pub is_in_use : Group → Bool
is_in_use g = g.started && not g.closed

-- some group was
abbrev pub why_not_renewed : Groups → Option Refusal
why_not_renewed gs = if list_any is_in_use gs.groups then Some (bare kind.Live) else None
