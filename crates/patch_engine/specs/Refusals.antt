-- What the refusals of an engine tell.
use Rattle.std.specs.Prelude.{ℕ, ◌==◌, ◌||◌, not, nat_lt, if◌then◌else◌, Option, Some, None, count_by}
use Rattle.patch_model.specs.declared.limits.TheConstants.{MAX_CACHED}
use Rattle.patch_model.specs.declared.refusals.Refusal.{Refusal}
use Rattle.patch_model.specs.declared.refusals.RefusalKind.TheVariants as kind
use Rattle.patch_model.specs.Entry.{is_live}
use Rattle.patch_model.specs.Execution.{Execution}
use Rattle.patch_model.specs.State.{entries_of}
use Rattle.patch_model.specs.Refusing.{bare}
use Rattle.patch_cache.specs.Refusals.{read_cause, take_cause}
use Rattle.patch_plans.specs.Groups.{Groups}
use Rattle.patch_group.specs.Renewing.{why_not_renewed}
use Rattle.patch_engine.specs.declared.refusals.OpenRefusal.{OpenRefusal}
use Rattle.patch_engine.specs.declared.refusals.OpenRefusal.TheVariants as «open»
use Rattle.patch_engine.specs.declared.refusals.WithoutRefusal.{WithoutRefusal}
use Rattle.patch_engine.specs.declared.refusals.WithoutRefusal.TheVariants as without

abbrev pub open_cause : OpenRefusal → Refusal
open_cause «open».FileSize = bare kind.FileSize

-- why an engine of so many blocks isn't opened
abbrev pub why_not_opened : ℕ → Option Refusal
why_not_opened blocks = if blocks == 0 || nat_lt MAX_CACHED blocks then Some (bare kind.FileSize) else None

abbrev pub without_cause : WithoutRefusal → Refusal
without_cause (without.Unread refusal) = read_cause refusal
without_cause (without.Untaken refusal) = take_cause refusal

abbrev pub live_cause : Refusal
live_cause = bare kind.Live

-- why nothing begins anew: some patch is live, or some group was engaged and not closed
abbrev pub why_not_begun_anew : Execution → Groups → Option Refusal
why_not_begun_anew run groups = if not (count_by is_live (entries_of run) == 0) then Some live_cause else why_not_renewed groups
