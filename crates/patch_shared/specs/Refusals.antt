-- What the causes for which serving ends tell.
use Rattle.patch_model.specs.declared.refusals.RefusalKind.TheVariants as kind
use Rattle.patch_model.specs.declared.refusals.Refusal.{Refusal}
use Rattle.patch_model.specs.Refusing.{bare, with_number}
use Rattle.patch_shared.specs.declared.faults.Cause.{Cause}
use Rattle.patch_shared.specs.declared.faults.Cause.TheVariants as serving

abbrev pub serve_cause : Cause → Refusal
serve_cause (serving.DeviceGaveUp block) = with_number kind.DeviceGaveUp block
serve_cause serving.SyncFailed = bare kind.SyncFailed
serve_cause serving.Disagreed = bare kind.Disagreed
serve_cause (serving.ReadBack block) = with_number kind.ReadBack block
serve_cause serving.NoThread = bare kind.NoThread
serve_cause serving.OutOfMemory = bare kind.OutOfMemory
