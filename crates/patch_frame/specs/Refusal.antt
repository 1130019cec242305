-- What the refusals come to.
use Rattle.patch_model.specs.declared.refusals.Refusal.{Refusal}
use Rattle.patch_model.specs.declared.refusals.RefusalKind.TheVariants as kind
use Rattle.patch_model.specs.Refusing.{bare}
use Rattle.patch_frame.specs.declared.faults.FrameFault.{FrameFault}
use Rattle.patch_frame.specs.declared.faults.FrameFault.TheVariants.{BadMagic, BadKey, BadValue, Short, NotZero}
use Rattle.patch_frame.specs.declared.runs.FramesRefusal.{FramesRefusal}
use Rattle.patch_frame.specs.declared.runs.FramesRefusal.TheVariants.{Fault, OutOfMemory}

abbrev pub fault_cause : FrameFault → Refusal
fault_cause BadMagic = bare kind.BadMagic
fault_cause BadKey = bare kind.BadKey
fault_cause BadValue = bare kind.BadValue
fault_cause Short = bare kind.Short
fault_cause NotZero = bare kind.NotZero

-- of a run of frames
abbrev pub run_cause : FramesRefusal → Refusal
run_cause (Fault fault) = fault_cause fault
run_cause OutOfMemory = bare kind.OutOfMemory
