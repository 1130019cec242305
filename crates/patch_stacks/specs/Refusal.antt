-- The causes of the refusals, by the definitions.
use Rattle.patch_model.specs.declared.refusals.Refusal.{Refusal}
use Rattle.patch_model.specs.declared.refusals.RefusalKind.TheVariants as kind
use Rattle.patch_model.specs.Refusing.{bare, with_number}
use Rattle.patch_stacks.specs.declared.refusals.TakeRefusal.{TakeRefusal}
use Rattle.patch_stacks.specs.declared.refusals.TakeRefusal.TheVariants.{Unknown, InFlight, Hard, AlreadyTaken, DependentApplied}
use Rattle.patch_stacks.specs.declared.refusals.PutBackRefusal.{PutBackRefusal}
use Rattle.patch_stacks.specs.declared.refusals.PutBackRefusal.TheVariants.{NotTaken, DependencyTaken}

-- why a class isn't taken, in the definitions' words
abbrev pub take_cause : TakeRefusal → Refusal
take_cause Unknown = bare kind.Unknown
take_cause InFlight = bare kind.InFlight
take_cause Hard = bare kind.Hard
take_cause AlreadyTaken = bare kind.AlreadyTaken
take_cause (DependentApplied n) = with_number kind.DependentApplied n

-- why a class isn't put back
abbrev pub put_back_cause : PutBackRefusal → Refusal
put_back_cause NotTaken = bare kind.NotTaken
put_back_cause (DependencyTaken n) = with_number kind.DependencyTaken n
