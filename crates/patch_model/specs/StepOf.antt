-- The steps of the code.
use Rattle.patch_model.specs.Step.{Step, Create, Merge, Send, Complete}
use Rattle.patch_model.specs.declared.steps.Step.{Step as CodeStep}
use Rattle.patch_model.specs.declared.steps.Step.TheVariants as code

-- the step that a value of the code is
abbrev pub step_of : {A : Type 0} → CodeStep A → Step
step_of (code.Create block start bytes after undo) = Create block start bytes after undo
step_of (code.Merge a b) = Merge a b
step_of (code.Send block) = Send block
step_of (code.Complete block) = Complete block
