-- The replies that the calls of a store come to.
use Rattle.std.specs.Prelude.{Result, Ok, Err}
use Rattle.patch_model.specs.declared.refusals.Refusal.{Refusal}
use Rattle.patch_history.specs.Command.{Reply, Refused}

-- what a call that was done answers, or that it was refused
abbrev pub reply_to : {X E : Type 0} → (E → Refusal) → (X → Reply) → Result X E → Reply
reply_to cause done (Ok x) = done x
reply_to cause done (Err refusal) = Refused (cause refusal)
