-- What a call tells by the number that it answers.
use Rattle.std.specs.Prelude.{ℤ, pos, ◌≡◌}
use Rattle.patch_model.specs.declared.refusals.Refusal.{Refusal}
use Rattle.patch_model.specs.Refusal.{code_of}
use Rattle.patch_handles.specs.declared.answers.Answer.TheVariants.{BufferTooSmall, BadWriter}
use Rattle.patch_handles.specs.Answering.{number_of}

-- the number is 0, and it is done; or it is that of a cause, for which it is refused
pub data Tells (number : ℤ) (Done : Type 0) (Refused : Refusal → Type 0) : Type 0 where
  is_done : number ≡ pos 0 → Done → Tells number Done Refused
  is_refused : (cause : Refusal) → number ≡ pos (code_of cause.kind) → Refused cause → Tells number Done Refused

-- there is no writer of the number
abbrev pub bad_writer : ℤ
bad_writer = number_of BadWriter

-- the buffer is too small
abbrev pub too_small : ℤ
too_small = number_of BufferTooSmall
