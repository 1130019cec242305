-- The numbers of answers, and of writers.
use Rattle.std.specs.Prelude.{ℕ, ℤ, pos, negsuc, ◌≡◌, ◌==◌, nat_lt, if◌then◌else◌, Option, Some, None, Result, Ok, Err}
use Rattle.patch_model.specs.declared.refusals.Refusal.{Refusal as Cause}
use Rattle.patch_model.specs.Refusal.{code_of}
use Rattle.patch_handles.specs.declared.answers.Answer.{Answer}
use Rattle.patch_handles.specs.declared.answers.Answer.TheVariants.{Done, Refused, BufferTooSmall, Absent, NoSync, BadWriter, IsResident}

-- the number of an answer
abbrev pub number_of : Answer → ℤ
number_of Done = pos 0
number_of (Refused kind) = pos (code_of kind)
number_of BufferTooSmall = negsuc 3
number_of Absent = negsuc 4
number_of NoSync = negsuc 6
number_of BadWriter = negsuc 7
number_of IsResident = negsuc 19

-- this is said of the answer of the number
abbrev pub IsOf : ℤ → (Answer → Type 0) → Type 0
IsOf number Said = (answer : Answer) × (number ≡ number_of answer) × Said answer

-- what is answered to a call that tells nothing but whether it is refused
abbrev pub answer_to : {E : Type 0} → (cause : E → Cause) → Result (Unit {0}) E → Answer
answer_to cause (Ok done) = Done
answer_to cause (Err refusal) = Refused (cause refusal).kind

-- the number that goes with a refusal, or what stood there before
abbrev pub number_told : Cause → ℕ → ℕ
number_told refusal before = elim refusal.number [ Some number ↦ number | None ↦ before ]

-- the writers that may engage groups have the numbers 0 to 6
abbrev pub engaging_writer : ℕ → Option ℕ
engaging_writer number = if nat_lt number 7 then Some number else None

-- a put or a delete is by one of them, or by the one that engages none
abbrev pub writer_of : ℕ → Option ℕ
writer_of number = if number == 4294967295 then Some 7 else engaging_writer number

-- a patch is by one of them, or by none
abbrev pub patching_writer : ℕ → Option (Option ℕ)
patching_writer number =
    if number == 4294967295 then Some None
    else if nat_lt number 7 then Some (Some number)
    else None
