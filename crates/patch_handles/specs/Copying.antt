-- What is copied into a caller's buffer.
use Rattle.std.specs.Prelude.{ℕ, ◌++◌, nat_le, if◌then◌else◌, List, length, drop}
use Rattle.patch_handles.specs.declared.answers.Answer.{Answer}
use Rattle.patch_handles.specs.declared.answers.Answer.TheVariants.{Done, BufferTooSmall}

-- a buffer with these at its front, where they fit it
abbrev pub copied : (bytes into : List ℕ) → List ℕ
copied bytes into = if nat_le (length bytes) (length into) then bytes ++ drop (length bytes) into else into

-- and whether they do
abbrev pub answer_copying : (bytes into : List ℕ) → Answer
answer_copying bytes into = if nat_le (length bytes) (length into) then Done else BufferTooSmall
