-- What a call of the store tells by a number.
use Rattle.std.proofs.Common.{◌≡◌, ℕ, ℤ}
use Rattle.patch_history.specs.Command.{Command, Reply}
use Rattle.patch_store.specs.Meaning.{Store, Answers}
use Rattle.patch_handles.specs.Answering.{number_of}
use Rattle.patch_c.specs.Answering.{answer_of, carried, Tells, TellsOf}

-- by its reply
pub tells_so : (writer : ℕ) (command : Command) (reply : Reply) (number : ℤ) (old new : Store) → number ≡ number_of (answer_of reply)
    → Answers writer command reply old new → Tells writer command number old new
tells_so writer command reply number old new is answers = λ h represents.
    record { reply = reply; number_is = is; answered = answers h represents }

-- and by the number that it carries
pub tells_of : (writer : ℕ) (command : Command) (reply : Reply) (number : ℤ) (before now : ℕ) (old new : Store) → number ≡ number_of (answer_of reply)
    → now ≡ carried reply before → Answers writer command reply old new → TellsOf writer command number before now old new
tells_of writer command reply number before now old new is carries answers = λ h represents.
    record { reply = reply; number_is = is; now_is = carries; answered = answers h represents }
