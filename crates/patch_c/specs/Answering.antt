-- What answers tell of a store.
use Rattle.std.specs.Prelude.{ℕ, ℤ, pos, ◌≡◌, ◌≢◌}
use Rattle.patch_history.specs.Command.{Command, Reply}
use Rattle.patch_history.specs.Command as reply
use Rattle.patch_history.specs.History.{History}
use Rattle.patch_store.specs.Meaning.{Store, IsStoreOf, HasAnswered}
use Rattle.patch_handles.specs.declared.answers.Answer.{Answer}
use Rattle.patch_handles.specs.declared.answers.Answer.TheVariants.{Done, Refused, Absent}
use Rattle.patch_handles.specs.Answering.{number_of}

-- what a reply comes to
abbrev pub answer_of : Reply → Answer
answer_of reply.Done = Done
answer_of (reply.Value bytes) = Done
answer_of reply.Absent = Absent
answer_of (reply.GroupMade group) = Done
answer_of (reply.Count count) = Done
answer_of (reply.Refused refusal) = Refused refusal.kind

-- the number that a reply carries, or what stood there before
abbrev pub carried : Reply → ℕ → ℕ
carried (reply.GroupMade group) before = group
carried (reply.Count count) before = count
carried _ before = before

-- Behind the history a call was answered, and this is the number of its reply.
pub record HasTold (h : History) (writer : ℕ) (command : Command) (number : ℤ) (old new : Store) : Type 0 where
  pub reply : Reply
  pub number_is : number ≡ number_of (answer_of reply)
  pub answered : HasAnswered h writer command reply old new

-- so it was, behind each history that the store represented
abbrev pub Tells : (writer : ℕ) → Command → (number : ℤ) → (old new : Store) → Type 0
Tells writer command number old new = (h : History) → IsStoreOf old h → HasTold h writer command number old new

-- and the reply carries what then stands here, where it carries a number
pub record HasTellingOf (h : History) (writer : ℕ) (command : Command) (number : ℤ) (before now : ℕ) (old new : Store) : Type 0 where
  pub reply : Reply
  pub number_is : number ≡ number_of (answer_of reply)
  pub now_is : now ≡ carried reply before
  pub answered : HasAnswered h writer command reply old new

abbrev pub TellsOf : (writer : ℕ) → Command → (number : ℤ) → (before now : ℕ) → (old new : Store) → Type 0
TellsOf writer command number before now old new =
    (h : History) → IsStoreOf old h → HasTellingOf h writer command number before now old new

-- what was refused for want of memory aside, a call that is refused leaves the store as it was
abbrev pub KeepsIfRefused : (number : ℤ) → (old new : Store) → Type 0
KeepsIfRefused number old new = number ≢ pos 0 → number ≢ pos 1 → new ≡ old

-- and any call that is refused
abbrev pub KeepsUnlessDone : (number : ℤ) → (old new : Store) → Type 0
KeepsUnlessDone number old new = number ≢ pos 0 → new ≡ old
