-- How the lines of a script are answered: each by a call of the store, or by those of a put that wins room back, some with writes behind.
use Rattle.std.specs.Prelude.{ℕ, Bool, ◌≡◌, ◌++◌, ◌&&◌, not, List, [], ◌∷◌, MatchBool, MatchOption, if◌then◌else◌}
use Rattle.patch_model.specs.Step.{Step}
use Rattle.patch_cache.specs.Waves.{IsFlushed}
use Rattle.patch_history.specs.Command.{Command, Reply, Put, is_refused}
use Rattle.patch_history.specs.History.{History, Event, Call, execution_of, with_event}
use Rattle.patch_room.specs.Putting.{IsPut}
use Rattle.patch_store.specs.Flushing.{with_writes}
use Rattle.patch_store.specs.Running.{with_calls}
use Rattle.patch_commands.specs.Asking.{call_of}
use Rattle.patch_commands.specs.Reply.{reply_line, synced_line}
use Rattle.patch_commands.specs.Shared.{is_sync}
use Rattle.patch_commands.specs.declared.commands.CommandLine.{CommandLine}
use Rattle.patch_disks.specs.declared.answering.Reclaims.{Reclaims}
use Rattle.patch_disks.specs.declared.answering.Reclaims.TheVariants.{ByHand, ByItself}

-- the line brings all patches to the disk behind its call: a sync whose group is there
abbrev pub saves : CommandLine → Reply → Bool
saves asked reply = is_sync asked && not (is_refused reply)

-- the text of its answer
abbrev pub text_of : CommandLine → Reply → List ℕ
text_of asked reply = if saves asked reply then synced_line else reply_line reply

-- the history with a call at its end
abbrev pub with_call : History → ℕ × Command → Reply → List Step → History
with_call h call reply steps = with_event h (Call call.0 call.1 reply steps)

-- one call, with the steps that it took
abbrev pub IsOneCall : ℕ × Command → Reply → List Event → Type 0
IsOneCall call reply calls = (steps : List Step) × (calls ≡ Call call.0 call.1 reply steps ∷ [])

-- those of a writer's command that wins room back: a put makes those of a put in room, and any other command is one
abbrev pub AreCallsInRoom : History → (writer : ℕ) → Command → Reply → List Event → Type 0
AreCallsInRoom h writer (Put key value) reply calls = IsPut h 2 writer (record { key = key; value = value }) reply calls
AreCallsInRoom h writer command reply calls = IsOneCall (writer, command) reply calls

-- The calls that a command comes to behind the history, where room is won back so.
abbrev pub AreCallsOf : Reclaims → History → ℕ × Command → Reply → List Event → Type 0
AreCallsOf ByHand h call reply calls = IsOneCall call reply calls
AreCallsOf ByItself h call reply calls = AreCallsInRoom h call.0 call.1 reply calls

-- all patches were brought to the disk: behind these writes nothing is left to be written
pub record IsSaved (h new : History) : Type 0 where
  pub writes : List Step
  pub new_is : new ≡ with_writes h writes
  pub flushed : IsFlushed (execution_of new)

-- A line was answered by a command: its calls were made, and where the line saves, all patches were brought to the disk.
pub record IsCallAnswered (r : Reclaims) (h : History) (asked : CommandLine) (call : ℕ × Command) (text : List ℕ) (new : History) : Type 0 where
  pub reply : Reply
  pub calls : List Event
  pub are : AreCallsOf r h call reply calls
  pub told : text ≡ text_of asked reply
  pub goes_on : MatchBool (saves asked reply) (IsSaved (with_calls h calls) new) (new ≡ with_calls h calls)

-- a line was answered: by its command, or, where it asks for none, all patches were brought to the disk
abbrev pub IsAnswered : Reclaims → History → CommandLine → List ℕ → History → Type 0
IsAnswered r h asked text new =
    MatchOption (call_of asked) ((text ≡ synced_line) × IsSaved h new) (λ call. IsCallAnswered r h asked call text new)

-- lines were answered, one after another
abbrev pub AreAnswered : Reclaims → History → List CommandLine → List ℕ → History → Type 0
AreAnswered r h [] text last = (text ≡ []) × (last ≡ h)
AreAnswered r h (asked ∷ lines) text last =
    (next : History) × (first : List ℕ) × (rest : List ℕ) × IsAnswered r h asked first next × (text ≡ first ++ rest) × AreAnswered r next lines rest last
