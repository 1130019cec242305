-- What is told of groups.
use Rattle.std.specs.Prelude.{ℕ, ℤ, ◌≡◌, length, Option, Some, None, MatchOption}
use Rattle.std.specs.Global.{Global}
use Rattle.patch_model.specs.declared.refusals.Refusal.{Refusal}
use Rattle.patch_model.specs.Execution.{Execution}
use Rattle.patch_model.specs.State.{entries_of}
use Rattle.patch_cache.specs.Refusals.{IsCause}
use Rattle.patch_plans.specs.Groups.{Groups, why_not_begun, why_not_engaged, why_not_disengaged, why_not_ordered, why_not_closed, why_not_counted, begun, engaged, disengaged, ordered, closed, pending}
use Rattle.patch_engine.specs.Meaning.{IsEngineOf, KeepsCache}
use Rattle.patch_engine.specs.declared.engines.Engine.{Engine}
use Rattle.patch_handles.specs.Answering.{engaging_writer}
use Rattle.patch_engine_c.specs.Answering.{Tells, bad_writer}

-- no cause stands against it: the groups are these, all else is as it was, and the engine stands for the same executions
pub record IsRegrouped (why : Option Refusal) (groups : Groups) (old new : Engine Global) : Type 0 where
  pub allowed : why ≡ None
  pub groups_are : new.groups ≡ groups
  pub rest : KeepsCache old new
  pub stands : (run : Execution) → IsEngineOf old run → IsEngineOf new run

-- the number of the new group then stands where another did before
abbrev pub TellsGroup : (number : ℤ) → (before now : ℕ) → (old new : Engine Global) → Type 0
TellsGroup number before now old new = Tells number
    (IsRegrouped (why_not_begun old.groups) (begun old.groups) old new × (now ≡ length old.groups.groups))
    (λ cause. IsCause (why_not_begun old.groups) cause × (new ≡ old) × (now ≡ before))

-- the groups become these, or a cause stands against it
abbrev pub TellsRegrouping : (number : ℤ) → Option Refusal → Groups → (old new : Engine Global) → Type 0
TellsRegrouping number why groups old new = Tells number (IsRegrouped why groups old new) (λ cause. (why ≡ Some cause) × (new ≡ old))

-- or there was no memory
abbrev pub TellsWithMemory : (number : ℤ) → Option Refusal → Groups → (old new : Engine Global) → Type 0
TellsWithMemory number why groups old new = Tells number (IsRegrouped why groups old new) (λ cause. IsCause why cause × (new ≡ old))

-- or there is no such writer, which goes before all else
abbrev pub TellsBadWriter : (number : ℤ) → (old new : Engine Global) → Type 0
TellsBadWriter number old new = (number ≡ bad_writer) × (new ≡ old)

abbrev pub TellsEngaging : (number : ℤ) → (group writer : ℕ) → (old new : Engine Global) → Type 0
TellsEngaging number group writer old new = MatchOption (engaging_writer writer) (TellsBadWriter number old new)
    (λ no. TellsWithMemory number (why_not_engaged old.groups no group) (engaged old.groups no group) old new)

abbrev pub TellsDisengaging : (number : ℤ) → (group writer : ℕ) → (old new : Engine Global) → Type 0
TellsDisengaging number group writer old new = MatchOption (engaging_writer writer) (TellsBadWriter number old new)
    (λ no. TellsRegrouping number (why_not_disengaged old.groups no group) (disengaged old.groups no group) old new)

abbrev pub TellsDepending : (number : ℤ) → (later earlier : ℕ) → (old new : Engine Global) → Type 0
TellsDepending number later earlier old new = TellsWithMemory number (why_not_ordered old.groups later earlier) (ordered old.groups later earlier) old new

abbrev pub TellsClosing : (number : ℤ) → (group : ℕ) → (old new : Engine Global) → Type 0
TellsClosing number group old new = TellsRegrouping number (why_not_closed old.groups group) (closed old.groups group) old new

-- how many patches of the group aren't on the disk yet
abbrev pub TellsPending : (number : ℤ) → (group : ℕ) → (before now : ℕ) → Engine Global → Type 0
TellsPending number group before now engine = (run : Execution) → IsEngineOf engine run → Tells number
    ((why_not_counted engine.groups group ≡ None) × (now ≡ pending (entries_of run) engine.groups group))
    (λ cause. (why_not_counted engine.groups group ≡ Some cause) × (now ≡ before))
