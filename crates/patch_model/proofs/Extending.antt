-- Executions with more steps.
use Rattle.std.proofs.Common.{ℕ, List, [], ◌∷◌, ◌++◌, length}
use Rattle.patch_model.specs.Step.{Step}
use Rattle.patch_model.specs.Execution.{Execution, extended}
use Rattle.patch_model.specs.State.{State, after_step, after_steps, at_first, state_of}
use Rattle.patch_model.specs.Legal.{IsLegal, IsLegalStep, AreLegal}

AreLegal-push : (blocks : ℕ) (st : State) (steps : List Step) (step : Step) → AreLegal blocks st steps → IsLegalStep blocks (after_steps st steps) step
    → AreLegal blocks st (steps ++ step ∷ [])
AreLegal-push blocks st [] step h legal = (legal, tt)
AreLegal-push blocks st (s ∷ ss) step h legal = (h.0, AreLegal-push blocks (after_step st s) ss step h.1 legal)

pub IsLegal-extended : (run : Execution) (step : Step) → IsLegal run → IsLegalStep (length run.first) (state_of run) step → IsLegal (extended run step)
IsLegal-extended run step h legal = record { some = h.some; few = h.few; blocks = h.blocks; steps = AreLegal-push (length run.first) at_first run.steps step h.steps legal }
