-- All that ever happened to the blocks.
use Rattle.std.specs.Prelude.{ℕ, List, [], ◌∷◌, ◌++◌, take}
use Rattle.patch_model.specs.Step.{Step}

-- what the blocks held at first, and the steps since, the oldest first
pub record Execution : Type 0 where
  pub first : List (List ℕ)
  pub steps : List Step

-- the execution with one more step
abbrev pub extended : Execution → Step → Execution
extended run step = record run { steps = run.steps ++ step ∷ [] }

-- the execution with these steps at its end
abbrev pub followed_by : Execution → List Step → Execution
followed_by run steps = record run { steps = run.steps ++ steps }

-- the execution as it was after so many steps
abbrev pub cut : ℕ → Execution → Execution
cut n run = record run { steps = take n run.steps }
