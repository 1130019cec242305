-- The steps of a plan.
use Rattle.std.specs.Prelude.{ℕ, zero, suc, Bool, true, false, ◌+◌, ◌==◌, if◌then◌else◌, List, [], ◌∷◌, ◌++◌, Option, Some, None, option_to_list}
use Rattle.patch_model.specs.Step.{Step, Merge}
use Rattle.patch_plans.specs.Groups.{Groups, named, with_patch}
use Rattle.patch_recovery.specs.Change.{Change, Data, Point, Fill, Clear, Widen, Made, step_of, widened}
use Rattle.patch_plans.specs.Extents.{Extents, extent_at, after_point}

-- the extents after a change by the patch n
abbrev pub after_change : Extents → ℕ → Change → Extents
after_change s n (Data extent offset bytes) = s
after_change s n (Point extent generation offset) = after_point s n extent generation offset
after_change s n (Fill slot fields) = s
after_change s n (Clear slot) = s
after_change s n Widen = record s { geometry = widened s.geometry }

-- and after those of a plan, the first of them by the patch n
abbrev pub after_plan : Extents → ℕ → List Made → Extents
after_plan s n [] = s
after_plan s n (m ∷ plan) = after_plan (after_change s n m.change) (n + 1) plan

-- the groups after so many patches of this writer, the first of them the patch n
abbrev pub with_patches : Groups → Option ℕ → (n count : ℕ) → Groups
with_patches gs writer n zero = gs
with_patches gs writer n (suc count) = with_patches (with_patch gs writer n) writer (n + 1) count

-- a writer's plan with what its groups make each patch name
abbrev pub named_plan : Groups → Option ℕ → ℕ → List Made → List Made
named_plan gs writer n [] = []
named_plan gs writer n (m ∷ plan) = record m { after = named gs writer m.after } ∷ named_plan (with_patch gs writer n) writer (n + 1) plan

abbrev pub merge_with : ℕ → Option ℕ → Option Step
merge_with n None = None
merge_with n (Some before) = Some (Merge before n)

-- Behind the patch n of an append's pointer record comes its merge with the record's last patch, where there is one.
abbrev pub merge_behind : Extents → ℕ → Change → Option Step
merge_behind s n (Data extent offset bytes) = None
merge_behind s n (Point extent generation offset) = if offset == 0 then None else merge_with n (extent_at s extent).point
merge_behind s n (Fill slot fields) = None
merge_behind s n (Clear slot) = None
merge_behind s n Widen = None

-- a patch, and the merge that may follow it
pub record Written : Type 0 where
  pub create : Step
  pub merge : Option Step

-- a plan as it is written, where n patches were made before
abbrev pub written : Extents → ℕ → List Made → List Written
written s n [] = []
written s n (m ∷ plan) =
    record { create = step_of s.geometry m; merge = merge_behind s n m.change } ∷ written (after_change s n m.change) (n + 1) plan

-- The steps: each patch, and behind it its merge, where it has one and the merge is made. Which merges are made is a choice that
-- the steps show: those that are legal, but where memory ran out.
abbrev pub steps_by : (choices : List Bool) → List Written → List Step
steps_by choices [] = []
steps_by [] (w ∷ ws) = w.create ∷ steps_by [] ws
steps_by (true ∷ choices) (w ∷ ws) = w.create ∷ (option_to_list w.merge ++ steps_by choices ws)
steps_by (false ∷ choices) (w ∷ ws) = w.create ∷ steps_by choices ws

-- the steps of a writer's plan
abbrev pub steps_of : (choices : List Bool) → Extents → Groups → Option ℕ → ℕ → List Made → List Step
steps_of choices s gs writer n plan = steps_by choices (written s n (named_plan gs writer n plan))
