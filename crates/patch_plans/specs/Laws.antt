-- Laws of plans.
use Rattle.std.specs.Prelude.{ℕ, Bool, ◌≡◌, ◌+◌, List, ◌++◌, length, Option}
use Rattle.patch_recovery.specs.Change.{Made}
use Rattle.patch_plans.specs.Groups.{Groups}
use Rattle.patch_plans.specs.Extents.{Extents}
use Rattle.patch_plans.specs.Writing.{after_plan, with_patches, steps_of}

-- the steps of two plans, one after the other, are those of the first and then those of the second
abbrev pub PlansJoin : Type 0
PlansJoin =
    (s : Extents) (gs : Groups) (w : Option ℕ) (n : ℕ) (p q : List Made) (cs ds : List Bool) → length cs ≡ length p
    → steps_of (cs ++ ds) s gs w n (p ++ q)
    ≡ steps_of cs s gs w n p ++ steps_of ds (after_plan s n p) (with_patches gs w n (length p)) w (n + length p) q
