-- The steps of a plan whose changes are well made leave a store.
use Rattle.std.proofs.Common.{◌≡◌, ◌+◌, ℕ, List, [], ◌∷◌, ◌++◌, Bool, true, false, refl, sym, ap, subst, inl, inr}
use Rattle.std.proofs.lemmas.Bool.{cases_Bool}
use Rattle.std.proofs.lemmas.List.{append_assoc, append-nil}
use Rattle.std.specs.Prelude.{Option, Some, None, option_to_list, IsTrue, ◌==◌}
use Rattle.patch_model.specs.Step.{Step}
use Rattle.patch_model.specs.Execution.{Execution, extended, followed_by}
use Rattle.patch_recovery.specs.Change.{Change, Data, Point, Fill, Clear, Widen, Made, step_of}
use Rattle.patch_recovery.specs.Ledger.{Ledger}
use Rattle.patch_recovery.specs.Store.{IsOfStore, StoresGrow, OtherStepsLeaveStores, makes_nothing}
use Rattle.patch_plans.specs.Extents.{Extents, extent_at}
use Rattle.patch_plans.specs.Writing.{after_change, merge_behind, merge_with, written, steps_by}
use Rattle.patch_history.specs.StoreState.{onto}
use Rattle.patch_history.specs.Steps.{PlanFits, PlansAreOfStores}

-- a merge makes no patch
abbrev NothingIf : Option Step → Type 0
NothingIf None = Unit {0}
NothingIf (Some step) = IsTrue (makes_nothing step)

merge_with_nothing : (n : ℕ) (o : Option ℕ) → NothingIf (merge_with n o)
merge_with_nothing n None = tt
merge_with_nothing n (Some before) = refl

merge_nothing : (s : Extents) (n : ℕ) (c : Change) → NothingIf (merge_behind s n c)
merge_nothing s n (Data extent offset bytes) = tt
merge_nothing s n (Point extent generation offset) =
    elim (cases_Bool (offset == 0)) [ inl u ↦ rw u tt | inr u ↦ rw u (merge_with_nothing n (extent_at s extent).point) ]
merge_nothing s n (Fill slot fields) = tt
merge_nothing s n (Clear slot) = tt
merge_nothing s n Widen = tt

-- steps one after another
followed_by-∷ : (run : Execution) (step : Step) (steps : List Step)
    → followed_by (extended run step) steps ≡ followed_by run (step ∷ steps)
followed_by-∷ run step steps = ap (λ all. record run { steps = all }) (append_assoc run.steps (step ∷ []) steps)

module _ (grow : StoresGrow) (others : OtherStepsLeaveStores) (first : Ledger) where
  after_merge : (run : Execution) (made later : List Made) (o : Option Step) (steps : List Step) → NothingIf o
      → IsOfStore run first made
      → ((run : Execution) → IsOfStore run first made → IsOfStore (followed_by run steps) first later)
      → IsOfStore (followed_by run (option_to_list o ++ steps)) first later
  after_merge run made later None steps nothing is go = go run is
  after_merge run made later (Some step) steps nothing is go =
      subst (λ all. IsOfStore all first later) (followed_by-∷ run step steps)
      (go (extended run step) (others run first made step nothing is))

  made_one : (run : Execution) (s : Extents) (made : List Made) (n : ℕ) (m : Made) (plan : List Made)
      → PlanFits first s n made (m ∷ plan) → IsOfStore run first made
      → IsOfStore (extended run (step_of s.geometry m)) first (m ∷ made)
  made_one run s made n m plan fits is =
      subst (λ step. IsOfStore (extended run step) first (m ∷ made)) (sym fits.0) (grow run first m made is fits.1)

  walk : (choices : List Bool) (plan : List Made) (run : Execution) (s : Extents) (n : ℕ) (made : List Made)
      → PlanFits first s n made plan → IsOfStore run first made
      → IsOfStore (followed_by run (steps_by choices (written s n plan))) first (onto plan made)
  walk choices [] run s n made fits is =
      subst (λ steps. IsOfStore (record run { steps = steps }) first made) (sym (append-nil run.steps)) is
  walk [] (m ∷ plan) run s n made fits is =
      subst (λ all. IsOfStore all first (onto plan (m ∷ made)))
      (followed_by-∷ run (step_of s.geometry m) (steps_by [] (written (after_change s n m.change) (n + 1) plan)))
      (walk [] plan (extended run (step_of s.geometry m)) (after_change s n m.change) (n + 1) (m ∷ made) fits.2 (made_one run s made n m plan fits is))
  walk (false ∷ choices) (m ∷ plan) run s n made fits is =
      subst (λ all. IsOfStore all first (onto plan (m ∷ made)))
      (followed_by-∷ run (step_of s.geometry m) (steps_by choices (written (after_change s n m.change) (n + 1) plan)))
      (walk choices plan (extended run (step_of s.geometry m)) (after_change s n m.change) (n + 1) (m ∷ made) fits.2 (made_one run s made n m plan fits is))
  walk (true ∷ choices) (m ∷ plan) run s n made fits is =
      let rest = steps_by choices (written (after_change s n m.change) (n + 1) plan) in
      subst (λ all. IsOfStore all first (onto plan (m ∷ made)))
      (followed_by-∷ run (step_of s.geometry m) (option_to_list (merge_behind s n m.change) ++ rest))
      (after_merge (extended run (step_of s.geometry m)) (m ∷ made) (onto plan (m ∷ made)) (merge_behind s n m.change) rest (merge_nothing s n m.change) (made_one run s made n m plan fits is)
      (λ run is. walk choices plan run (after_change s n m.change) (n + 1) (m ∷ made) fits.2 is))

pub plans_are_of_stores : StoresGrow → OtherStepsLeaveStores → PlansAreOfStores
plans_are_of_stores grow others run first s n made plan choices fits is =
    walk grow others first choices plan run s n made fits is
