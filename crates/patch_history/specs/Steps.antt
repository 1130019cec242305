-- The steps of plans: one behind another, some first ones, and what they make of a store.
use Rattle.std.specs.Prelude.{ℕ, Bool, ◌≡◌, ◌≢◌, ◌<◌, ◌+◌, List, [], ◌∷◌, ◌++◌, length, take, Option, None}
use Rattle.patch_model.specs.Step.{Step}
use Rattle.patch_model.specs.Execution.{Execution, followed_by}
use Rattle.patch_frame.specs.declared.geometries.Format.TheVariants.{One}
use Rattle.patch_frame.specs.declared.geometries.Geometry.{Geometry}
use Rattle.patch_frame.specs.Frame.{Content, spelling}
use Rattle.patch_recovery.specs.Change.{Made, step_of, widened}
use Rattle.patch_recovery.specs.Ledger.{Ledger}
use Rattle.patch_recovery.specs.Orders.{IsWellMade}
use Rattle.patch_recovery.specs.Store.{IsOfStore}
use Rattle.patch_plans.specs.Extents.{Extents}
use Rattle.patch_plans.specs.Planning.{append_plan}
use Rattle.patch_plans.specs.Writing.{after_change, after_plan, with_patches, named_plan, Written, written}
use Rattle.patch_plans.specs.Writing.{steps_by, steps_of}
use Rattle.patch_history.specs.Shelf.{Shelf}
use Rattle.patch_history.specs.Shelf as shelves
use Rattle.patch_history.specs.Planning.{frame_plan, fill_plan}
use Rattle.patch_history.specs.StoreState.{Standing, made_by, onto}
use Rattle.patch_history.specs.History.{IsWhole, IsCut}

-- How the calls of the extents make up a frame's steps.

-- a frame that a writer, or none, puts into an extent and names by a slot, in a store that stands so
pub record FramePut : Type 0 where
  pub standing : Standing
  pub writer : Option ℕ
  pub extent : ℕ
  pub slot : ℕ
  pub content : Content

-- the number of its first patch
abbrev pub first_of : FramePut → ℕ
first_of f = made_by f.standing

-- what its append makes
abbrev pub appended : FramePut → List Made
appended f = append_plan f.standing.shelf.extents (first_of f) f.extent (spelling f.content) []

-- what names it then
abbrev pub filled : FramePut → Made
filled f = fill_plan f.standing.shelf (first_of f) f.extent f.slot f.content

-- the steps of some first changes of its append, with the merges that the choices say
abbrev pub steps_made : FramePut → (choices : List Bool) → List Made → List Step
steps_made f choices plan =
    steps_of choices f.standing.shelf.extents f.standing.groups f.writer (first_of f) plan

-- the slot's step, behind the append
abbrev pub slot_steps : FramePut → List Step
slot_steps f =
    steps_of [] (after_plan f.standing.shelf.extents (first_of f) (appended f))
    (with_patches f.standing.groups f.writer (first_of f) (length (appended f))) f.writer
    (first_of f + length (appended f)) (filled f ∷ [])

-- the whole plan
abbrev pub framed : FramePut → List Made
framed f =
    named_plan f.standing.groups f.writer (first_of f)
    (frame_plan f.standing.shelf (first_of f) f.extent f.slot f.content)

-- an append that was done, and the slot's patch behind it, are the whole of it
abbrev pub FramesCompose : Type 0
FramesCompose =
    (f : FramePut) (choices : List Bool) → length choices ≡ length (appended f)
    → IsWhole f.standing (framed f) (steps_made f choices (appended f) ++ slot_steps f)

-- without the slot's patch they are some first steps of it
abbrev pub AppendsAreCuts : Type 0
AppendsAreCuts =
    (f : FramePut) (choices : List Bool) → length choices ≡ length (appended f)
    → IsCut f.standing (framed f) (steps_made f choices (appended f))

-- and so are some first patches of the append
abbrev pub BegunAppendsAreCuts : Type 0
BegunAppendsAreCuts =
    (f : FramePut) (count : ℕ) → count < length (appended f)
    → IsCut f.standing (framed f) (steps_made f [] (take count (appended f)))

-- How plans of no writer go on: a reclaim's moves, one after another.

-- a store that stands behind a plan: its extents are those after it, and so many more patches were made
pub record StandsBehind (st : Standing) (plan : List Made) (later : Standing) : Type 0 where
  pub extents : later.shelf.extents ≡ after_plan st.shelf.extents (made_by st) plan
  pub made : made_by later ≡ made_by st + length plan

-- the extents of a shelf behind a plan are those behind it
abbrev pub ShelvesGoOn : Type 0
ShelvesGoOn =
    (s : Shelf) (n : ℕ) (plan : List Made) → (shelves.after_plan s n plan).extents ≡ after_plan s.extents n plan

-- all steps of a plan, and all of one behind it, are all of both
abbrev pub WholesJoin : Type 0
WholesJoin =
    (st later : Standing) (p q : List Made) (steps more : List Step) → StandsBehind st p later → IsWhole st p steps
    → IsWhole later q more → IsWhole st (p ++ q) (steps ++ more)

-- and some first ones of the second make some first ones of both
abbrev pub CutsJoin : Type 0
CutsJoin =
    (st later : Standing) (p q : List Made) (steps more : List Step) → StandsBehind st p later → IsWhole st p steps
    → IsCut later q more → IsCut st (p ++ q) (steps ++ more)

-- so does the first alone, where there is a second
abbrev pub WholesAreCuts : Type 0
WholesAreCuts =
    (st : Standing) (p q : List Made) (steps : List Step) → q ≢ [] → IsWhole st p steps → IsCut st (p ++ q) steps

-- Some first steps of a plan.

-- behind the last patch comes no merge
abbrev pub EndsPlainly : List Written → Type 0
EndsPlainly [] = Unit {0}
EndsPlainly (w ∷ []) = w.merge ≡ None
EndsPlainly (w ∷ v ∷ ws) = EndsPlainly (v ∷ ws)

-- the steps are those of some first patches, and not of all
abbrev pub IsFirst : List Written → List Step → Type 0
IsFirst ws steps = (choices : List Bool) × (count : ℕ) × (count < length ws) × (steps ≡ steps_by choices (take count ws))

-- some first steps of a plan are the steps of its first patches
abbrev pub CutsAreFirst : Type 0
CutsAreFirst =
    (choices : List Bool) (ws : List Written) (steps rest : List Step)
    → EndsPlainly ws → rest ≢ [] → steps ++ rest ≡ steps_by choices ws → IsFirst ws steps

-- What the steps of a plan make of a store.

-- each change of the plan is well made where it comes, and spelled as the disk was divided at opening
abbrev pub PlanFits : Ledger → Extents → ℕ → (made plan : List Made) → Type 0
PlanFits first s n made [] = Unit {0}
PlanFits first s n made (m ∷ plan) =
    (step_of s.geometry m ≡ step_of first.geometry m)
    × IsWellMade first m made
    × PlanFits first (after_change s n m.change) (n + 1) (m ∷ made) plan

-- the steps of such a plan leave a store
abbrev pub PlansAreOfStores : Type 0
PlansAreOfStores =
    (run : Execution) (first : Ledger) (s : Extents) (n : ℕ) (made plan : List Made) (choices : List Bool)
    → PlanFits first s n made plan → IsOfStore run first made
    → IsOfStore (followed_by run (steps_by choices (written s n plan))) first (onto plan made)

-- a change is spelled alike before the upgrade and after it
abbrev pub UpgradesSpellAlike : Type 0
UpgradesSpellAlike = (g : Geometry) (m : Made) → g.format ≡ One → step_of (widened g) m ≡ step_of g m
