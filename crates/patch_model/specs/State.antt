-- What has become of an execution's patches.
use Rattle.std.specs.Prelude.{ℕ, Bool, false, ◌+◌, ◌==◌, ◌&&◌, ◌||◌, not, min, if◌then◌else◌, List, [], ◌∷◌, ◌++◌, length, map, filter, fold, slice_get, Some, None}
use Rattle.std.specs.List.{list_any, list_all}
use Rattle.patch_model.specs.declared.patches.Undo.{Undo}
use Rattle.patch_model.specs.declared.patches.Undo.TheVariants.{Keep, MayDrop}
use Rattle.patch_model.specs.declared.patches.Mark.TheVariants.{Memory, Flight, Durable}
use Rattle.patch_model.specs.Patch.{Patch}
use Rattle.patch_model.specs.Step.{Step, Create, Merge, Send, Complete}
use Rattle.patch_model.specs.Execution.{Execution}
use Rattle.patch_model.specs.Entry.{Entry, is_flight, is_durable}
use Rattle.patch_model.specs.Dependency.{depends_directly}
use Rattle.patch_model.specs.Ready.{has, ready}

-- the patches in order of making, the block and the number of each write in flight, and how many were sent
pub record State : Type 0 where
  pub entries : List Entry
  pub flights : List (ℕ × ℕ)
  pub sends : ℕ

-- no patch yet
abbrev pub at_first : State
at_first = record { entries = []; flights = []; sends = 0 }

-- the patch asks for it, and each patch that it depends on directly is durable or a hard one of its block
abbrev pub is_made_hard : List Entry → Patch → Bool
is_made_hard all p = elim p.undo [
  | Keep ↦ false
  | MayDrop ↦ list_all (λ f. not (depends_directly p f.patch) || is_durable f || (f.hard && f.patch.block == p.block)) all
]

-- a patch as it is made: a class of its own, in memory
abbrev pub fresh : List Entry → Patch → Entry
fresh all p = record { patch = p; class = p.no; mark = Memory; hard = is_made_hard all p }

-- the name of a patch's class
abbrev pub class_of : List Entry → ℕ → ℕ
class_of all n = elim (slice_get all n) [ Some e ↦ e.class | None ↦ n ]

-- the classes a and b under one name, the smaller
abbrev pub joined : ℕ → ℕ → Entry → Entry
joined a b e = if e.class == a || e.class == b then record e { class = min a b } else e

-- what is in the set is in flight
abbrev pub sent : List Entry → Entry → Entry
sent set e = if has set e then record e { mark = Flight } else e

-- what is in flight of the block is durable
abbrev pub landed : ℕ → Entry → Entry
landed block e = if is_flight e && e.patch.block == block then record e { mark = Durable } else e

-- the block has a write in flight
abbrev pub has_flight : State → ℕ → Bool
has_flight st block = list_any (λ f. f.0 == block) st.flights

-- the state after one more step
abbrev pub after_step : State → Step → State
after_step st (Create block start bytes after undo) =
    record st { entries = st.entries ++ fresh st.entries (record { no = length st.entries; block = block; start = start; bytes = bytes; after = after; undo = undo }) ∷ [] }
after_step st (Merge a b) =
    record st { entries = map (joined (class_of st.entries a) (class_of st.entries b)) st.entries }
after_step st (Send block) =
    record { entries = map (sent (ready st.entries block)) st.entries; flights = st.flights ++ (block, st.sends) ∷ []; sends = st.sends + 1 }
after_step st (Complete block) =
    record st { entries = map (landed block) st.entries; flights = filter (λ f. not (f.0 == block)) st.flights }

abbrev pub after_steps : State → List Step → State
after_steps st steps = fold after_step st steps

-- what has become of the execution's patches
abbrev pub state_of : Execution → State
state_of run = after_steps at_first run.steps

-- the execution's patches, by their numbers
abbrev pub entries_of : Execution → List Entry
entries_of run = (state_of run).entries

-- the patch that a Create would make next
abbrev pub next_patch : Execution → ℕ → ℕ → List ℕ → List ℕ → Undo → Patch
next_patch run block start bytes after undo = record { no = length (entries_of run); block = block; start = start; bytes = bytes; after = after; undo = undo }

-- what is in flight of the block
abbrev pub flying_of : List Entry → ℕ → List Entry
flying_of all block = filter (λ e. is_flight e && e.patch.block == block) all

-- the numbers of some patches
abbrev pub numbers_of : List Entry → List ℕ
numbers_of patches = map (λ e. e.patch.no) patches
