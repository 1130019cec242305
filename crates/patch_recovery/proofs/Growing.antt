-- A step more of a store.
use Rattle.std.proofs.Common.{◌≡◌, ◌∙◌, true, List, [], ◌∷◌, ◌++◌, length, map, refl, sym, ap, arith}
use Rattle.std.proofs.lemmas.List.{length-map, map-append, length-append}
use Rattle.patch_model.specs.Step.{Step, Create, Merge, Send, Complete}
use Rattle.patch_model.specs.Execution.{Execution, extended}
use Rattle.patch_model.specs.Entry.{Entry}
use Rattle.patch_model.specs.Ready.{ready}
use Rattle.patch_model.specs.State.{State, after_step, state_of, entries_of, joined, sent, landed, class_of}
use Rattle.patch_model.specs.Unchanged.{patch-joined, patch-sent, patch-landed}
use Rattle.patch_frame.specs.declared.geometries.Geometry.{Geometry}
use Rattle.patch_recovery.specs.Change.{Made, patch_of, patches_of, step_of}
use Rattle.patch_recovery.specs.Ledger.{Ledger}
use Rattle.patch_recovery.specs.Orders.{IsWellMade}
use Rattle.patch_recovery.specs.Store.{IsOfStore, makes_nothing}

-- the law of the model: a step more is taken from the state so far
abbrev pub StepsExtend : Type 0
StepsExtend = (run : Execution) (step : Step) → state_of (extended run step) ≡ after_step (state_of run) step

-- there is a patch for each change
pub length-patches_of : (g : Geometry) (ms : List Made) → length (patches_of g ms) ≡ length ms
length-patches_of g [] = refl
length-patches_of g (made ∷ ms) = let before = length-patches_of g ms in
    length-append (patches_of g ms) (patch_of g (length ms) made ∷ []) ∙ (omega arith)

map-same : (f : Entry → Entry) (es : List Entry) → ((e : Entry) → (f e).patch ≡ e.patch)
    → map (λ e. e.patch) (map f es) ≡ map (λ e. e.patch) es
map-same f [] same = refl
map-same f (e ∷ es) same = rw (same e, map-same f es same) refl

patches_left : (st : State) (step : Step) → makes_nothing step ≡ true
    → map (λ e. e.patch) (after_step st step).entries ≡ map (λ e. e.patch) st.entries
patches_left st (Merge a b) h = map-same (joined (class_of st.entries a) (class_of st.entries b)) st.entries
    (patch-joined (class_of st.entries a) (class_of st.entries b))
patches_left st (Send block) h = map-same (sent (ready st.entries block)) st.entries
    (patch-sent (ready st.entries block))
patches_left st (Complete block) h = map-same (landed block) st.entries (patch-landed block)
patches_left st (Create block start bytes after undo) h = absurd (cc)

-- a step that makes nothing leaves the patches
pub others_leave : StepsExtend → (run : Execution) (first : Ledger) (made : List Made) (step : Step)
    → makes_nothing step ≡ true → IsOfStore run first made → IsOfStore (extended run step) first made
others_leave extends run first made step h store = record {
  blocks = store.blocks;
  read = store.read;
  patches = ap (λ st. map (λ e. e.patch) st.entries) (extends run step) ∙ patches_left (state_of run) step h
      ∙ store.patches;
  well_made = store.well_made;
}

-- and one that makes a change adds its patch
pub grows : StepsExtend → (run : Execution) (first : Ledger) (made : Made) (earlier : List Made)
    → IsOfStore run first earlier → IsWellMade first made earlier
    → IsOfStore (extended run (step_of first.geometry made)) first (made ∷ earlier)
grows extends run first made earlier store well =
    let count : length (entries_of run) ≡ length earlier = sym (length-map (entries_of run) (λ e. e.patch))
    ∙ ap length store.patches ∙ length-patches_of first.geometry earlier in
    record {
      blocks = store.blocks;
      read = store.read;
      patches = ap (λ st. map (λ e. e.patch) st.entries) (extends run (step_of first.geometry made))
          ∙ map-append (λ e. e.patch) (entries_of run) _
          ∙ ap (λ ps. ps ++ patch_of first.geometry (length (entries_of run)) made ∷ []) store.patches
          ∙ ap (λ n. patches_of first.geometry earlier ++ patch_of first.geometry n made ∷ []) count;
      well_made = (well, store.well_made);
    }
