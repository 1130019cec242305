-- Histories of one execution have one list of changes and one shelf.
use Rattle.std.proofs.Common.{◌≡◌, ◌∙◌, ◌+◌, List, [], ◌∷◌, length, map, Result, Ok, refl, sym, ap, subst, arith}
use Rattle.std.specs.Prelude.{fold, take}
use Rattle.patch_model.specs.State.{entries_of}
use Rattle.patch_recovery.specs.Change.{Made, patches_of}
use Rattle.patch_recovery.specs.Ledger.{Ledger}
use Rattle.patch_recovery.specs.Reading.{reading, Fault}
use Rattle.patch_recovery.specs.Orders.{AreWellMade}
use Rattle.patch_history.specs.LawsBelow.{Given}
use Rattle.patch_history.specs.Shelf.{after_plan}
use Rattle.patch_history.specs.StoreState.{Standing, at_opening, made_by, plan_of, creates, onto}
use Rattle.patch_history.specs.History.{History, Event, Call, Moved, IsLegalHistory, after_event, execution_of, standing_of}
use Rattle.patch_history.specs.Single.{shelf_of, ShelvesAreOfChanges, ChangesAreSingle, ShelvesAreSingle}
use Rattle.patch_history.proofs.Bridging.{opened_by, histories_are_of_stores}
use Rattle.patch_history.proofs.Spelled.{SlotsAgain, same_changes}

-- The shelf of the changes.

plan_shelf : (first : Ledger) (plan made : List Made)
    → after_plan (shelf_of first made) (length made) plan ≡ shelf_of first (onto plan made)
plan_shelf first [] made = refl
plan_shelf first (m ∷ plan) made =
    let next : length made + 1 ≡ length (m ∷ made) = omega arith in
    ap (λ n. after_plan (shelf_of first (m ∷ made)) n plan) next ∙ plan_shelf first plan (m ∷ made)

event_shelf : (first : Ledger) (st : Standing) (event : Event) → st.shelf ≡ shelf_of first st.made
    → (after_event st event).shelf ≡ shelf_of first (after_event st event).made
event_shelf first st (Call writer command reply steps) is =
    let done = take (creates steps) (plan_of st writer command) in
    ap (λ s. after_plan s (made_by st) done) is ∙ plan_shelf first done st.made
event_shelf first st (Moved step) is = is

events_shelf : (first : Ledger) (st : Standing) (events : List Event) → st.shelf ≡ shelf_of first st.made
    → (fold after_event st events).shelf ≡ shelf_of first (fold after_event st events).made
events_shelf first st [] is = is
events_shelf first st (event ∷ events) is =
    events_shelf first (after_event st event) events (event_shelf first st event is)

pub shelves_are_of_changes : ShelvesAreOfChanges
shelves_are_of_changes h = events_shelf h.first (at_opening h.opening h.first) h.events refl

-- One list of changes.

one_ledger : (read : Result Ledger Fault) (l k : Ledger) → read ≡ Ok l → read ≡ Ok k → l ≡ k
one_ledger read l k a b = let same : Ok l ≡ Ok k = sym a ∙ b in cc

module _ (again : SlotsAgain) (given : Given) where
  one_first : (h other : History) → IsLegalHistory h → IsLegalHistory other → execution_of h ≡ execution_of other
      → h.first ≡ other.first
  one_first h other l k same =
      one_ledger (reading h.opening) h.first other.first l.reads (ap (λ r. reading r.first) same ∙ k.reads)

  pub changes_are_single : ChangesAreSingle
  changes_are_single h other l k same =
      let start = opened_by given h l in
      let store = histories_are_of_stores given h l in
      let others = histories_are_of_stores given other k in
      let first : other.first ≡ h.first = sym (one_first h other l k same) in
      let ours = (standing_of h).made in
      let theirs = (standing_of other).made in
      same_changes again given h.first start.sound start.valid ours theirs store.well_made
      (subst (λ f. AreWellMade f theirs) first others.well_made)
      (sym store.patches ∙ ap (λ run. map (λ e. e.patch) (entries_of run)) same ∙ others.patches
      ∙ ap (λ f. patches_of f.geometry theirs) first)

  pub shelves_are_single : ShelvesAreSingle
  shelves_are_single h other l k same =
      shelves_are_of_changes h ∙ ap (λ f. shelf_of f (standing_of h).made) (one_first h other l k same)
      ∙ ap (shelf_of other.first) (changes_are_single h other l k same) ∙ sym (shelves_are_of_changes other)
