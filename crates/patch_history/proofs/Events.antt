-- An event more keeps a store.
use Rattle.std.proofs.Common.{◌≡◌, ℕ, ◌<◌, ◌∙◌, Bool, true, false, List, [], ◌∷◌, length, Option, Some, None, refl, sym}
use Rattle.std.proofs.Common.{ap, arith, subst}
use Rattle.std.specs.Prelude.{◌==◌, option_map, option_to_list, take}
use Rattle.std.proofs.lemmas.Bool.Decides.{nat_tests}
use Rattle.std.proofs.lemmas.List.{take_all, length-take}
use Rattle.patch_model.specs.Member.{In}
use Rattle.patch_model.specs.Step.{Step}
use Rattle.patch_model.specs.Execution.{followed_by}
use Rattle.patch_frame.specs.Slot.{SlotFields}
use Rattle.patch_recovery.specs.Change.{Clear, Made}
use Rattle.patch_recovery.specs.Ledger.{Ledger, after_all, value_in}
use Rattle.patch_recovery.specs.Orders.{AreWellMade}
use Rattle.patch_recovery.specs.Store.{IsOfStore}
use Rattle.patch_recovery.specs.Said.{last_said}
use Rattle.patch_plans.specs.Extents.{Extents}
use Rattle.patch_plans.specs.Writing.{written, steps_by}
use Rattle.patch_history.specs.Choosing.{slot_of, live_frames}
use Rattle.patch_history.specs.Command.{Command, Reply, is_refused}
use Rattle.patch_history.specs.Map.{Map, after_reply, after_done}
use Rattle.patch_history.specs.Planning.{moves, emptied}
use Rattle.patch_history.specs.Refusing.{is_current}
use Rattle.patch_history.specs.Shelf.{Shelf, after_plan}
use Rattle.patch_history.specs.StoreState.{creates, Standing, made_by, plan_of, after_call, onto}
use Rattle.patch_history.proofs.Going.{Good, good-plan}
use Rattle.patch_history.proofs.Quiet.{AllQuiet, quiet_said, quiet_geometry}
use Rattle.patch_history.proofs.Stepping.{creates_by, take_written, store_after}
use Rattle.patch_history.proofs.Members.{some_plan}
use Rattle.patch_history.specs.LawsBelow.{Given}
use Rattle.patch_recovery.specs.Right.{IsSound}

-- The run is that of a store, the shelf goes with its changes, and the map has what they say.
pub record Stood (first : Ledger) (st : Standing) : Type 0 where
  pub store : IsOfStore st.run first st.made
  pub good : Good st.shelf first st.made
  pub format : st.map.format ≡ (after_all first st.made).geometry.format
  pub said : (key : List ℕ) → value_in st.map.entries key ≡ last_said (λ number. true) first st.made key

-- after a call that made these changes
abbrev with_done : Standing → ℕ → Command → Reply → List Step → List Made → Standing
with_done st writer command reply steps done = record {
  run = followed_by st.run steps;
  groups = (after_call st writer command reply steps).groups;
  shelf = after_plan st.shelf (made_by st) done;
  map = after_reply st.map command reply;
  made = onto done st.made;
}

-- How many patches steps make.

pub whole_take : (choices : List Bool) (s : Extents) (n : ℕ) (plan : List Made) (steps : List Step)
    → steps ≡ steps_by choices (written s n plan) → plan ≡ take (creates steps) plan
whole_take choices s n plan steps e =
    sym (take_all (creates steps) plan (let c : creates steps ≡ length plan = ap creates e ∙ creates_by choices s n plan in omega (arith, c)))

pub cut_steps : (choices : List Bool) (s : Extents) (n count : ℕ) (plan : List Made) (steps : List Step)
    → steps ≡ steps_by choices (take count (written s n plan))
    → steps ≡ steps_by choices (written s n (take count plan))
cut_steps choices s n count plan steps e = e ∙ ap (steps_by choices) (take_written count s n plan)

pub cut_take : (choices : List Bool) (s : Extents) (n count : ℕ) (plan : List Made) (steps : List Step)
    → count < length plan → steps ≡ steps_by choices (take count (written s n plan))
    → take count plan ≡ take (creates steps) plan
cut_take choices s n count plan steps less e =
    let c : creates steps ≡ length (take count plan) =
    ap creates (cut_steps choices s n count plan steps e) ∙ creates_by choices s n (take count plan) in
    let long = length-take count plan in
    ap (λ k. take k plan) (let same : count ≡ creates steps = omega (arith, c, long, less) in same)

module _ (given : Given) (first : Ledger) (sound : IsSound first) where
  pub stood_after : (st : Standing) (writer : ℕ) (command : Command) (reply : Reply) (steps : List Step) (done : List Made) (choices : List Bool)
      → Stood first st
      → done ≡ take (creates steps) (plan_of st writer command)
      → steps ≡ steps_by choices (written st.shelf.extents (made_by st) done) → AreWellMade first (onto done st.made)
      → (after_reply st.map command reply).format ≡ (after_all first (onto done st.made)).geometry.format
      → ((key : List ℕ)
      → value_in (after_reply st.map command reply).entries key ≡ last_said (λ number. true) first (onto done st.made) key)
      → Stood first (after_call st writer command reply steps)
  stood_after st writer command reply steps done choices stood is steps_are well format tells =
      subst (λ d. Stood first (with_done st writer command reply steps d)) is (record {
        store = subst (λ all. IsOfStore (followed_by st.run all) first (onto done st.made)) (sym steps_are)
            (store_after given st.run first st.shelf.extents (made_by st) done st.made choices sound stood.good.holds.shelf.geometry well stood.store);
        good = good-plan first st.shelf (made_by st) done st.made refl stood.good well;
        format = format;
        said = tells;
      })

  -- changes that leave the map as it is
  pub stood_quiet : (st : Standing) (writer : ℕ) (command : Command) (reply : Reply) (steps : List Step) (done : List Made) (choices : List Bool)
      → Stood first st
      → done ≡ take (creates steps) (plan_of st writer command)
      → steps ≡ steps_by choices (written st.shelf.extents (made_by st) done) → AreWellMade first (onto done st.made)
      → AllQuiet first st.made done → after_reply st.map command reply ≡ st.map
      → Stood first (after_call st writer command reply steps)
  stood_quiet st writer command reply steps done choices stood is steps_are well quiet same =
      stood_after st writer command reply steps done choices stood is steps_are well
      (ap (λ h. h.format) same ∙ stood.format ∙ ap (λ g. g.format) (sym (quiet_geometry first done st.made quiet)))
      (λ key. ap (λ h. value_in h.entries key) same ∙ stood.said key ∙ sym (quiet_said first done st.made key quiet))

  pub stood_nothing : (st : Standing) (writer : ℕ) (command : Command) (reply : Reply) (steps : List Step)
      → Stood first st → steps ≡ [] → after_reply st.map command reply ≡ st.map
      → Stood first (after_call st writer command reply steps)
  stood_nothing st writer command reply steps stood none same =
      stood_quiet st writer command reply steps [] [] stood (ap (λ all. take (creates all) (plan_of st writer command)) (sym none)) none stood.good.well tt same

pub refused_same : (h : Map) (command : Command) (reply : Reply) → is_refused reply ≡ true
    → after_reply h command reply ≡ h
refused_same h command reply r = rw r refl

pub done_is : (h : Map) (command : Command) (reply : Reply) → is_refused reply ≡ false
    → after_reply h command reply ≡ after_done h command
done_is h command reply r = rw r refl

-- a plan of a reclaim
pub record IsEmptying (st : Standing) (extent : ℕ) (plan : List Made) : Type 0 where
  pub moved : List Made
  pub moves_are : moves st.map.entries st.shelf (made_by st) (live_frames st.shelf extent) ≡ Some moved
  pub are : plan ≡ emptied st.shelf (made_by st) extent moved

pub emptying : (st : Standing) (extent : ℕ) (plan : List Made) (o : Option (List Made))
    → moves st.map.entries st.shelf (made_by st) (live_frames st.shelf extent) ≡ o
    → option_map (emptied st.shelf (made_by st) extent) o ≡ Some plan → IsEmptying st extent plan
emptying st extent plan None at h = absurd (let g : None ≡ Some plan = h in cc)
emptying st extent plan (Some moved) at h = record { moved = moved; moves_are = at; are = some_plan _ _ (sym h) }

pub record IsClearing (st : Standing) (key : List ℕ) (plan : List Made) : Type 0 where
  pub slot : ℕ
  pub slot_is : slot_of st.shelf key ≡ Some slot
  pub are : plan ≡ record { change = Clear slot; after = option_to_list st.shelf.last_delete } ∷ []

pub clearing : (st : Standing) (key : List ℕ) (plan : List Made) (o : Option ℕ) → slot_of st.shelf key ≡ o
    → option_map (λ slot. record { change = Clear slot; after = option_to_list st.shelf.last_delete } ∷ []) o ≡ Some plan
    → IsClearing st key plan
clearing st key plan None at h = absurd (let g : None ≡ Some plan = h in cc)
clearing st key plan (Some slot) at h = record { slot = slot; slot_is = at; are = some_plan _ _ (sym h) }

pub some_in : (xs : List (ℕ × SlotFields)) (f : ℕ × SlotFields) → In xs f → 0 < length xs
some_in [] f h = absurd h
some_in (x ∷ xs) f h = omega arith

pub is_current_of : (s : Shelf) (e : ℕ) (o : Option ℕ) → s.current ≡ o → o ≡ Some e → is_current s e ≡ true
is_current_of s e None at h = absurd (let g : None ≡ Some e = h in cc)
is_current_of s e (Some x) at h =
    let same : x ≡ e = cc in
    let on : (x == e) ≡ true = grind (arith, nat_tests) in rw (at, on) refl
