-- The steps of a plan, how many patches they make, and what they leave.
use Rattle.std.proofs.Common.{◌≡◌, ℕ, zero, suc, ◌+◌, ◌≤◌, arith, ◌∙◌, inl, inr, Bool, true, false, List, [], ◌∷◌, ◌++◌}
use Rattle.std.proofs.Common.{length}
use Rattle.std.proofs.Common.{Option, Some, None, refl, sym, ap, subst}
use Rattle.std.specs.Prelude.{◌==◌, option_to_list, take, drop}
use Rattle.std.proofs.lemmas.Bool.{cases_Bool}
use Rattle.std.proofs.lemmas.List.{take-append-drop}
use Rattle.patch_model.specs.Step.{Step}
use Rattle.patch_model.specs.Execution.{Execution, followed_by}
use Rattle.patch_model.specs.Entry.{is_among}
use Rattle.patch_plans.specs.Groups.{Groups, named, with_patch, after_of}
use Rattle.patch_recovery.specs.Change.{Change, Data, Point, Fill, Clear, Widen, Made, step_of, widened}
use Rattle.patch_recovery.specs.Ledger.{Ledger, after, after_all}
use Rattle.patch_recovery.specs.Orders.{AreWellMade}
use Rattle.patch_recovery.specs.Store.{IsOfStore}
use Rattle.patch_plans.specs.Extents.{Extents, extent_at}
use Rattle.patch_plans.specs.Writing.{after_change, merge_behind, merge_with, written, steps_by, named_plan}
use Rattle.patch_history.specs.StoreState.{creates, onto}
use Rattle.patch_history.specs.Steps.{PlanFits, EndsPlainly}
use Rattle.patch_history.proofs.Spelling.{upgrades_spell_alike}
use Rattle.patch_history.proofs.Walking.{plans_are_of_stores}
use Rattle.patch_history.proofs.Richer.{AreRicher, all_richer_self}
use Rattle.patch_history.proofs.Going.{onto-++, onto_front}
use Rattle.patch_history.proofs.Framing.{among_front}
use Rattle.patch_history.specs.LawsBelow.{Given}
use Rattle.patch_recovery.specs.Right.{IsSound}

-- How many patches some steps make.

merge_with_none : (n : ℕ) (o : Option ℕ) (steps : List Step)
    → creates (option_to_list (merge_with n o) ++ steps) ≡ creates steps
merge_with_none n None steps = refl
merge_with_none n (Some before) steps = refl

merge_none : (s : Extents) (n : ℕ) (c : Change) (steps : List Step)
    → creates (option_to_list (merge_behind s n c) ++ steps) ≡ creates steps
merge_none s n (Data extent offset bytes) steps = refl
merge_none s n (Point extent generation offset) steps =
    elim (cases_Bool (offset == 0)) [ inl u ↦ rw u refl | inr u ↦ rw u (merge_with_none n (extent_at s extent).point steps) ]
merge_none s n (Fill slot fields) steps = refl
merge_none s n (Clear slot) steps = refl
merge_none s n Widen steps = refl

pub creates_by : (choices : List Bool) (s : Extents) (n : ℕ) (plan : List Made)
    → creates (steps_by choices (written s n plan)) ≡ length plan
creates_by choices s n [] = refl
creates_by [] s n (m ∷ plan) = ap suc (creates_by [] (after_change s n m.change) (n + 1) plan)
creates_by (false ∷ choices) s n (m ∷ plan) = ap suc (creates_by choices (after_change s n m.change) (n + 1) plan)
creates_by (true ∷ choices) s n (m ∷ plan) =
    ap suc (merge_none s n m.change (steps_by choices (written (after_change s n m.change) (n + 1) plan)) ∙ creates_by choices (after_change s n m.change) (n + 1) plan)

pub take_written : (k : ℕ) (s : Extents) (n : ℕ) (plan : List Made)
    → take k (written s n plan) ≡ written s n (take k plan)
take_written zero s n plan = refl
take_written (suc k) s n [] = refl
take_written (suc k) s n (m ∷ plan) =
    ap (λ ws. record { create = step_of s.geometry m; merge = merge_behind s n m.change } ∷ ws)
    (take_written k (after_change s n m.change) (n + 1) plan)

-- A plan whose last change has no merge ends with none.
pub ends_plainly : (s : Extents) (n : ℕ) (plan : List Made) (m : Made) → ((s : Extents) (n : ℕ)
    → merge_behind s n m.change ≡ None) → EndsPlainly (written s n (plan ++ m ∷ []))
ends_plainly s n [] m none = none s n
ends_plainly s n (x ∷ []) m none = none (after_change s n x.change) (n + 1)
ends_plainly s n (x ∷ y ∷ plan) m none = ends_plainly (after_change s n x.change) (n + 1) (y ∷ plan) m none

-- What the groups add.

-- it changes no count
pub length-named_plan : (gs : Groups) (w : Option ℕ) (n : ℕ) (p : List Made) → length (named_plan gs w n p) ≡ length p
length-named_plan gs w n [] = refl
length-named_plan gs w n (m ∷ p) = ap suc (length-named_plan (with_patch gs w n) w (n + 1) p)

pub length-written : (s : Extents) (n : ℕ) (p : List Made) → length (written s n p) ≡ length p
length-written s n [] = refl
length-written s n (m ∷ p) = ap suc (length-written (after_change s n m.change) (n + 1) p)

-- and depends on the patches before alone
pub take_front : (k : ℕ) (gs : Groups) (w : Option ℕ) (n : ℕ) (p q : List Made) → k ≤ length p
    → take k (named_plan gs w n (p ++ q)) ≡ take k (named_plan gs w n p)
take_front zero gs w n p q h = refl
take_front (suc k) gs w n [] q h = absurd (omega (arith, h))
take_front (suc k) gs w n (m ∷ p) q h =
    ap (λ ms. record m { after = named gs w m.after } ∷ ms)
    (take_front k (with_patch gs w n) w (n + 1) p q (omega (arith, h)))

-- behind a last change that has no merge comes none
pub ends_named : (s : Extents) (gs : Groups) (w : Option ℕ) (n : ℕ) (plan : List Made) (m : Made)
    → ((s : Extents) (n : ℕ) → merge_behind s n m.change ≡ None)
    → EndsPlainly (written s n (named_plan gs w n (plan ++ m ∷ [])))
ends_named s gs w n [] m none = none s n
ends_named s gs w n (x ∷ []) m none = none (after_change s n x.change) (n + 1)
ends_named s gs w n (x ∷ y ∷ plan) m none =
    ends_named (after_change s n x.change) (with_patch gs w n) w (n + 1) (y ∷ plan) m none

named_more : (gs : Groups) (w : Option ℕ) (after : List ℕ) (k : ℕ) → is_among after k ≡ true
    → is_among (named gs w after) k ≡ true
named_more gs None after k h = h
named_more gs (Some writer) after k h = among_front after (after_of gs writer) k h

richer_onto : (gs : Groups) (w : Option ℕ) (n : ℕ) (plan made richer : List Made) → AreRicher made richer
    → AreRicher (onto plan made) (onto (named_plan gs w n plan) richer)
richer_onto gs w n [] made richer h = h
richer_onto gs w n (m ∷ plan) made richer h =
    richer_onto (with_patch gs w n) w (n + 1) plan (m ∷ made) (record m { after = named gs w m.after } ∷ richer) (record { change = refl; names = named_more gs w m.after }, h)

pub richer_named : (gs : Groups) (w : Option ℕ) (n : ℕ) (plan made : List Made)
    → AreRicher (onto plan made) (onto (named_plan gs w n plan) made)
richer_named gs w n plan made = richer_onto gs w n plan made made (all_richer_self made)

-- to patches of no writer they add nothing
pub named_none : (gs : Groups) (n : ℕ) (plan : List Made) → named_plan gs None n plan ≡ plan
named_none gs n [] = refl
named_none gs n (m ∷ plan) = ap (λ p. m ∷ p) (named_none gs (n + 1) plan)

-- A plan whose changes are well made fits.

geometry_kept : (s : Extents) (l : Ledger) (n : ℕ) (c : Change) → s.geometry ≡ l.geometry
    → (after_change s n c).geometry ≡ (after l c).geometry
geometry_kept s l n (Data extent offset bytes) e = e
geometry_kept s l n (Point extent generation offset) e = e
geometry_kept s l n (Fill slot fields) e = e
geometry_kept s l n (Clear slot) e = e
geometry_kept s l n Widen e = ap widened e

pub fits_of : Given → (first : Ledger) (s : Extents) (n : ℕ) (plan made : List Made) → IsSound first
    → s.geometry ≡ (after_all first made).geometry → AreWellMade first (onto plan made) → PlanFits first s n made plan
fits_of given first s n [] made sound e well = tt
fits_of given first s n (m ∷ plan) made sound e well =
    let now = onto_front first plan (m ∷ made) well in (
      ap (λ g. step_of g m) e ∙ (elim (given.last first made sound now.1).geometry [
        | inl same ↦ ap (λ g. step_of g m) same
        | inr wide ↦ ap (λ g. step_of g m) (wide.1) ∙ upgrades_spell_alike first.geometry m wide.0
      ]),
      now.0,
      fits_of given first (after_change s n m.change) (n + 1) plan (m ∷ made) sound
          (geometry_kept s (after_all first made) n m.change e) well,
    )

pub store_after : Given
    → (run : Execution) (first : Ledger) (s : Extents) (n : ℕ) (plan made : List Made) (choices : List Bool)
    → IsSound first → s.geometry ≡ (after_all first made).geometry → AreWellMade first (onto plan made)
    → IsOfStore run first made
    → IsOfStore (followed_by run (steps_by choices (written s n plan))) first (onto plan made)
store_after given run first s n plan made choices sound e well store =
    plans_are_of_stores given.grow given.others run first s n made plan choices
    (fits_of given first s n plan made sound e well) store

-- some first changes of a plan
pub well_cut : (first : Ledger) (k : ℕ) (plan made : List Made) → AreWellMade first (onto plan made)
    → AreWellMade first (onto (take k plan) made)
well_cut first k plan made well =
    onto_front first (drop k plan) (onto (take k plan) made)
    (subst (AreWellMade first) (ap (λ p. onto p made) (sym (take-append-drop k plan)) ∙ onto-++ (take k plan) (drop k plan) made) well)
