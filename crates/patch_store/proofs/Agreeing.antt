-- A history tells which of its merges had no memory.
use Rattle.std.proofs.Common.{◌≡◌, ℕ, zero, suc, ◌+◌, ◌∙◌, Bool, true, false, inl, inr, List, [], ◌∷◌, ◌++◌, length, map, take, drop, refl, sym, ap, subst}
use Rattle.std.specs.Prelude.{◌==◌, fold, Option, Some, None, option_to_list}
use Rattle.std.proofs.lemmas.Bool.{cases_Bool}
use Rattle.std.proofs.lemmas.List.{append_cancel_left}
use Rattle.patch_model.specs.Step.{Step, Create, Merge, Send, Complete}
use Rattle.patch_model.specs.Execution.{Execution, extended, followed_by}
use Rattle.patch_extent.specs.declared.places.MergeOutcome.{MergeOutcome}
use Rattle.patch_extent.specs.declared.places.MergeOutcome.TheVariants as merge
use Rattle.patch_extent.specs.Merging.{is_made}
use Rattle.patch_plans.specs.Extents.{Extents, extent_at}
use Rattle.patch_plans.specs.Writing.{Written, after_change, merge_with, merge_behind, written, steps_by}
use Rattle.patch_recovery.specs.Change.{Change, Data, Point, Fill, Clear, Widen, Made, step_of}
use Rattle.patch_history.specs.History.{Event, Call, Moved, after_event}
use Rattle.patch_history.specs.StoreState.{Standing, at_opening, made_by, plan_of}
use Rattle.patch_store.specs.Laws.{CountsAgree}
use Rattle.patch_store.specs.Merging.{MayCome, IsRight, AreRight, counted_with, HasMerged, AreCounted}

-- Steps of a plan never begin with a merge.

abbrev BeginsPlainly : List Step → Type 0
BeginsPlainly [] = Unit {0}
BeginsPlainly (Create block start bytes after undo ∷ steps) = Unit {0}
BeginsPlainly (Merge a b ∷ steps) = ⊥
BeginsPlainly (Send block ∷ steps) = Unit {0}
BeginsPlainly (Complete block ∷ steps) = Unit {0}

begin_plainly : (choices : List Bool) (k : ℕ) (s : Extents) (n : ℕ) (plan : List Made) → BeginsPlainly (steps_by choices (take k (written s n plan)))
begin_plainly [] zero s n plan = tt
begin_plainly (true ∷ choices) zero s n plan = tt
begin_plainly (false ∷ choices) zero s n plan = tt
begin_plainly [] (suc k) s n [] = tt
begin_plainly (true ∷ choices) (suc k) s n [] = tt
begin_plainly (false ∷ choices) (suc k) s n [] = tt
begin_plainly [] (suc k) s n (m ∷ plan) = tt
begin_plainly (true ∷ choices) (suc k) s n (m ∷ plan) = tt
begin_plainly (false ∷ choices) (suc k) s n (m ∷ plan) = tt

merge_shows : (run : Execution) (n : ℕ) (before : Option ℕ) (steps : List Step) → MayCome run (merge_with n before)
    → BeginsPlainly (option_to_list (merge_with n before) ++ steps) → ⊥
merge_shows run n None steps may plain = may
merge_shows run n (Some before) steps may plain = plain

-- but a merge that may come does
shows : (run : Execution) (s : Extents) (n : ℕ) (c : Change) (steps : List Step) → MayCome run (merge_behind s n c)
    → BeginsPlainly (option_to_list (merge_behind s n c) ++ steps) → ⊥
shows run s n (Data extent offset bytes) steps may plain = may
shows run s n (Point extent generation offset) steps may plain = elim (cases_Bool (offset == 0)) [
  | inl u ↦ (rw u at may)
  | inr u ↦ merge_shows run n (extent_at s extent).point steps (rw u at may) (rw u at plain)
]
shows run s n (Fill slot fields) steps may plain = may
shows run s n (Clear slot) steps may plain = may
shows run s n Widen steps may plain = may

-- Outcomes that are right of the same steps are the same.

rest_same : (a : Step) (xs ys : List Step) → a ∷ xs ≡ a ∷ ys → xs ≡ ys
rest_same a xs ys is = ap (drop 1) is

never_empty : (a : Step) (xs : List Step) → [] ≡ a ∷ xs → ⊥
never_empty a xs is = let g : [] ≡ a ∷ xs = is in cc

some_steps : (o : MergeOutcome) (os : List MergeOutcome) (w : Written) (ws : List Written) → [] ≡ steps_by (is_made o ∷ map is_made os) (w ∷ ws) → ⊥
some_steps merge.Made os w ws is = never_empty w.create _ is
some_steps merge.NotLegal os w ws is = never_empty w.create _ is
some_steps merge.NoMemory os w ws is = never_empty w.create _ is

-- of one patch, and the steps behind it
first_same : (run : Execution) (s : Extents) (n : ℕ) (m : Made) (create : Step) (o p : MergeOutcome) (cs ds : List Bool) (j k : ℕ) (plan : List Made)
    → IsRight run (merge_behind s n m.change) o → IsRight run (merge_behind s n m.change) p
    → steps_by (is_made o ∷ cs) (record { create = create; merge = merge_behind s n m.change } ∷ take j (written (after_change s n m.change) (n + 1) plan))
    ≡ steps_by (is_made p ∷ ds) (record { create = create; merge = merge_behind s n m.change } ∷ take k (written (after_change s n m.change) (n + 1) plan))
    → (o ≡ p) × (steps_by cs (take j (written (after_change s n m.change) (n + 1) plan)) ≡ steps_by ds (take k (written (after_change s n m.change) (n + 1) plan)))
first_same run s n m create merge.Made merge.Made cs ds j k plan x y is =
    (refl, append_cancel_left (option_to_list (merge_behind s n m.change)) _ _ (rest_same create _ _ is))
first_same run s n m create merge.Made merge.NotLegal cs ds j k plan x y is = absurd (y x)
first_same run s n m create merge.Made merge.NoMemory cs ds j k plan x y is =
    absurd (shows run s n m.change _ x (subst BeginsPlainly (sym (rest_same create _ _ is)) (begin_plainly ds k (after_change s n m.change) (n + 1) plan)))
first_same run s n m create merge.NotLegal merge.Made cs ds j k plan x y is = absurd (x y)
first_same run s n m create merge.NotLegal merge.NotLegal cs ds j k plan x y is = (refl, rest_same create _ _ is)
first_same run s n m create merge.NotLegal merge.NoMemory cs ds j k plan x y is = absurd (x y)
first_same run s n m create merge.NoMemory merge.Made cs ds j k plan x y is =
    absurd (shows run s n m.change _ y (subst BeginsPlainly (rest_same create _ _ is) (begin_plainly cs j (after_change s n m.change) (n + 1) plan)))
first_same run s n m create merge.NoMemory merge.NotLegal cs ds j k plan x y is = absurd (y x)
first_same run s n m create merge.NoMemory merge.NoMemory cs ds j k plan x y is = (refl, rest_same create _ _ is)

outcomes_same : (run : Execution) (s : Extents) (n : ℕ) (plan : List Made) (os ps : List MergeOutcome)
    → AreRight run os (written s n plan) → AreRight run ps (written s n plan)
    → steps_by (map is_made os) (take (length os) (written s n plan)) ≡ steps_by (map is_made ps) (take (length ps) (written s n plan)) → os ≡ ps
outcomes_same run s n plan [] [] x y is = refl
outcomes_same run s n [] [] (p ∷ ps) x y is = absurd y
outcomes_same run s n (m ∷ plan) [] (p ∷ ps) x y is = absurd (some_steps p ps _ _ is)
outcomes_same run s n [] (o ∷ os) ps x y is = absurd x
outcomes_same run s n (m ∷ plan) (o ∷ os) [] x y is = absurd (some_steps o os _ _ (sym is))
outcomes_same run s n (m ∷ plan) (o ∷ os) (p ∷ ps) x y is =
    let w : Written = record { create = step_of s.geometry m; merge = merge_behind s n m.change } in
    let first = first_same (extended run w.create) s n m w.create o p (map is_made os) (map is_made ps) (length os) (length ps) plan x.0 y.0 is in
    let behind : MergeOutcome → Execution = λ q. followed_by run (steps_by (is_made q ∷ []) (w ∷ [])) in
    let later : AreRight (behind o) ps (written (after_change s n m.change) (n + 1) plan) =
    subst (λ q. AreRight (behind q) ps (written (after_change s n m.change) (n + 1) plan)) (sym first.0) y.1 in
    ap (λ q. q ∷ os) first.0
    ∙ ap (λ qs. p ∷ qs) (outcomes_same (behind o) (after_change s n m.change) (n + 1) plan os ps x.1 later first.1)

merged_same : (run : Execution) (s : Extents) (n : ℕ) (plan : List Made) (steps : List Step) (before one other : ℕ)
    → HasMerged run (written s n plan) steps before one → HasMerged run (written s n plan) steps before other → one ≡ other
merged_same run s n plan steps before one other x y =
    x.counted ∙ ap (fold counted_with before) (outcomes_same run s n plan x.outcomes y.outcomes x.right y.right (sym x.steps_are ∙ y.steps_are))
    ∙ sym y.counted

counted_same : (st : Standing) (events : List Event) (before one other : ℕ) → AreCounted st events before one → AreCounted st events before other → one ≡ other
counted_same st [] before one other x y = x ∙ sym y
counted_same st (Call writer command reply steps ∷ events) before one other x y =
    let same = merged_same st.run st.shelf.extents (made_by st) (plan_of st writer command) steps before x.0 y.0 x.1 y.1 in
    counted_same (after_event st (Call writer command reply steps)) events x.0 one other x.2
    (subst (λ between. AreCounted (after_event st (Call writer command reply steps)) events between other) (sym same) y.2)
counted_same st (Moved step ∷ events) before one other x y =
    counted_same (after_event st (Moved step)) events x.0 one other x.2
    (subst (λ between. AreCounted (after_event st (Moved step)) events between other) (y.1 ∙ sym x.1) y.2)

pub counts_agree : CountsAgree
counts_agree one other h x y = counted_same (at_opening h.opening h.first) h.events 0 one.left_out other.left_out x.left_out_is y.left_out_is
