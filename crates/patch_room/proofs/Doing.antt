-- What a call that was done makes of the shelf: what its plan makes of it.
use Rattle.std.proofs.Common.{◌≡◌, ℕ, suc, ◌+◌, ◌∙◌, inl, inr, Bool, true, false, List, [], ◌∷◌, ◌++◌, length, Option}
use Rattle.std.proofs.Common.{Some, None, refl, ap, arith, take}
use Rattle.std.specs.Prelude.{◌==◌, option_to_list, unwrap_or}
use Rattle.std.proofs.lemmas.Bool.{cases_Bool}
use Rattle.std.proofs.lemmas.List.{take_all}
use Rattle.std.proofs.lemmas.List.Sums.{fold-append}
use Rattle.patch_model.specs.Step.{Step}
use Rattle.patch_plans.specs.Groups.{Groups, with_patch}
use Rattle.patch_plans.specs.Extents.{Extents, extent_at}
use Rattle.patch_plans.specs.Writing.{after_change, merge_behind, merge_with, written, steps_by, named_plan}
use Rattle.patch_recovery.specs.Change.{Change, Data, Point, Fill, Clear, Widen, Made}
use Rattle.patch_history.specs.Command.{Command, Done, Refused}
use Rattle.patch_history.specs.History.{History, Event, Call, IsWhole, IsRight, after_event, standing_of, with_event}
use Rattle.patch_history.specs.Shelf.{Shelf}
use Rattle.patch_history.specs.Shelf as shelves
use Rattle.patch_history.specs.StoreState.{at_opening, Standing, made_by, creates, maker_of, plan_for, plan_of}

merge_with_none : (n : ℕ) (o : Option ℕ) (steps : List Step)
    → creates (option_to_list (merge_with n o) ++ steps) ≡ creates steps
merge_with_none n None steps = refl
merge_with_none n (Some before) steps = refl

merge_none : (s : Extents) (n : ℕ) (c : Change) (steps : List Step)
    → creates (option_to_list (merge_behind s n c) ++ steps) ≡ creates steps
merge_none s n (Data extent offset bytes) steps = refl
merge_none s n (Point extent generation offset) steps =
    elim (cases_Bool (offset == 0)) [ inl u ↦ rw u refl | inr u ↦ rw u (merge_with_none n (extent_at s extent).point steps) ]
merge_none s n (Fill slot fields) steps = refl
merge_none s n (Clear slot) steps = refl
merge_none s n Widen steps = refl

creates_by : (choices : List Bool) (s : Extents) (n : ℕ) (plan : List Made)
    → creates (steps_by choices (written s n plan)) ≡ length plan
creates_by choices s n [] = refl
creates_by [] s n (m ∷ plan) = ap suc (creates_by [] (after_change s n m.change) (n + 1) plan)
creates_by (false ∷ choices) s n (m ∷ plan) = ap suc (creates_by choices (after_change s n m.change) (n + 1) plan)
creates_by (true ∷ choices) s n (m ∷ plan) =
    ap suc (merge_none s n m.change (steps_by choices (written (after_change s n m.change) (n + 1) plan)) ∙ creates_by choices (after_change s n m.change) (n + 1) plan)

-- What patches name is no matter of the shelf.
named_shelf : (s : Shelf) (n : ℕ) (gs : Groups) (w : Option ℕ) (k : ℕ) (p : List Made)
    → shelves.after_plan s n (named_plan gs w k p) ≡ shelves.after_plan s n p
named_shelf s n gs w k [] = refl
named_shelf s n gs w k (m ∷ p) = named_shelf (shelves.after_change s n m.change) (n + 1) (with_patch gs w k) w (k + 1) p

pub standing_event : (h : History) (event : Event) → standing_of (with_event h event) ≡ after_event (standing_of h) event
standing_event h event = fold-append after_event (at_opening h.opening h.first) h.events (event ∷ [])

whole_of : (st : Standing) (writer : ℕ) (command : Command) (steps : List Step) → IsRight st (Call writer command Done steps)
    → IsWhole st (plan_of st writer command) steps
whole_of st writer command steps (inl answered) = answered.1
whole_of st writer command steps (inr given) = absurd (let r : Done ≡ Refused _ = given.reply_is in cc)

pub done_shelf : (h : History) (writer : ℕ) (command : Command) (steps : List Step) (plan : List Made)
    → IsRight (standing_of h) (Call writer command Done steps) → plan_for (standing_of h) command ≡ Some plan
    → (standing_of (with_event h (Call writer command Done steps))).shelf ≡ shelves.after_plan (standing_of h).shelf (made_by (standing_of h)) plan
done_shelf h writer command steps plan right is =
    let st = standing_of h in
    let n = made_by st in
    let named = plan_of st writer command in
    let whole = whole_of st writer command steps right in
    let count : creates steps ≡ length named = ap creates whole.1 ∙ creates_by whole.0 st.shelf.extents n named in
    let all : take (creates steps) named ≡ named = take_all (creates steps) named (omega (arith, count)) in
    ap (λ st. st.shelf) (standing_event h (Call writer command Done steps))
    ∙ ap (λ p. shelves.after_plan st.shelf n p) all
    ∙ named_shelf st.shelf n st.groups (maker_of writer command) n (unwrap_or (plan_for st command) [])
    ∙ ap (λ o. shelves.after_plan st.shelf n (unwrap_or o [])) is
