-- The groups of a cache are its groups after a plan, too.
use Rattle.std.proofs.Common.{◌≡◌, ℕ, ◌+◌, ◌∙◌, inl, inr, Bool, true, false, List, [], ◌∷◌, ◌++◌, length, Option, Some, None, refl, sym, ap, subst}
use Rattle.std.specs.Prelude.{◌==◌, option_to_list}
use Rattle.std.proofs.lemmas.Bool.{cases_Bool}
use Rattle.patch_model.specs.declared.patches.Undo.TheVariants.{MayDrop}
use Rattle.patch_model.specs.Step.{Merge}
use Rattle.patch_model.specs.Execution.{Execution, extended, followed_by}
use Rattle.patch_model.specs.State.{entries_of}
use Rattle.patch_plans.specs.Groups.{Groups, named, with_patch}
use Rattle.patch_plans.specs.Order.{AreGroupsOf, StepsKeep, PatchesKeep}
use Rattle.patch_recovery.specs.Change.{Change, Data, Point, Fill, Clear, Widen, Made, step_of, block_of, start_of, bytes_of}
use Rattle.patch_plans.specs.Extents.{Extents, extent_at}
use Rattle.patch_plans.specs.Writing.{after_change, with_patches, steps_of, merge_behind, merge_with}
use Rattle.patch_extent.proofs.Patches.{StateLaw, entries_made, entries_stay}
use Rattle.patch_extent.proofs.Making.{followed_both, followed_none}

-- what is kept over a merge, if one is made
record Stays (run next : Execution) (gs : Groups) : Type 0 where
  groups : AreGroupsOf next gs
  count : length (entries_of next) ≡ length (entries_of run)

merge_keeps : StateLaw → StepsKeep → (run : Execution) (gs : Groups) (o : Option ℕ) (n : ℕ) → AreGroupsOf run gs → Stays run (followed_by run (option_to_list (merge_with n o))) gs
merge_keeps law steps run gs None n h = record { groups = subst (λ r. AreGroupsOf r gs) (sym (followed_none run)) h; count = ap (λ r. length (entries_of r)) (followed_none run) }
merge_keeps law steps run gs (Some b) n h = record { groups = steps run gs (Merge b n) h; count = entries_stay law run (Merge b n) refl }

none_keeps : (run : Execution) (gs : Groups) → AreGroupsOf run gs → Stays run (followed_by run []) gs
none_keeps run gs h = record { groups = subst (λ r. AreGroupsOf r gs) (sym (followed_none run)) h; count = ap (λ r. length (entries_of r)) (followed_none run) }

behind_keeps : StateLaw → StepsKeep → (run : Execution) (gs : Groups) (s : Extents) (n : ℕ) (c : Change) → AreGroupsOf run gs → Stays run (followed_by run (option_to_list (merge_behind s n c))) gs
behind_keeps law steps run gs s n (Data extent offset bytes) h = none_keeps run gs h
behind_keeps law steps run gs s n (Point extent generation offset) h = elim (cases_Bool (offset == 0)) [
  | inl u ↦ rw u (none_keeps run gs h)
  | inr u ↦ rw u (merge_keeps law steps run gs (extent_at s extent).point n h)
]
behind_keeps law steps run gs s n (Fill slot fields) h = none_keeps run gs h
behind_keeps law steps run gs s n (Clear slot) h = none_keeps run gs h
behind_keeps law steps run gs s n Widen h = none_keeps run gs h

one_keeps : PatchesKeep → (run : Execution) (s : Extents) (gs : Groups) (w : Option ℕ) (n : ℕ) (m : Made) → n ≡ length (entries_of run) → AreGroupsOf run gs
    → AreGroupsOf (extended run (step_of s.geometry (record m { after = named gs w m.after }))) (with_patch gs w n)
one_keeps patches run s gs w n m at h =
    subst (λ k. AreGroupsOf (extended run (step_of s.geometry (record m { after = named gs w m.after }))) (with_patch gs w k)) (sym at)
    (patches run gs w (block_of s.geometry m.change) (start_of m.change) (bytes_of s.geometry m.change) m.after MayDrop h)

pub groups_stay : StateLaw → StepsKeep → PatchesKeep → (choices : List Bool) (s : Extents) (gs : Groups) (w : Option ℕ) (n : ℕ) (plan : List Made) (run : Execution)
    → n ≡ length (entries_of run) → AreGroupsOf run gs → AreGroupsOf (followed_by run (steps_of choices s gs w n plan)) (with_patches gs w n (length plan))
groups_stay law steps patches choices s gs w n [] run at h = subst (λ r. AreGroupsOf r gs) (sym (followed_none run)) h
groups_stay law steps patches [] s gs w n (m ∷ plan) run at h =
    let step = step_of s.geometry (record m { after = named gs w m.after }) in
    let more = steps_of [] (after_change s n m.change) (with_patch gs w n) w (n + 1) plan in
    subst (λ r. AreGroupsOf r (with_patches (with_patch gs w n) w (n + 1) (length plan))) (followed_both run (step ∷ []) more)
    (groups_stay law steps patches [] (after_change s n m.change) (with_patch gs w n) w (n + 1) plan (extended run step)
    (ap (λ k. k + 1) at ∙ sym (entries_made law run _ _ _ _ _)) (one_keeps patches run s gs w n m at h))
groups_stay law steps patches (false ∷ choices) s gs w n (m ∷ plan) run at h =
    let step = step_of s.geometry (record m { after = named gs w m.after }) in
    let more = steps_of choices (after_change s n m.change) (with_patch gs w n) w (n + 1) plan in
    subst (λ r. AreGroupsOf r (with_patches (with_patch gs w n) w (n + 1) (length plan))) (followed_both run (step ∷ []) more)
    (groups_stay law steps patches choices (after_change s n m.change) (with_patch gs w n) w (n + 1) plan (extended run step)
    (ap (λ k. k + 1) at ∙ sym (entries_made law run _ _ _ _ _)) (one_keeps patches run s gs w n m at h))
groups_stay law steps patches (true ∷ choices) s gs w n (m ∷ plan) run at h =
    let step = step_of s.geometry (record m { after = named gs w m.after }) in
    let merges = option_to_list (merge_behind s n m.change) in
    let mid = followed_by (extended run step) merges in
    let more = steps_of choices (after_change s n m.change) (with_patch gs w n) w (n + 1) plan in
    let kept = behind_keeps law steps (extended run step) (with_patch gs w n) s n m.change (one_keeps patches run s gs w n m at h) in
    subst (λ r. AreGroupsOf r (with_patches (with_patch gs w n) w (n + 1) (length plan))) (followed_both (extended run step) merges more ∙ followed_both run (step ∷ []) (merges ++ more))
    (groups_stay law steps patches choices (after_change s n m.change) (with_patch gs w n) w (n + 1) plan mid
    (ap (λ k. k + 1) at ∙ sym (kept.count ∙ entries_made law run _ _ _ _ _)) kept.groups)
