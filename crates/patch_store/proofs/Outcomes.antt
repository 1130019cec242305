-- What came of the merges of a plan: of none of its patches, of some first ones, and of those of one plan behind another.
use Rattle.std.proofs.Common.{◌≡◌, ℕ, zero, suc, ◌+◌, ◌≤◌, ◌∙◌, false, List, [], ◌∷◌, ◌++◌, length, map, take, append_assoc, append-nil, refl, sym, ap, subst, arith}
use Rattle.std.specs.Prelude.{fold, None, Option}
use Rattle.std.proofs.lemmas.List.{length-append, length-map, length-take-le, map-append, take-append-le, take_all}
use Rattle.patch_model.specs.Step.{Step}
use Rattle.patch_model.specs.Execution.{Execution, extended, followed_by}
use Rattle.patch_extent.specs.declared.places.MergeOutcome.{MergeOutcome}
use Rattle.patch_extent.specs.declared.places.MergeOutcome.TheVariants as merge
use Rattle.patch_extent.specs.Merging.{is_made}
use Rattle.patch_plans.specs.Extents.{Extents}
use Rattle.patch_plans.specs.Groups.{Groups}
use Rattle.patch_plans.specs.Joining.{steps_by-++, written-++, named_plan-++, after_plan-named_plan, length-named_plan, length-written}
use Rattle.patch_plans.specs.Writing.{Written, after_change, after_plan, named_plan, with_patches, merge_behind, written, steps_by}
use Rattle.patch_recovery.specs.Change.{Made, step_of}
use Rattle.patch_history.specs.StoreState.{creates}
use Rattle.patch_store.specs.Merging.{IsRight, AreRight, counted_with, HasMerged}
use Rattle.patch_store.proofs.Counted.{creates_by}

pub followed_both : (run : Execution) (xs ys : List Step) → followed_by (followed_by run xs) ys ≡ followed_by run (xs ++ ys)
followed_both run xs ys = ap (λ s. record run { steps = s }) (append_assoc run.steps xs ys)

pub followed_none : (run : Execution) → followed_by run [] ≡ run
followed_none run = ap (λ s. record run { steps = s }) (append-nil run.steps)

pub take_behind : {X : Type 0} (p q : List X) (k m : ℕ) → m ≡ length p + k → take m (p ++ q) ≡ p ++ take k q
take_behind [] q k m is = ap (λ i. take i q) (let e : m ≡ k = omega (arith, is) in e)
take_behind (x ∷ p) q k m is =
    ap (λ i. take i (x ∷ (p ++ q))) (let e : m ≡ suc (length p + k) = omega (arith, is) in e)
    ∙ ap (λ r. x ∷ r) (take_behind p q k (length p + k) refl)

-- How plans are written, some first changes and one behind another.

pub take_written : (i : ℕ) (s : Extents) (n : ℕ) (plan : List Made) → take i (written s n plan) ≡ written s n (take i plan)
take_written zero s n [] = refl
take_written zero s n (m ∷ plan) = refl
take_written (suc i) s n [] = refl
take_written (suc i) s n (m ∷ plan) = ap (λ ws. record { create = step_of s.geometry m; merge = merge_behind s n m.change } ∷ ws)
    (take_written i (after_change s n m.change) (n + 1) plan)

pub written_behind : (s : Extents) (gs : Groups) (w : Option ℕ) (n : ℕ) (p q : List Made)
    → written s n (named_plan gs w n (p ++ q))
    ≡ written s n (named_plan gs w n p) ++ written (after_plan s n p) (n + length p) (named_plan (with_patches gs w n (length p)) w (n + length p) q)
written_behind s gs w n p q =
    let first : List Made = named_plan gs w n p in
    let last : List Made = named_plan (with_patches gs w n (length p)) w (n + length p) q in
    ap (written s n) (named_plan-++ gs w n p q) ∙ written-++ s n first last
    ∙ ap (λ t. written s n first ++ written t (n + length first) last) (after_plan-named_plan s gs w n p)
    ∙ ap (λ k. written s n first ++ written (after_plan s n p) (n + k) last) (length-named_plan gs w n p)

-- What is right of some patches.

-- there are no more outcomes than patches
pub right_few : (run : Execution) (os : List MergeOutcome) (ws : List Written) → AreRight run os ws → length os ≤ length ws
right_few run [] ws right = omega arith
right_few run (o ∷ os) [] right = absurd right
right_few run (o ∷ os) (w ∷ ws) right =
    let e = right_few (followed_by run (steps_by (is_made o ∷ []) (w ∷ []))) os ws right.1 in omega (arith, e)

-- it is right of a longer plan
right_wider : (run : Execution) (os : List MergeOutcome) (ws vs : List Written) → AreRight run os ws → AreRight run os (ws ++ vs)
right_wider run [] ws vs right = tt
right_wider run (o ∷ os) [] vs right = absurd right
right_wider run (o ∷ os) (w ∷ ws) vs right =
    (right.0, right_wider (followed_by run (steps_by (is_made o ∷ []) (w ∷ []))) os ws vs right.1)

-- and so is what is right behind it
right_joined : (run : Execution) (os ps : List MergeOutcome) (ws vs : List Written) → AreRight run os ws → length os ≡ length ws
    → AreRight (followed_by run (steps_by (map is_made os) ws)) ps vs → AreRight run (os ++ ps) (ws ++ vs)
right_joined run [] ps [] vs right all more = subst (λ r. AreRight r ps vs) (followed_none run) more
right_joined run [] ps (w ∷ ws) vs right all more = absurd (omega (arith, all))
right_joined run (o ∷ os) ps [] vs right all more = absurd right
right_joined run (o ∷ os) ps (w ∷ ws) vs right all more =
    let first = steps_by (is_made o ∷ []) (w ∷ []) in
    let same : followed_by run (steps_by (map is_made (o ∷ os)) (w ∷ ws)) ≡ followed_by (followed_by run first) (steps_by (map is_made os) ws) =
    ap (followed_by run) (steps_by-++ (is_made o ∷ []) (map is_made os) (w ∷ []) ws refl) ∙ sym (followed_both run first (steps_by (map is_made os) ws)) in
    (right.0, right_joined (followed_by run first) os ps ws vs right.1 (omega (arith, all)) (subst (λ r. AreRight r ps vs) same more))

counted_both : (count : ℕ) (os ps : List MergeOutcome) → fold counted_with count (os ++ ps) ≡ fold counted_with (fold counted_with count os) ps
counted_both count [] ps = refl
counted_both count (o ∷ os) ps = counted_both (counted_with count o) os ps

-- What has merged.

-- of no patch no merge was left out
pub merged_none : (run : Execution) (ws : List Written) (before after : ℕ) → after ≡ before → HasMerged run ws [] before after
merged_none run ws before after same = record { outcomes = []; right = tt; steps_are = refl; counted = same }

-- nor of a plan of one patch behind which there is none
pub merged_one : (run : Execution) (ws : List Written) (w : Written) (steps : List Step) (before after : ℕ)
    → ws ≡ w ∷ [] → w.merge ≡ None → steps ≡ steps_by [] ws → after ≡ before → HasMerged run ws steps before after
merged_one run ws w steps before after one none are same = record {
  outcomes = merge.NotLegal ∷ [];
  right = subst (AreRight run (merge.NotLegal ∷ [])) (sym one) (subst (λ m. IsRight (extended run w.create) m merge.NotLegal) (sym none) (λ come. come), tt);
  steps_are = are ∙ ap (steps_by []) one ∙ sym (ap (λ vs. steps_by (false ∷ []) (take 1 vs)) one);
  counted = same;
}

-- some first patches of a plan are those of a longer one
pub merged_wider : (run : Execution) (ws vs : List Written) (steps : List Step) (before after : ℕ) → HasMerged run ws steps before after
    → HasMerged run (ws ++ vs) steps before after
merged_wider run ws vs steps before after m = record {
  outcomes = m.outcomes;
  right = right_wider run m.outcomes ws vs m.right;
  steps_are = m.steps_are
      ∙ ap (steps_by (map is_made m.outcomes)) (sym (take-append-le (length m.outcomes) ws vs (right_few run m.outcomes ws m.right)));
  counted = m.counted;
}

-- all of one plan, and then some first ones of another
pub merged_joined : (run : Execution) (ws vs : List Written) (steps more : List Step) (before between after : ℕ)
    → (m : HasMerged run ws steps before between) → length m.outcomes ≡ length ws → HasMerged (followed_by run steps) vs more between after
    → HasMerged run (ws ++ vs) (steps ++ more) before after
merged_joined run ws vs steps more before between after m all n =
    let os = m.outcomes in
    let ps = n.outcomes in
    let whole : steps ≡ steps_by (map is_made os) ws =
    m.steps_are ∙ ap (steps_by (map is_made os)) (take_all (length os) ws (omega (arith, all))) in
    let count = length-append os ps in
    record {
      outcomes = os ++ ps;
      right = right_joined run os ps ws vs m.right all (subst (λ s. AreRight (followed_by run s) ps vs) whole n.right);
      steps_are = ap (λ s. s ++ more) whole ∙ ap (λ s. steps_by (map is_made os) ws ++ s) n.steps_are
          ∙ sym (steps_by-++ (map is_made os) (map is_made ps) ws (take (length ps) vs) (length-map os is_made ∙ all))
          ∙ ap (λ cs. steps_by cs (ws ++ take (length ps) vs)) (sym (map-append is_made os ps))
          ∙ ap (steps_by (map is_made (os ++ ps))) (sym (take_behind ws vs (length ps) (length (os ++ ps)) (omega (arith, count, all))));
      counted = n.counted ∙ ap (λ c. fold counted_with c ps) m.counted ∙ sym (counted_both before os ps);
    }

-- there is an outcome for each patch that the steps make
pub outcomes_made : (run : Execution) (s : Extents) (n : ℕ) (plan : List Made) (steps : List Step) (before after : ℕ)
    → (m : HasMerged run (written s n plan) steps before after) → length m.outcomes ≡ creates steps
outcomes_made run s n plan steps before after m =
    let k = length m.outcomes in
    let few = right_few run m.outcomes (written s n plan) m.right in
    let long = length-written s n plan in
    sym (ap creates m.steps_are ∙ ap (λ ws. creates (steps_by (map is_made m.outcomes) ws)) (take_written k s n plan)
    ∙ creates_by (map is_made m.outcomes) s n (take k plan) ∙ length-take-le k plan (omega (arith, few, long)))
