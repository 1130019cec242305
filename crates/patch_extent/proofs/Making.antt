-- A plan is made change by change.
use Rattle.std.proofs.Common.{◌≡◌, ℕ, zero, suc, ◌+◌, ◌≤◌, ◌∙◌, Bool, true, false, List, [], ◌∷◌, ◌++◌, length, map, take, Option, refl, sym, ap, subst, append_assoc, append-nil, arith}
use Rattle.std.specs.Prelude.{if◌then◌else◌, option_to_list, replicate}
use Rattle.std.specs.List.{range_with_len}
use Rattle.std.proofs.lemmas.List.{length-append, length-map, length-replicate, map-append, take-append-le, take-map}
use Rattle.patch_model.specs.Step.{Step}
use Rattle.patch_model.specs.Execution.{Execution, extended, followed_by}
use Rattle.patch_model.specs.State.{entries_of}
use Rattle.patch_plans.specs.Groups.{Groups, with_patch, named}
use Rattle.patch_recovery.specs.Change.{Made, step_of}
use Rattle.patch_plans.specs.Extents.{Extents}
use Rattle.patch_plans.specs.Planning.{parts, part}
use Rattle.patch_plans.specs.Writing.{after_change, after_plan, with_patches, steps_of, merge_behind}
use Rattle.patch_extent.specs.Answers.{Setting, IsSettingOf, AreMade, plan_steps}
use Rattle.patch_plans.specs.Joining.{after_plan-++, with_patches-+, joined, joined_none, no_choices_of}
use Rattle.patch_extent.proofs.Patches.{StateLaw, entries_made}

-- steps behind steps
pub followed_both : (run : Execution) (xs ys : List Step) → followed_by (followed_by run xs) ys ≡ followed_by run (xs ++ ys)
followed_both run xs ys = ap (λ s. record run { steps = s }) (append_assoc run.steps xs ys)

pub followed_none : (run : Execution) → followed_by run [] ≡ run
followed_none run = ap (λ s. record run { steps = s }) (append-nil run.steps)

-- Nothing of a plan is made at first.
pub nothing_made : (run : Execution) (writer : Option ℕ) (old : Setting) → IsSettingOf old run → AreMade run writer [] [] old old
nothing_made run writer old h = record {
  stands = subst (IsSettingOf old) (sym (followed_none run)) h;
  counted = ap (λ r. length (entries_of r)) (followed_none run) ∙ omega arith;
  trace_is = sym (append-nil old.cache.trace);
  groups_are = refl;
  extents_are = refl;
}

-- One change more: these steps come behind the others.
pub one_more_made : (run : Execution) (writer : Option ℕ) (cs ds : List Bool) (plan : List Made) (m : Made) (old mid new : Setting) (more : List Step)
    → AreMade run writer cs plan old mid
    → plan_steps run old writer ds (plan ++ m ∷ []) ≡ plan_steps run old writer cs plan ++ more
    → IsSettingOf new (followed_by (followed_by run (plan_steps run old writer cs plan)) more)
    → length (entries_of (followed_by (followed_by run (plan_steps run old writer cs plan)) more)) ≡ length (entries_of (followed_by run (plan_steps run old writer cs plan))) + 1
    → new.cache.trace ≡ mid.cache.trace ++ more
    → new.groups ≡ with_patch mid.groups writer (length (entries_of (followed_by run (plan_steps run old writer cs plan))))
    → new.extents ≡ after_change mid.extents (length (entries_of (followed_by run (plan_steps run old writer cs plan)))) m.change
    → AreMade run writer ds (plan ++ m ∷ []) old new
one_more_made run writer cs ds plan m old mid new more made steps stands count trace groups extents =
    let n = length (entries_of run) in
    let whole : followed_by (followed_by run (plan_steps run old writer cs plan)) more ≡ followed_by run (plan_steps run old writer ds (plan ++ m ∷ [])) =
    followed_both run (plan_steps run old writer cs plan) more ∙ ap (followed_by run) (sym steps) in
    let long : length (plan ++ m ∷ []) ≡ length plan + 1 = length-append plan (m ∷ []) in
    let so_far = made.counted in
    record {
      stands = subst (IsSettingOf new) whole stands;
      counted = ap (λ r. length (entries_of r)) (sym whole) ∙ count ∙ ap (λ k. k + 1) so_far ∙ omega (arith, long);
      trace_is = trace ∙ ap (λ t. t ++ more) made.trace_is ∙ append_assoc old.cache.trace (plan_steps run old writer cs plan) more ∙ ap (λ t. old.cache.trace ++ t) (sym steps);
      groups_are =
          groups ∙ ap (λ gs. with_patch gs writer (length (entries_of (followed_by run (plan_steps run old writer cs plan))))) made.groups_are
          ∙ ap (λ k. with_patch (with_patches old.groups writer n (length plan)) writer k) so_far
          ∙ sym (with_patches-+ old.groups writer n (length plan) 1) ∙ ap (λ k. with_patches old.groups writer n k) (sym long);
      extents_are =
          extents ∙ ap (λ s. after_change s (length (entries_of (followed_by run (plan_steps run old writer cs plan)))) m.change) made.extents_are
          ∙ ap (λ k. after_change (after_plan old.extents n plan) k m.change) so_far
          ∙ sym (after_plan-++ old.extents n plan (m ∷ []));
    }

-- the step that makes a change
abbrev pub create_of : Setting → Option ℕ → Made → Step
create_of s writer m = step_of s.extents.geometry (record m { after = named s.groups writer m.after })

-- its step comes behind those of the others
pub steps_more : (run : Execution) (writer : Option ℕ) (plan : List Made) (m : Made) (old mid : Setting) → AreMade run writer [] plan old mid
    → plan_steps run old writer [] (plan ++ m ∷ []) ≡ plan_steps run old writer [] plan ++ create_of mid writer m ∷ []
steps_more run writer plan m old mid made =
    let n = length (entries_of run) in
    let last : steps_of [] (after_plan old.extents n plan) (with_patches old.groups writer n (length plan)) writer (n + length plan) (m ∷ []) ≡ create_of mid writer m ∷ [] =
    ap (λ s. step_of s.geometry (record m { after = named (with_patches old.groups writer n (length plan)) writer m.after }) ∷ []) (sym made.extents_are)
    ∙ ap (λ gs. step_of mid.extents.geometry (record m { after = named gs writer m.after }) ∷ []) (sym made.groups_are) in
    joined_none old.extents old.groups writer n plan (m ∷ []) ∙ ap (λ xs. plan_steps run old writer [] plan ++ xs) last

-- A patch more, without a merge.
pub patch_made : StateLaw → (run : Execution) (writer : Option ℕ) (plan : List Made) (m : Made) (old mid new : Setting)
    → AreMade run writer [] plan old mid
    → IsSettingOf new (extended (followed_by run (plan_steps run old writer [] plan)) (create_of mid writer m))
    → new.cache.trace ≡ mid.cache.trace ++ create_of mid writer m ∷ []
    → new.groups ≡ with_patch mid.groups writer (length (entries_of (followed_by run (plan_steps run old writer [] plan))))
    → new.extents ≡ after_change mid.extents (length (entries_of (followed_by run (plan_steps run old writer [] plan)))) m.change
    → AreMade run writer [] (plan ++ m ∷ []) old new
patch_made law run writer plan m old mid new made stands trace groups extents =
    one_more_made run writer [] [] plan m old mid new (create_of mid writer m ∷ []) made
    (steps_more run writer plan m old mid made)
    stands (entries_made law (followed_by run (plan_steps run old writer [] plan)) _ _ _ _ _) trace groups extents

-- the merge that comes behind, if it is made
abbrev pub merges : Bool → Option Step → List Step
merges chosen merge = if chosen then option_to_list merge else []

-- what is made without a merge is made with none chosen
pub none_chosen : (run : Execution) (writer : Option ℕ) (plan : List Made) (old mid : Setting) → AreMade run writer [] plan old mid → AreMade run writer (replicate (length plan) false) plan old mid
none_chosen run writer plan old mid made =
    let same = no_choices_of old.extents old.groups writer (length (entries_of run)) plan in
    record {
      stands = subst (λ xs. IsSettingOf mid (followed_by run xs)) (sym same) made.stands;
      counted = ap (λ xs. length (entries_of (followed_by run xs))) same ∙ made.counted;
      trace_is = made.trace_is ∙ ap (λ xs. old.cache.trace ++ xs) (sym same);
      groups_are = made.groups_are;
      extents_are = made.extents_are;
    }

last_steps : (chosen : Bool) (s : Extents) (gs : Groups) (writer : Option ℕ) (n : ℕ) (m : Made)
    → steps_of (chosen ∷ []) s gs writer n (m ∷ []) ≡ step_of s.geometry (record m { after = named gs writer m.after }) ∷ merges chosen (merge_behind s n m.change)
last_steps true s gs writer n m = ap (λ xs. step_of s.geometry (record m { after = named gs writer m.after }) ∷ xs) (append-nil (option_to_list (merge_behind s n m.change)))
last_steps false s gs writer n m = refl

-- The last patch, with its merge or without.
pub last_made : (run : Execution) (writer : Option ℕ) (plan : List Made) (m : Made) (old mid new : Setting) (chosen : Bool) (merge : Option Step)
    → AreMade run writer [] plan old mid
    → merge ≡ merge_behind mid.extents (length (entries_of (followed_by run (plan_steps run old writer [] plan)))) m.change
    → IsSettingOf new (followed_by (extended (followed_by run (plan_steps run old writer [] plan)) (create_of mid writer m)) (merges chosen merge))
    → length (entries_of (followed_by (extended (followed_by run (plan_steps run old writer [] plan)) (create_of mid writer m)) (merges chosen merge)))
    ≡ length (entries_of (followed_by run (plan_steps run old writer [] plan))) + 1
    → new.cache.trace ≡ (mid.cache.trace ++ create_of mid writer m ∷ []) ++ merges chosen merge
    → new.groups ≡ with_patch mid.groups writer (length (entries_of (followed_by run (plan_steps run old writer [] plan))))
    → new.extents ≡ after_change mid.extents (length (entries_of (followed_by run (plan_steps run old writer [] plan)))) m.change
    → AreMade run writer (replicate (length plan) false ++ chosen ∷ []) (plan ++ m ∷ []) old new
last_made run writer plan m old mid new chosen merge made is stands count trace groups extents =
    let n = length (entries_of run) in
    let step = create_of mid writer m in
    let more = step ∷ merges chosen merge in
    let same = no_choices_of old.extents old.groups writer n plan in
    let quiet = none_chosen run writer plan old mid made in
    let run1 = followed_by run (plan_steps run old writer [] plan) in
    let at : run1 ≡ followed_by run (plan_steps run old writer (replicate (length plan) false) plan) = ap (followed_by run) (sym same) in
    let both : followed_by (extended run1 step) (merges chosen merge) ≡ followed_by run1 more = followed_both run1 (step ∷ []) (merges chosen merge) in
    let behind : merge_behind (after_plan old.extents n plan) (n + length plan) m.change ≡ merge =
    ap (λ s. merge_behind s (n + length plan) m.change) (sym made.extents_are) ∙ ap (λ k. merge_behind mid.extents k m.change) (sym made.counted) ∙ sym is in
    let last : steps_of (chosen ∷ []) (after_plan old.extents n plan) (with_patches old.groups writer n (length plan)) writer (n + length plan) (m ∷ []) ≡ more =
    last_steps chosen (after_plan old.extents n plan) (with_patches old.groups writer n (length plan)) writer (n + length plan) m
    ∙ ap (λ s. step_of s.geometry (record m { after = named (with_patches old.groups writer n (length plan)) writer m.after }) ∷ merges chosen
    (merge_behind (after_plan old.extents n plan) (n + length plan) m.change)) (sym made.extents_are)
    ∙ ap (λ gs. step_of mid.extents.geometry (record m { after = named gs writer m.after }) ∷ merges chosen (merge_behind (after_plan old.extents n plan) (n + length plan) m.change))
    (sym made.groups_are)
    ∙ ap (λ x. step ∷ merges chosen x) behind in
    one_more_made run writer (replicate (length plan) false) (replicate (length plan) false ++ chosen ∷ []) plan m old mid new more quiet
    (joined old.extents old.groups writer n plan (m ∷ []) (replicate (length plan) false) (chosen ∷ []) (length-replicate (length plan) false)
    ∙ ap (λ xs. plan_steps run old writer (replicate (length plan) false) plan ++ xs) last)
    (subst (λ r. IsSettingOf new (followed_by r more)) at (subst (IsSettingOf new) both stands))
    (ap (λ r. length (entries_of (followed_by r more))) (sym at) ∙ ap (λ r. length (entries_of r)) (sym both) ∙ count ∙ ap (λ r. length (entries_of r) + 1) at)
    (trace ∙ append_assoc mid.cache.trace (step ∷ []) (merges chosen merge))
    (groups ∙ ap (λ r. with_patch mid.groups writer (length (entries_of r))) at)
    (extents ∙ ap (λ r. after_change mid.extents (length (entries_of r)) m.change) at)

-- The parts of an append, up to one more.

pub range_more : (a n : ℕ) → range_with_len a (suc n) ≡ range_with_len a n ++ (a + n) ∷ []
range_more a zero = ap (λ k. k ∷ []) (let e : a ≡ a + 0 = omega arith in e)
range_more a (suc n) = ap (λ xs. a ∷ xs) (range_more (a + 1) n ∙ ap (λ k. range_with_len (a + 1) n ++ k ∷ []) (let e : a + 1 + n ≡ a + suc n = omega arith in e))

abbrev made_part : (extent offset : ℕ) (bytes names : List ℕ) → ℕ → Made
made_part extent offset bytes names k = record { change = part extent offset bytes k; after = names }

pub parts_more : (extent offset : ℕ) (bytes names : List ℕ) (k : ℕ)
    → parts extent offset bytes names (k + 1) ≡ parts extent offset bytes names k ++ record { change = part extent offset bytes k; after = names } ∷ []
parts_more extent offset bytes names k =
    let e : k + 1 ≡ suc k = omega arith in
    let z : 0 + k ≡ k = omega arith in
    ap (parts extent offset bytes names) e ∙ ap (map (made_part extent offset bytes names)) (range_more 0 k ∙ ap (λ i. range_with_len 0 k ++ i ∷ []) z)
    ∙ map-append (made_part extent offset bytes names) (range_with_len 0 k) (k ∷ [])

length-range : (a n : ℕ) → length (range_with_len a n) ≡ n
length-range a zero = refl
length-range a (suc n) = ap suc (length-range (a + 1) n)

pub length-parts : (extent offset : ℕ) (bytes names : List ℕ) (k : ℕ) → length (parts extent offset bytes names k) ≡ k
length-parts extent offset bytes names k = length-map (range_with_len 0 k) (made_part extent offset bytes names) ∙ length-range 0 k

take_range : (a j n : ℕ) → j ≤ n → take j (range_with_len a n) ≡ range_with_len a j
take_range a zero n le = refl
take_range a (suc j) zero le = absurd (omega (arith, le))
take_range a (suc j) (suc n) le = ap (λ xs. a ∷ xs) (take_range (a + 1) j n (omega (arith, le)))

-- the first parts of a plan
pub take_parts : (extent offset : ℕ) (bytes names : List ℕ) (j k : ℕ) (m : Made) → j ≤ k
    → take j (parts extent offset bytes names k ++ m ∷ []) ≡ parts extent offset bytes names j
take_parts extent offset bytes names j k m le =
    let long = length-parts extent offset bytes names k in
    take-append-le j (parts extent offset bytes names k) (m ∷ []) (omega (arith, long))
    ∙ take-map (made_part extent offset bytes names) j (range_with_len 0 k) ∙ ap (map (made_part extent offset bytes names)) (take_range 0 j k le)
