-- What the steps alone tell of the merges: which patch has its merge behind it, and which could have had it and has not.
use Rattle.std.proofs.Common.{◌≡◌, ℕ, ◌+◌, ◌∙◌, Bool, true, false, inl, inr, List, [], ◌∷◌, ◌++◌, length, map, take, drop, append_assoc, append-nil, refl, sym, ap, subst}
use Rattle.std.specs.Prelude.{◌==◌, fold, Option, Some, None, option_to_list}
use Rattle.std.proofs.lemmas.Bool.{cases_Bool}
use Rattle.patch_model.specs.Step.{Step, Create, Merge, Send, Complete}
use Rattle.patch_model.specs.Execution.{Execution, extended, followed_by}
use Rattle.patch_extent.specs.declared.places.MergeOutcome.{MergeOutcome}
use Rattle.patch_extent.specs.declared.places.MergeOutcome.TheVariants as merge
use Rattle.patch_extent.specs.Merging.{is_made}
use Rattle.patch_plans.specs.Extents.{Extents, extent_at}
use Rattle.patch_plans.specs.Writing.{Written, after_change, merge_with, merge_behind, written, steps_by}
use Rattle.patch_recovery.specs.Change.{Change, Data, Point, Fill, Clear, Widen, Made, step_of}
use Rattle.patch_history.specs.StoreState.{creates}
use Rattle.patch_store.specs.Merging.{IsRight, AreRight, counted_with, HasMerged}
use Rattle.patch_store.proofs.Outcomes.{followed_both, followed_none, merged_none, take_written}

-- a merge is the first of the steps
abbrev pub begins_merged : List Step → Bool
begins_merged [] = false
begins_merged (Create block start bytes after undo ∷ steps) = false
begins_merged (Merge a b ∷ steps) = true
begins_merged (Send block ∷ steps) = false
begins_merged (Complete block ∷ steps) = false

-- What steps tell of the merges of these patches, as many as the steps make: each was made just where it stands right behind its
-- patch. Those that could have come there, and did not, are counted.
abbrev pub AreTold : Execution → List Step → List Written → (before after : ℕ) → Type 0
AreTold run [] ws before after = after ≡ before
AreTold run (Create block start bytes names undo ∷ steps) [] before after = ⊥
AreTold run (Create block start bytes names undo ∷ steps) (w ∷ ws) before after =
    (o : MergeOutcome)
    × IsRight (extended run (Create block start bytes names undo)) w.merge o
    × (is_made o ≡ begins_merged steps)
    × AreTold (extended run (Create block start bytes names undo)) steps ws (counted_with before o) after
AreTold run (Merge a b ∷ steps) ws before after = AreTold (extended run (Merge a b)) steps ws before after
AreTold run (Send block ∷ steps) ws before after = AreTold (extended run (Send block)) steps ws before after
AreTold run (Complete block ∷ steps) ws before after = AreTold (extended run (Complete block)) steps ws before after

-- What may stand behind a patch is a merge.

abbrev IsMerge : Option Step → Type 0
IsMerge None = Unit {0}
IsMerge (Some (Create block start bytes after undo)) = ⊥
IsMerge (Some (Merge a b)) = Unit {0}
IsMerge (Some (Send block)) = ⊥
IsMerge (Some (Complete block)) = ⊥

merge_with_is : (n : ℕ) (before : Option ℕ) → IsMerge (merge_with n before)
merge_with_is n None = tt
merge_with_is n (Some before) = tt

merge_is : (s : Extents) (n : ℕ) (c : Change) → IsMerge (merge_behind s n c)
merge_is s n (Data extent offset bytes) = tt
merge_is s n (Point extent generation offset) = elim (cases_Bool (offset == 0)) [
  | inl u ↦ rw u tt
  | inr u ↦ rw u (merge_with_is n (extent_at s extent).point)
]
merge_is s n (Fill slot fields) = tt
merge_is s n (Clear slot) = tt
merge_is s n Widen = tt

-- what stands there, where it is made and where it is not
abbrev behind : Bool → Option Step → List Step
behind true m = option_to_list m
behind false m = []

steps_first : (c : Bool) (cs : List Bool) (w : Written) (ws : List Written) → steps_by (c ∷ cs) (w ∷ ws) ≡ w.create ∷ (behind c w.merge ++ steps_by cs ws)
steps_first true cs w ws = refl
steps_first false cs w ws = refl

steps_one : (c : Bool) (w : Written) → steps_by (c ∷ []) (w ∷ []) ≡ w.create ∷ behind c w.merge
steps_one true w = ap (λ xs. w.create ∷ xs) (append-nil (option_to_list w.merge))
steps_one false w = refl

-- steps of a plan do not begin with one
pub plan_begins : (choices : List Bool) (s : Extents) (n : ℕ) (plan : List Made) → begins_merged (steps_by choices (written s n plan)) ≡ false
plan_begins [] s n [] = refl
plan_begins (true ∷ choices) s n [] = refl
plan_begins (false ∷ choices) s n [] = refl
plan_begins [] s n (m ∷ plan) = refl
plan_begins (true ∷ choices) s n (m ∷ plan) = refl
plan_begins (false ∷ choices) s n (m ∷ plan) = refl

-- nor do some steps and others behind them, where neither do
pub some_begin : (steps more : List Step) → begins_merged steps ≡ false → begins_merged more ≡ false → begins_merged (steps ++ more) ≡ false
some_begin [] more first later = later
some_begin (Create block start bytes after undo ∷ steps) more first later = refl
some_begin (Merge a b ∷ steps) more first later = first
some_begin (Send block ∷ steps) more first later = refl
some_begin (Complete block ∷ steps) more first later = refl

-- nor do the first of such steps
pub first_begin : (steps rest : List Step) → begins_merged (steps ++ rest) ≡ false → begins_merged steps ≡ false
first_begin [] rest all = refl
first_begin (Create block start bytes after undo ∷ steps) rest all = refl
first_begin (Merge a b ∷ steps) rest all = all
first_begin (Send block ∷ steps) rest all = refl
first_begin (Complete block ∷ steps) rest all = refl

-- The outcomes of a call are what its steps tell.

-- a merge behind a patch tells nothing by itself
behind_tells : (run : Execution) (c : Bool) (m : Option Step) (steps : List Step) (ws : List Written) (before after : ℕ) → IsMerge m
    → AreTold (followed_by run (behind c m)) steps ws before after → AreTold run (behind c m ++ steps) ws before after
behind_tells run true None steps ws before after is told = subst (λ r. AreTold r steps ws before after) (followed_none run) told
behind_tells run true (Some (Create block start bytes names undo)) steps ws before after is told = absurd is
behind_tells run true (Some (Merge a b)) steps ws before after is told = told
behind_tells run true (Some (Send block)) steps ws before after is told = absurd is
behind_tells run true (Some (Complete block)) steps ws before after is told = absurd is
behind_tells run false m steps ws before after is told = subst (λ r. AreTold r steps ws before after) (followed_none run) told

-- and one that was made is seen
made_seen : (run : Execution) (o : MergeOutcome) (m : Option Step) (steps : List Step) → IsMerge m → IsRight run m o → begins_merged steps ≡ false
    → is_made o ≡ begins_merged (behind (is_made o) m ++ steps)
made_seen run merge.Made None steps is right plain = absurd right
made_seen run merge.Made (Some (Create block start bytes after undo)) steps is right plain = absurd is
made_seen run merge.Made (Some (Merge a b)) steps is right plain = refl
made_seen run merge.Made (Some (Send block)) steps is right plain = absurd is
made_seen run merge.Made (Some (Complete block)) steps is right plain = absurd is
made_seen run merge.NotLegal m steps is right plain = sym plain
made_seen run merge.NoMemory m steps is right plain = sym plain

-- so it is of all patches of a call
pub call_tells : (os : List MergeOutcome) (run : Execution) (s : Extents) (n : ℕ) (plan : List Made) (later : List Step) (vs : List Written) (before after : ℕ)
    → AreRight run os (written s n plan) → begins_merged later ≡ false
    → AreTold (followed_by run (steps_by (map is_made os) (take (length os) (written s n plan)))) later vs (fold counted_with before os) after
    → AreTold run (steps_by (map is_made os) (take (length os) (written s n plan)) ++ later) (take (length os) (written s n plan) ++ vs) before after
call_tells [] run s n plan later vs before after right plain told = subst (λ r. AreTold r later vs before after) (followed_none run) told
call_tells (o ∷ os) run s n [] later vs before after right plain told = absurd right
call_tells (o ∷ os) run s n (m ∷ plan) later vs before after right plain told =
    let w : Written = record { create = step_of s.geometry m; merge = merge_behind s n m.change } in
    let ws = written (after_change s n m.change) (n + 1) plan in
    let one = behind (is_made o) w.merge in
    let more = steps_by (map is_made os) (take (length os) ws) in
    let all : steps_by (map is_made (o ∷ os)) (take (length (o ∷ os)) (w ∷ ws)) ≡ w.create ∷ (one ++ more) =
    steps_first (is_made o) (map is_made os) w (take (length os) ws) in
    let is : IsMerge w.merge = merge_is s n m.change in
    let plainly : begins_merged (more ++ later) ≡ false =
    some_begin more later
    (ap (λ us. begins_merged (steps_by (map is_made os) us)) (take_written (length os) (after_change s n m.change) (n + 1) plan)
    ∙ plan_begins (map is_made os) (after_change s n m.change) (n + 1) (take (length os) plan)) plain in
    let there : followed_by run (steps_by (is_made o ∷ []) (w ∷ [])) ≡ followed_by (extended run w.create) one =
    ap (followed_by run) (steps_one (is_made o) w) ∙ sym (followed_both run (w.create ∷ []) one) in
    let reached : followed_by run (steps_by (map is_made (o ∷ os)) (take (length (o ∷ os)) (w ∷ ws)))
    ≡ followed_by (followed_by run (steps_by (is_made o ∷ []) (w ∷ []))) more =
    ap (followed_by run) all ∙ sym (followed_both run (w.create ∷ one) more)
    ∙ ap (λ xs. followed_by (followed_by run xs) more) (sym (steps_one (is_made o) w)) in
    let rest : AreTold (followed_by (extended run w.create) one) (more ++ later) (take (length os) ws ++ vs) (counted_with before o) after =
    subst (λ r. AreTold r (more ++ later) (take (length os) ws ++ vs) (counted_with before o) after) there
    (call_tells os (followed_by run (steps_by (is_made o ∷ []) (w ∷ []))) (after_change s n m.change) (n + 1) plan later vs
    (counted_with before o) after right.1 plain
    (subst (λ r. AreTold r later vs (fold counted_with before (o ∷ os)) after) reached told)) in
    let tail : (one ++ more) ++ later ≡ one ++ (more ++ later) = append_assoc one more later in
    let found : AreTold run (w.create ∷ ((one ++ more) ++ later)) (w ∷ (take (length os) ws ++ vs)) before after = (
      o,
      right.0,
      made_seen (extended run w.create) o w.merge (more ++ later) is right.0 plainly ∙ ap begins_merged (sym tail),
      subst (λ xs. AreTold (extended run w.create) xs (take (length os) ws ++ vs) (counted_with before o) after) (sym tail)
          (behind_tells (extended run w.create) (is_made o) w.merge (more ++ later) (take (length os) ws ++ vs) (counted_with before o) after is rest),
    ) in
    subst (λ xs. AreTold run (xs ++ later) (w ∷ (take (length os) ws ++ vs)) before after) (sym all) found

-- What the steps of a call tell are its outcomes.

abbrev head_or : Step → List Step → Step
head_or d [] = d
head_or d (x ∷ xs) = x

rest_same : (x y : Step) (xs ys : List Step) → x ∷ xs ≡ y ∷ ys → xs ≡ ys
rest_same x y xs ys is = ap (drop 1) is

merged_plain : (x : Step) (steps : List Step) → begins_merged (x ∷ steps) ≡ true → begins_merged (x ∷ []) ≡ false → ⊥
merged_plain (Create block start bytes after undo) steps merged plain = let g : true ≡ false = sym merged in cc
merged_plain (Merge a b) steps merged plain = let g : true ≡ false = plain in cc
merged_plain (Send block) steps merged plain = let g : true ≡ false = sym merged in cc
merged_plain (Complete block) steps merged plain = let g : true ≡ false = sym merged in cc

-- What is left of steps behind a patch once its merge is taken from their front, where it was made: some first ones of others.
abbrev Left : Bool → Option Step → (steps others : List Step) → Type 0
Left c m steps others = (left : List Step) × (rest : List Step) × (steps ≡ behind c m ++ left) × (left ++ rest ≡ others)

-- where none stands
left_plain : (m : Option Step) (steps rest others : List Step) → steps ++ rest ≡ others → Left false m steps others
left_plain m steps rest others is = (steps, rest, refl, is)

-- where one could stand and does not
left_out : (a b : ℕ) (m : Option Step) (steps rest others later : List Step) → steps ++ rest ≡ Merge a b ∷ others → false ≡ begins_merged (steps ++ later)
    → Left false m steps others
left_out a b m [] rest others later is not = ([], others, refl, refl)
left_out a b m (x ∷ steps) rest others later is not =
    let merged : begins_merged (x ∷ (steps ++ rest)) ≡ true = ap begins_merged is in
    let plain = first_begin (x ∷ []) (steps ++ later) (sym not) in
    absurd (merged_plain x (steps ++ rest) merged plain)

left_behind : (c : Bool) (m : Option Step) (steps rest others later : List Step) → IsMerge m → steps ++ rest ≡ behind c m ++ others
    → false ≡ begins_merged (steps ++ later) → Left false m steps others
left_behind true None steps rest others later is are not = left_plain None steps rest others are
left_behind true (Some (Create block start bytes after undo)) steps rest others later is are not = absurd is
left_behind true (Some (Merge a b)) steps rest others later is are not = left_out a b (Some (Merge a b)) steps rest others later are not
left_behind true (Some (Send block)) steps rest others later is are not = absurd is
left_behind true (Some (Complete block)) steps rest others later is are not = absurd is
left_behind false m steps rest others later is are not = left_plain m steps rest others are

-- where one stands
left_merged : (c : Bool) (a b : ℕ) (steps rest others later : List Step) → steps ++ rest ≡ behind c (Some (Merge a b)) ++ others
    → begins_merged others ≡ false → begins_merged later ≡ false → true ≡ begins_merged (steps ++ later) → Left true (Some (Merge a b)) steps others
left_merged c a b [] rest others later are plain plainly made = absurd (let g : true ≡ false = made ∙ plainly in cc)
left_merged true a b (x ∷ steps) rest others later are plain plainly made =
    (steps, rest, ap (λ y. y ∷ steps) (ap (head_or x) are), rest_same x (Merge a b) (steps ++ rest) others are)
left_merged false a b (x ∷ steps) rest others later are plain plainly made =
    absurd (merged_plain x (steps ++ later) (sym made) (first_begin (x ∷ []) (steps ++ rest) (ap begins_merged are ∙ plain)))

left_of : (run : Execution) (o : MergeOutcome) (c : Bool) (m : Option Step) (steps rest others later : List Step) → IsMerge m → IsRight run m o
    → steps ++ rest ≡ behind c m ++ others → begins_merged others ≡ false → begins_merged later ≡ false → is_made o ≡ begins_merged (steps ++ later)
    → Left (is_made o) m steps others
left_of run merge.Made c None steps rest others later is right are plain plainly made = absurd right
left_of run merge.Made c (Some (Create block start bytes after undo)) steps rest others later is right are plain plainly made = absurd is
left_of run merge.Made c (Some (Merge a b)) steps rest others later is right are plain plainly made =
    left_merged c a b steps rest others later are plain plainly made
left_of run merge.Made c (Some (Send block)) steps rest others later is right are plain plainly made = absurd is
left_of run merge.Made c (Some (Complete block)) steps rest others later is right are plain plainly made = absurd is
left_of run merge.NotLegal c m steps rest others later is right are plain plainly made = left_behind c m steps rest others later is are made
left_of run merge.NoMemory c m steps rest others later is right are plain plainly made = left_behind c m steps rest others later is are made

-- what is told behind the merge
told_behind : (run : Execution) (c : Bool) (m : Option Step) (left later : List Step) (ws vs : List Written) (before after : ℕ) → IsMerge m
    → AreTold run ((behind c m ++ left) ++ later) (take (creates (behind c m ++ left)) ws ++ vs) before after
    → AreTold (followed_by run (behind c m)) (left ++ later) (take (creates left) ws ++ vs) before after
told_behind run true None left later ws vs before after is told =
    subst (λ r. AreTold r (left ++ later) (take (creates left) ws ++ vs) before after) (sym (followed_none run)) told
told_behind run true (Some (Create block start bytes names undo)) left later ws vs before after is told = absurd is
told_behind run true (Some (Merge a b)) left later ws vs before after is told = told
told_behind run true (Some (Send block)) left later ws vs before after is told = absurd is
told_behind run true (Some (Complete block)) left later ws vs before after is told = absurd is
told_behind run false m left later ws vs before after is told =
    subst (λ r. AreTold r (left ++ later) (take (creates left) ws ++ vs) before after) (sym (followed_none run)) told

-- So what steps tell falls into the outcomes of a call, which makes the first of them, and what the later ones tell.
abbrev pub IsToldApart : Execution → List Written → (steps later : List Step) → List Written → (before after : ℕ) → Type 0
IsToldApart run ws steps later vs before after =
    (between : ℕ) × HasMerged run ws steps before between × AreTold (followed_by run steps) later vs between after

told_none : (run : Execution) (ws : List Written) (later : List Step) (vs : List Written) (before after : ℕ) → AreTold run later vs before after
    → IsToldApart run ws [] later vs before after
told_none run ws later vs before after told =
    (before, merged_none run ws before before refl, subst (λ r. AreTold r later vs before after) (sym (followed_none run)) told)

-- with one patch more in front
told_more : (run : Execution) (w : Written) (ws : List Written) (o : MergeOutcome) (steps left later : List Step) (vs : List Written) (before after : ℕ)
    → IsRight (extended run w.create) w.merge o → steps ≡ behind (is_made o) w.merge ++ left
    → IsToldApart (followed_by (extended run w.create) (behind (is_made o) w.merge)) ws left later vs (counted_with before o) after
    → IsToldApart run (w ∷ ws) (w.create ∷ steps) later vs before after
told_more run w ws o steps left later vs before after right are apart =
    let one = behind (is_made o) w.merge in
    let merged = apart.1 in
    let there : followed_by (extended run w.create) one ≡ followed_by run (steps_by (is_made o ∷ []) (w ∷ [])) =
    followed_both run (w.create ∷ []) one ∙ ap (followed_by run) (sym (steps_one (is_made o) w)) in
    let reached : followed_by (followed_by (extended run w.create) one) left ≡ followed_by run (w.create ∷ steps) =
    followed_both (extended run w.create) one left ∙ followed_both run (w.create ∷ []) (one ++ left)
    ∙ ap (λ xs. followed_by run (w.create ∷ xs)) (sym are) in (
      apart.0,
      record {
        outcomes = o ∷ merged.outcomes;
        right = (right, subst (λ r. AreRight r merged.outcomes ws) there merged.right);
        steps_are = ap (λ xs. w.create ∷ xs) (are ∙ ap (λ xs. one ++ xs) merged.steps_are)
            ∙ sym (steps_first (is_made o) (map is_made merged.outcomes) w (take (length merged.outcomes) ws));
        counted = merged.counted;
      },
      subst (λ r. AreTold r later vs apart.0 after) reached apart.2,
    )

module _ (later : List Step) (vs : List Written) (after : ℕ) (plainly : begins_merged later ≡ false) where
  -- so it is of some first steps of a plan
  abbrev IsApart : Execution → List Written → List Bool → Type 0
  IsApart run ws cs =
      (steps rest : List Step) (before : ℕ) → steps ++ rest ≡ steps_by cs ws → AreTold run (steps ++ later) (take (creates steps) ws ++ vs) before after
      → IsToldApart run ws steps later vs before after

  told_first : (m : Made) (plan : List Made) (c : Bool) (cs : List Bool) (run : Execution) (s : Extents) (n : ℕ)
      → ((run : Execution) → IsApart run (written (after_change s n m.change) (n + 1) plan) cs)
      → (x : Step) (steps rest : List Step) (before : ℕ)
      → x ∷ (steps ++ rest)
      ≡ step_of s.geometry m ∷ (behind c (merge_behind s n m.change) ++ steps_by cs (written (after_change s n m.change) (n + 1) plan))
      → AreTold run (x ∷ (steps ++ later)) (take (creates (x ∷ steps)) (written s n (m ∷ plan)) ++ vs) before after
      → IsToldApart run (written s n (m ∷ plan)) (x ∷ steps) later vs before after
  told_first m plan c cs run s n go x steps rest before are told =
      let ws = written (after_change s n m.change) (n + 1) plan in
      let w : Written = record { create = step_of s.geometry m; merge = merge_behind s n m.change } in
      let front : x ≡ w.create = ap (head_or x) are in
      let now : AreTold run (w.create ∷ (steps ++ later)) (w ∷ (take (creates steps) ws ++ vs)) before after =
      subst (λ y. AreTold run (y ∷ (steps ++ later)) (take (creates (y ∷ steps)) (w ∷ ws) ++ vs) before after) front told in
      let o : MergeOutcome = now.0 in
      let is : IsMerge w.merge = merge_is s n m.change in
      let left : Left (is_made o) w.merge steps (steps_by cs ws) =
      left_of (extended run w.create) o c w.merge steps rest (steps_by cs ws) later is now.1
      (rest_same x w.create (steps ++ rest) (behind c w.merge ++ steps_by cs ws) are)
      (plan_begins cs (after_change s n m.change) (n + 1) plan) plainly now.2 in
      let count = counted_with before o in
      let one = behind (is_made o) w.merge in
      let more : AreTold (extended run w.create) ((one ++ left.0) ++ later) (take (creates (one ++ left.0)) ws ++ vs) count after =
      subst (λ xs. AreTold (extended run w.create) (xs ++ later) (take (creates xs) ws ++ vs) count after) left.2 now.3 in
      let behind_it : IsToldApart (followed_by (extended run w.create) one) ws left.0 later vs count after =
      go (followed_by (extended run w.create) one) left.0 left.1 count left.3
      (told_behind (extended run w.create) (is_made o) w.merge left.0 later ws vs count after is more) in
      subst (λ y. IsToldApart run (w ∷ ws) (y ∷ steps) later vs before after) (sym front)
      (told_more run w ws o steps left.0 later vs before after now.1 left.2 behind_it)

  pub told_apart : (plan : List Made) (cs : List Bool) (run : Execution) (s : Extents) (n : ℕ) → IsApart run (written s n plan) cs
  told_apart plan cs run s n [] rest before are told = told_none run (written s n plan) later vs before after told
  told_apart [] [] run s n (x ∷ steps) rest before are told = absurd (let g : x ∷ (steps ++ rest) ≡ [] = are in cc)
  told_apart [] (true ∷ cs) run s n (x ∷ steps) rest before are told = absurd (let g : x ∷ (steps ++ rest) ≡ [] = are in cc)
  told_apart [] (false ∷ cs) run s n (x ∷ steps) rest before are told = absurd (let g : x ∷ (steps ++ rest) ≡ [] = are in cc)
  told_apart (m ∷ plan) [] run s n (x ∷ steps) rest before are told =
      told_first m plan false [] run s n (λ r. told_apart plan [] r (after_change s n m.change) (n + 1)) x steps rest before are told
  told_apart (m ∷ plan) (true ∷ cs) run s n (x ∷ steps) rest before are told =
      told_first m plan true cs run s n (λ r. told_apart plan cs r (after_change s n m.change) (n + 1)) x steps rest before are told
  told_apart (m ∷ plan) (false ∷ cs) run s n (x ∷ steps) rest before are told =
      told_first m plan false cs run s n (λ r. told_apart plan cs r (after_change s n m.change) (n + 1)) x steps rest before are told
