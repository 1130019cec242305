-- The merges of a frame that is put: there is one, of its pointer patch.
use Rattle.std.proofs.Common.{◌≡◌, ℕ, zero, suc, ◌+◌, ◌<◌, ◌≤◌, ◌∙◌, Bool, false, List, [], ◌∷◌, ◌++◌, length, map, take, refl, sym, ap, subst, arith}
use Rattle.std.specs.Prelude.{◌==◌, replicate, fold, Option, Some, None, if◌then◌else◌}
use Rattle.std.specs.List.{range_with_len}
use Rattle.std.proofs.lemmas.Bool.Decides.{nat_tests}
use Rattle.std.proofs.lemmas.List.{length-append, length-map, length-replicate, length-take-le, take_all}
use Rattle.patch_model.specs.Step.{Step}
use Rattle.patch_model.specs.Execution.{Execution, extended, followed_by}
use Rattle.patch_model.specs.State.{entries_of}
use Rattle.patch_extent.specs.declared.places.MergeOutcome.{MergeOutcome}
use Rattle.patch_extent.specs.declared.places.MergeOutcome.TheVariants as merge
use Rattle.patch_extent.specs.Merging.{IsOutcome, is_made}
use Rattle.patch_extent.specs.Answers.{setting, asked, MergesRightly}
use Rattle.patch_extent.specs.declared.places.Appended.{Appended}
use Rattle.patch_cache.specs.Contents.{Contents}
use Rattle.patch_frame.specs.Frame.{spelling}
use Rattle.patch_history.specs.StoreState.{made_by}
use Rattle.patch_history.specs.Steps.{FramePut, appended, filled, framed, steps_made, slot_steps}
use Rattle.patch_recovery.specs.Change.{Point, Made, step_of}
use Rattle.patch_plans.specs.Extents.{Extents, extent_at, generation_at, offset_at}
use Rattle.patch_plans.specs.Groups.{Groups, named}
use Rattle.patch_plans.specs.Joining.{joined_none, length-named_plan, length-written, no_choices}
use Rattle.patch_plans.specs.Planning.{touched, part, append_plan, names_behind}
use Rattle.patch_plans.specs.Writing.{Written, after_plan, with_patches, named_plan, merge_with, written, steps_by, steps_of}
use Rattle.patch_store.specs.Merging.{IsRight, AreRight, counted_with, HasMerged}
use Rattle.patch_store.proofs.Counted.{take_named}
use Rattle.patch_store.proofs.Outcomes.{followed_both, followed_none, take_written, written_behind, merged_one, merged_wider, merged_joined}

-- one part of the bytes, behind the patches of these numbers
abbrev made_part : (extent offset : ℕ) (bytes names : List ℕ) → ℕ → Made
made_part extent offset bytes names k = record { change = part extent offset bytes k; after = names }

-- the count of those that had no memory
none_counted : (k left_out : ℕ) → fold counted_with left_out (replicate k merge.NotLegal) ≡ left_out
none_counted zero left_out = refl
none_counted (suc k) left_out = none_counted k left_out

counted_alone : (k left_out : ℕ) (o : MergeOutcome) → fold counted_with left_out (replicate k merge.NotLegal ++ o ∷ []) ≡ counted_with left_out o
counted_alone zero left_out o = refl
counted_alone (suc k) left_out o = counted_alone k left_out o

-- the choices that the outcomes make
no_choices_made : (k : ℕ) → replicate k false ≡ map is_made (replicate k merge.NotLegal)
no_choices_made zero = refl
no_choices_made (suc k) = ap (λ cs. false ∷ cs) (no_choices_made k)

choices_alone : (k : ℕ) (o : MergeOutcome) → replicate k false ++ is_made o ∷ [] ≡ map is_made (replicate k merge.NotLegal ++ o ∷ [])
choices_alone zero o = refl
choices_alone (suc k) o = ap (λ cs. false ∷ cs) (choices_alone k o)

module _ (s : Extents) (w : Option ℕ) (extent offset : ℕ) (bytes names : List ℕ) where
  -- Parts leave the extents as they are,
  same_extents : (ks : List ℕ) (n : ℕ) → after_plan s n (map (made_part extent offset bytes names) ks) ≡ s
  same_extents [] n = refl
  same_extents (k ∷ ks) n = same_extents ks (n + 1)

  -- and have no merges, so those of what comes behind them are all.
  right_behind : (ks : List ℕ) (run : Execution) (gs : Groups) (n : ℕ) (rest : List Made) (os : List MergeOutcome)
      → AreRight (followed_by run (steps_of [] s gs w n (map (made_part extent offset bytes names) ks))) os
      (written s (n + length ks) (named_plan (with_patches gs w n (length ks)) w (n + length ks) rest))
      → AreRight run (replicate (length ks) merge.NotLegal ++ os) (written s n (named_plan gs w n (map (made_part extent offset bytes names) ks ++ rest)))
  right_behind [] run gs n rest os right =
      let e : n + 0 ≡ n = omega arith in
      subst (λ r. AreRight r os (written s n (named_plan gs w n rest))) (followed_none run)
      (subst (λ i. AreRight (followed_by run []) os (written s i (named_plan gs w i rest))) e right)
  right_behind (k ∷ ks) run gs n rest os right =
      let m : Made = made_part extent offset bytes names k in
      let step = step_of s.geometry (record m { after = named gs w m.after }) in
      let gs1 = with_patches gs w n 1 in
      let e : n + suc (length ks) ≡ n + 1 + length ks = omega arith in
      let more = steps_of [] s gs1 w (n + 1) (map (made_part extent offset bytes names) ks) in (
        (λ none. none),
        right_behind ks (followed_by run (step ∷ [])) gs1 (n + 1) rest os
            (subst (λ i. AreRight (followed_by (followed_by run (step ∷ [])) more) os (written s i (named_plan (with_patches gs1 w (n + 1) (length ks)) w i rest))) e
            (subst (λ r. AreRight r os (written s (n + suc (length ks)) (named_plan (with_patches gs1 w (n + 1) (length ks)) w (n + suc (length ks)) rest)))
            (sym (followed_both run (step ∷ []) more)) right)),
      )

  -- So it is of some first ones.
  right_parts : (i : ℕ) (ks : List ℕ) (run : Execution) (gs : Groups) (n : ℕ) (rest : List Made) → i ≤ length ks
      → AreRight run (replicate i merge.NotLegal) (written s n (named_plan gs w n (map (made_part extent offset bytes names) ks ++ rest)))
  right_parts zero ks run gs n rest few = tt
  right_parts (suc i) [] run gs n rest few = absurd (omega (arith, few))
  right_parts (suc i) (k ∷ ks) run gs n rest few =
      let m : Made = made_part extent offset bytes names k in
      let step = step_of s.geometry (record m { after = named gs w m.after }) in (
        (λ none. none),
        right_parts i ks (followed_by run (step ∷ [])) (with_patches gs w n 1) (n + 1) rest (omega (arith, few)),
      )

-- what the append told, as the steps have it
told_right : (run : Execution) (before : Option ℕ) (behind : ℕ) (o : MergeOutcome) → IsOutcome (entries_of run) before behind o → IsRight run (merge_with behind before) o
told_right run None behind merge.Made told = told
told_right run None behind merge.NotLegal told = told
told_right run None behind merge.NoMemory told = told
told_right run (Some b) behind merge.Made told = told
told_right run (Some b) behind merge.NotLegal told = told
told_right run (Some b) behind merge.NoMemory told = told

some_offset : (offset len : ℕ) → 0 < len → (offset + len == 0) ≡ false
some_offset offset len some = grind (arith, nat_tests)

length-range : (a n : ℕ) → length (range_with_len a n) ≡ n
length-range a zero = refl
length-range a (suc n) = ap suc (length-range (a + 1) n)

-- How the parts of a frame are written.

-- its append
abbrev append_written : FramePut → List Written
append_written f = written f.standing.shelf.extents (made_by f.standing) (named_plan f.standing.groups f.writer (made_by f.standing) (appended f))

-- the slot behind it
abbrev slot_written : FramePut → List Written
slot_written f =
    written (after_plan f.standing.shelf.extents (made_by f.standing) (appended f)) (made_by f.standing + length (appended f))
    (named_plan (with_patches f.standing.groups f.writer (made_by f.standing) (length (appended f))) f.writer (made_by f.standing + length (appended f)) (filled f ∷ []))

-- both
abbrev frame_written : FramePut → List Written
frame_written f = written f.standing.shelf.extents (made_by f.standing) (framed f)

both_written : (f : FramePut) → frame_written f ≡ append_written f ++ slot_written f
both_written f = written_behind f.standing.shelf.extents f.standing.groups f.writer (made_by f.standing) (appended f) (filled f ∷ [])

length-append_written : (f : FramePut) → length (append_written f) ≡ length (appended f)
length-append_written f =
    length-written f.standing.shelf.extents (made_by f.standing) (named_plan f.standing.groups f.writer (made_by f.standing) (appended f))
    ∙ length-named_plan f.standing.groups f.writer (made_by f.standing) (appended f)

-- What came of the merges of an append that was done: there is an outcome for each patch.
pub record AppendMerged (f : FramePut) (choices : List Bool) (before after : ℕ) : Type 0 where
  pub merged : HasMerged f.standing.run (append_written f) (steps_made f choices (appended f)) before after
  pub all : length merged.outcomes ≡ length (appended f)

pub append_merged : (f : FramePut) (cache : Contents) (choices : List Bool) (told : Appended) → length choices ≡ length (appended f)
    → length (entries_of f.standing.run) ≡ made_by f.standing → 0 < length (spelling f.content)
    → told.pointer_patch ≡ length (entries_of f.standing.run) + touched (offset_at f.standing.shelf.extents f.extent) (length (spelling f.content))
    → MergesRightly f.standing.run (asked f.writer f.extent (spelling f.content) []) (setting f.standing.shelf.extents f.standing.groups cache) choices told
    → (left_out : ℕ) → AppendMerged f choices left_out (counted_with left_out told.merge)
append_merged f cache choices told each count some patch_is merges left_out =
    let run = f.standing.run in
    let s = f.standing.shelf.extents in
    let gs = f.standing.groups in
    let w = f.writer in
    let n = made_by f.standing in
    let e = f.extent in
    let bytes : List ℕ = spelling f.content in
    let offset = offset_at s e in
    let names = names_behind s e [] in
    let k = touched (offset_at f.standing.shelf.extents f.extent) (length (spelling f.content)) in
    let ks = range_with_len 0 k in
    let long : length (range_with_len 0 k) ≡ k = length-range 0 k in
    let some_parts : List Made = map (made_part e offset bytes names) ks in
    let point : Made = record { change = Point e (generation_at s e) (offset + length bytes); after = range_with_len n k } in
    let before = (extent_at s e).point in
    let run1 = followed_by run (steps_of [] s gs w n some_parts) in
    let gs1 = with_patches gs w n (length ks) in
    let create = step_of s.geometry (record point { after = named gs1 w point.after }) in
    let last : steps_of [] (after_plan s n some_parts) (with_patches gs w n (length some_parts)) w (n + length some_parts) (point ∷ []) ≡ create ∷ [] =
    ap (λ i. steps_of [] (after_plan s n some_parts) (with_patches gs w n i) w (n + i) (point ∷ [])) (length-map ks (made_part e offset bytes names))
    ∙ ap (λ t. steps_of [] t gs1 w (n + length ks) (point ∷ [])) (same_extents s w e offset bytes names ks n) in
    let steps : steps_of [] s gs w n (some_parts ++ point ∷ []) ≡ steps_of [] s gs w n some_parts ++ create ∷ [] =
    joined_none s gs w n some_parts (point ∷ []) ∙ ap (λ xs. steps_of [] s gs w n some_parts ++ xs) last in
    let there : followed_by run (steps_of [] s gs w n (append_plan s n e bytes [])) ≡ extended run1 create =
    ap (followed_by run) steps ∙ sym (followed_both run (steps_of [] s gs w n some_parts) (create ∷ [])) in
    let number : told.pointer_patch ≡ n + length ks = patch_is ∙ ap (λ i. i + k) count ∙ ap (λ i. n + i) (sym long) in
    let here : IsOutcome (entries_of (extended run1 create)) before (n + length ks) told.merge =
    subst (λ r. IsOutcome (entries_of r) before (n + length ks) told.merge) there
    (subst (λ i. IsOutcome (entries_of (followed_by run (steps_of [] s gs w i (append_plan s i e bytes [])))) before (n + length ks) told.merge) count
    (subst (λ i. IsOutcome (entries_of (followed_by run (steps_of [] s gs w (length (entries_of run)) (append_plan s (length (entries_of run)) e bytes [])))) before i told.merge) number merges.outcome_is)) in
    let right : IsRight (extended run1 create) (if offset + length bytes == 0 then None else merge_with (n + length ks) before) told.merge =
    rw (some_offset offset (length bytes) some) (told_right (extended run1 create) before (n + length ks) told.merge here) in
    let outcomes : List MergeOutcome = replicate (length ks) merge.NotLegal ++ told.merge ∷ [] in
    let chosen : choices ≡ map is_made outcomes =
    merges.choices_are ∙ ap (λ i. replicate i false ++ is_made told.merge ∷ []) (sym long) ∙ choices_alone (length ks) told.merge in
    let all : length outcomes ≡ length (appended f) = sym (ap length chosen ∙ length-map outcomes is_made) ∙ each in
    let many = length-append_written f in
    record {
      merged = record {
        outcomes = outcomes;
        right = right_behind s w e offset bytes names ks run gs n (point ∷ []) (told.merge ∷ []) (right, tt);
        steps_are = ap (λ cs. steps_by cs (append_written f)) chosen
            ∙ ap (steps_by (map is_made outcomes)) (sym (take_all (length outcomes) (append_written f) (omega (arith, all, many))));
        counted = sym (counted_alone (length ks) left_out told.merge);
      };
      all = all;
    }

-- What came of one that was begun: nothing.
begun_merged : (f : FramePut) (count : ℕ) → count < length (appended f) → (left_out : ℕ)
    → HasMerged f.standing.run (append_written f) (steps_made f [] (take count (appended f))) left_out left_out
begun_merged f count less left_out =
    let s = f.standing.shelf.extents in
    let gs = f.standing.groups in
    let w = f.writer in
    let n = made_by f.standing in
    let e = f.extent in
    let bytes : List ℕ = spelling f.content in
    let offset = offset_at s e in
    let names = names_behind s e [] in
    let k = touched (offset_at f.standing.shelf.extents f.extent) (length (spelling f.content)) in
    let ks = range_with_len 0 k in
    let some_parts : List Made = map (made_part e offset bytes names) ks in
    let point : Made = record { change = Point e (generation_at s e) (offset + length bytes); after = range_with_len n k } in
    let outcomes : List MergeOutcome = replicate count merge.NotLegal in
    let long : length (appended f) ≡ length ks + 1 =
    length-append some_parts (point ∷ []) ∙ ap (λ i. i + 1) (length-map ks (made_part e offset bytes names)) in
    let some : List Written = written s n (named_plan gs w n (take count (appended f))) in
    let taken : take count (append_written f) ≡ some =
    take_written count s n (named_plan gs w n (appended f)) ∙ ap (written s n) (take_named count gs w n (appended f)) in
    let many : length some ≡ count =
    length-written s n (named_plan gs w n (take count (appended f))) ∙ length-named_plan gs w n (take count (appended f))
    ∙ length-take-le count (appended f) (omega (arith, less)) in
    record {
      outcomes = outcomes;
      right = right_parts s w e offset bytes names count ks f.standing.run gs n (point ∷ []) (omega (arith, less, long));
      steps_are = sym (no_choices some count many) ∙ ap (λ cs. steps_by cs some) (no_choices_made count)
          ∙ ap (steps_by (map is_made outcomes)) (sym taken)
          ∙ ap (λ i. steps_by (map is_made outcomes) (take i (append_written f))) (sym (length-replicate count merge.NotLegal));
      counted = sym (none_counted count left_out);
    }

-- What came of the merges of the frame.

-- of the first patches of its append
part_merged : (f : FramePut) (steps : List Step) (before after : ℕ) → HasMerged f.standing.run (append_written f) steps before after
    → HasMerged f.standing.run (frame_written f) steps before after
part_merged f steps before after merged =
    subst (λ ws. HasMerged f.standing.run ws steps before after) (sym (both_written f))
    (merged_wider f.standing.run (append_written f) (slot_written f) steps before after merged)

pub appended_merged : (f : FramePut) (choices : List Bool) (before after : ℕ) → AppendMerged f choices before after
    → HasMerged f.standing.run (frame_written f) (steps_made f choices (appended f)) before after
appended_merged f choices before after a = part_merged f (steps_made f choices (appended f)) before after a.merged

pub some_merged : (f : FramePut) (count : ℕ) → count < length (appended f) → (left_out : ℕ)
    → HasMerged f.standing.run (frame_written f) (steps_made f [] (take count (appended f))) left_out left_out
some_merged f count less left_out =
    part_merged f (steps_made f [] (take count (appended f))) left_out left_out (begun_merged f count less left_out)

-- of all: behind the slot's patch there is none
pub frame_merged : (f : FramePut) (choices : List Bool) (before after : ℕ) → AppendMerged f choices before after
    → HasMerged f.standing.run (frame_written f) (steps_made f choices (appended f) ++ slot_steps f) before after
frame_merged f choices before after a =
    let first = steps_made f choices (appended f) in
    subst (λ ws. HasMerged f.standing.run ws (first ++ slot_steps f) before after) (sym (both_written f))
    (merged_joined f.standing.run (append_written f) (slot_written f) first (slot_steps f) before after after a.merged
    (a.all ∙ sym (length-append_written f))
    (merged_one (followed_by f.standing.run first) (slot_written f) _ (slot_steps f) after after refl refl refl refl))
