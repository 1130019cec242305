-- The images of blocks on the disk, over an ask of the cache.
use Rattle.std.proofs.Common.{◌≡◌, ◌≢◌, ℕ, ◌<◌, ◌∙◌, inl, inr, Bool, true, false, List, [], ◌∷◌, ◌++◌, length, filter, slice_set, refl, sym, ap, subst, arith}
use Rattle.std.specs.Prelude.{◌==◌, ◌||◌, not, slice_index_or, if◌then◌else◌}
use Rattle.std.specs.List.{list_any}
use Rattle.std.proofs.lemmas.List.{get_or-set_same, get_or-set_other, length-set}
use Rattle.std.proofs.lemmas.List.Folds.{list_any-append}
use Rattle.std.proofs.lemmas.Bool.{cases_Bool, cases_eq}
use Rattle.std.proofs.lemmas.Bool.Decides.{nat_tests}
use Rattle.patch_model.specs.Step.{Step}
use Rattle.patch_model.specs.Step as step
use Rattle.patch_model.specs.Execution.{Execution, extended}
use Rattle.patch_model.specs.State.{state_of, after_step, has_flight}
use Rattle.patch_model.specs.History.{history_of, image}
use Rattle.patch_model.specs.Progress.{history_after}
use Rattle.patch_model.specs.Member.{In-filter, list_any-from, list_any-at}
use Rattle.patch_cache.specs.Asks.{Ask, Answer, Create, Merge, Send, Complete, View, is_refused, after, extended_by, step_for}
use Rattle.patch_cache.specs.Waves.{HoldImages}
use Rattle.patch_replay.specs.World.{written}

-- the laws of steps
abbrev pub StatesExtend : Type 0
StatesExtend = (run : Execution) (step : Step) → state_of (extended run step) ≡ after_step (state_of run) step

abbrev pub ImagesStay : Type 0
ImagesStay = (run : Execution) (s : Step) (block : ℕ) → s ≢ step.Send block → image (history_after run s block) ≡ image (history_of run block)

is_same : (a b : ℕ) → (a == b) ≡ true → a ≡ b
is_same a b e = grind (arith, nat_tests)

is_other : (a b : ℕ) → (a == b) ≡ false → a ≢ b
is_other a b e = grind (arith, nat_tests)

other_number : (a b : ℕ) → a ≢ b → not (a == b) ≡ true
other_number a b e = grind (arith, nat_tests)

-- a step that changes no flight and no image
still : StatesExtend → (run : Execution) (step : Step) (disk : List (List ℕ)) → ((b : ℕ) → has_flight (after_step (state_of run) step) b ≡ has_flight (state_of run) b)
    → ((b : ℕ) → image (history_after run step b) ≡ image (history_of run b)) → HoldImages run disk → HoldImages (extended run step) disk
still extend run step disk flights images held = record {
  count = held.count;
  images = λ b known none. held.images b known (sym (flights b) ∙ sym (ap (λ st. has_flight st b) (extend run step)) ∙ none) ∙ sym (images b);
}

-- a write that is begun
begun : StatesExtend → ImagesStay → (run : Execution) (block : ℕ) (disk : List (List ℕ)) → HoldImages run disk → HoldImages (extended run (step.Send block)) disk
begun extend stay run block disk held = record {
  count = held.count;
  images = λ b known none.
      let now : (state_of (extended run (step.Send block))).flights ≡ (state_of run).flights ++ (block, (state_of run).sends) ∷ [] = ap (λ st. st.flights) (extend run (step.Send block)) in
      let parts : (list_any (λ (f : ℕ × ℕ). f.0 == b) (state_of run).flights || list_any (λ (f : ℕ × ℕ). f.0 == b) ((block, (state_of run).sends) ∷ [])) ≡ false =
      sym (list_any-append (λ (f : ℕ × ℕ). f.0 == b) (state_of run).flights ((block, (state_of run).sends) ∷ [])) ∙ sym (ap (λ (fs : List (ℕ × ℕ)). list_any (λ f. f.0 == b) fs) now) ∙ none in
      elim (cases_Bool (has_flight (state_of run) b)) [
        | inl flies ↦ (let no : true ≡ false = rw flies at parts in absurd (cc))
        | inr grounded ↦ elim (cases_Bool (block == b)) [
          | inl same ↦ (let no : true ≡ false = rw (grounded, same) at parts in absurd (cc))
          | inr other ↦ held.images b known grounded ∙ sym (stay run (step.Send block) b (λ e. let same : block ≡ b = cc in is_other block b other same))
        ]
      ];
}

-- and its end
ended : StatesExtend → ImagesStay → (run : Execution) (block : ℕ) (disk : List (List ℕ)) → HoldImages run disk
    → HoldImages (extended run (step.Complete block)) (slice_set disk block (image (history_of run block)))
ended extend stay run block disk held =
    let next : Execution = extended run (step.Complete block) in
    let now : List (List ℕ) = slice_set disk block (image (history_of run block)) in record {
      count = length-set disk block (image (history_of run block)) ∙ held.count;
      images = λ b known none. elim (cases_eq b block) [
        | inl same ↦
            let within : block < length disk = let c = held.count in omega (arith, c, known, same) in
            let here : slice_index_or now block [] ≡ image (history_of run block) = get_or-set_same disk block (image (history_of run block)) [] within in
            subst (λ n. slice_index_or now n [] ≡ image (history_of next n)) (sym same) (here ∙ sym (stay run (step.Complete block) block (λ e. absurd (cc))))
        | inr other ↦
            let flights : (state_of next).flights ≡ filter (λ (f : ℕ × ℕ). not (f.0 == block)) (state_of run).flights = ap (λ st. st.flights) (extend run (step.Complete block)) in
            let grounded : has_flight (state_of run) b ≡ false = elim (cases_Bool (has_flight (state_of run) b)) [
              | inl flies ↦
                  let r = list_any-at (λ (f : ℕ × ℕ). f.0 == b) (state_of run).flights flies in
                  let kept = In-filter (λ (f : ℕ × ℕ). not (f.0 == block)) (state_of run).flights r.0 r.1 (other_number r.0.0 block (λ e. other (sym (is_same r.0.0 b r.2) ∙ e))) in
                  let flies_still : has_flight (state_of next) b ≡ true =
                  ap (λ (fs : List (ℕ × ℕ)). list_any (λ f. f.0 == b) fs) flights ∙ list_any-from (λ (f : ℕ × ℕ). f.0 == b) (filter (λ (f : ℕ × ℕ). not (f.0 == block)) (state_of run).flights) r.0 kept r.2 in
                  absurd (cc)
              | inr g ↦ g
            ] in
            get_or-set_other disk block b (image (history_of run block)) [] other ∙ held.images b known grounded ∙ sym (stay run (step.Complete block) b (λ e. absurd (cc)))
      ];
    }

-- what an accepted ask of the cache leaves on the disk
accepted : StatesExtend → ImagesStay → (run : Execution) (disk : List (List ℕ)) (ask : Ask) → HoldImages run disk → HoldImages (extended_by run (step_for ask)) (written run disk ask)
accepted extend stay run disk (Create block start bytes named undo) held =
    still extend run (step.Create block start bytes named undo) disk (λ b. refl) (λ b. stay run (step.Create block start bytes named undo) b (λ e. absurd (cc))) held
accepted extend stay run disk (Merge x y) held = still extend run (step.Merge x y) disk (λ b. refl) (λ b. stay run (step.Merge x y) b (λ e. absurd (cc))) held
accepted extend stay run disk (Send block) held = begun extend stay run block disk held
accepted extend stay run disk (Complete block) held = ended extend stay run block disk held
accepted extend stay run disk (View block moves start len) held = held

pub images_after : StatesExtend → ImagesStay → (run : Execution) (disk : List (List ℕ)) (ask : Ask) (a : Answer) → HoldImages run disk
    → HoldImages (after run ask a) (if is_refused a then disk else written run disk ask)
images_after extend stay run disk ask a held = by (is_refused a)
  where
    by : (b : Bool) → HoldImages (if b then run else extended_by run (step_for ask)) (if b then disk else written run disk ask)
    by true = held
    by false = accepted extend stay run disk ask held
