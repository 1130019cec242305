-- How the calls of the extents make up a frame's steps.
use Rattle.std.proofs.Common.{◌≡◌, ◌≢◌, ◌+◌, ℕ, Bool, false, List, [], ◌∷◌, ◌++◌, length, refl, sym, ap}
use Rattle.std.proofs.Common.{◌∙◌, arith, take, drop}
use Rattle.std.specs.Prelude.{Option, replicate}
use Rattle.std.proofs.lemmas.List.{append_assoc, length-replicate, take-append-drop}
use Rattle.patch_plans.specs.Groups.{Groups, named, with_patch}
use Rattle.patch_recovery.specs.Change.{Made, step_of}
use Rattle.patch_plans.specs.Extents.{Extents}
use Rattle.patch_plans.specs.Laws.{PlansJoin}
use Rattle.patch_plans.specs.Writing.{after_change, after_plan, with_patches, steps_of}
use Rattle.patch_history.specs.Steps.{FramePut, first_of, appended, filled, steps_made, slot_steps}
use Rattle.patch_history.specs.Steps.{FramesCompose, AppendsAreCuts, BegunAppendsAreCuts}

-- a choice of no merge for each patch is that of none at all
no_merges : (s : Extents) (gs : Groups) (w : Option ℕ) (n : ℕ) (p : List Made)
    → steps_of (replicate (length p) false) s gs w n p ≡ steps_of [] s gs w n p
no_merges s gs w n [] = refl
no_merges s gs w n (m ∷ p) =
    ap (λ xs. step_of s.geometry (record m { after = named gs w m.after }) ∷ xs)
    (no_merges (after_change s n m.change) (with_patch gs w n) w (n + 1) p)

-- a plan that ends with a change has steps
some_steps : (s : Extents) (gs : Groups) (w : Option ℕ) (n : ℕ) (p : List Made) (q : Made)
    → steps_of [] s gs w n (p ++ q ∷ []) ≢ []
some_steps s gs w n [] q e = let none = ap length e in absurd (omega (arith, none))
some_steps s gs w n (m ∷ p) q e = let none = ap length e in absurd (omega (arith, none))

module _ (join : PlansJoin) where
  -- the append's steps, then the slot's
  frame_joined : (f : FramePut) (choices : List Bool) → length choices ≡ length (appended f)
      → steps_made f (choices ++ []) (appended f ++ filled f ∷ []) ≡ steps_made f choices (appended f) ++ slot_steps f
  frame_joined f choices h =
      join f.standing.shelf.extents f.standing.groups f.writer (first_of f) (appended f) (filled f ∷ []) choices [] h

  pub frames_compose : FramesCompose
  frames_compose f choices h = (choices ++ [], sym (frame_joined f choices h))

  pub appends_are_cuts : AppendsAreCuts
  appends_are_cuts f choices h = (
    slot_steps f,
    (λ e. let none = ap length e in absurd (omega (arith, none))),
    (choices ++ [], sym (frame_joined f choices h)),
  )

  pub begun_appends_are_cuts : BegunAppendsAreCuts
  begun_appends_are_cuts f count h =
      let s = f.standing.shelf.extents in
      let gs = f.standing.groups in
      let n = first_of f in
      let p = take count (appended f) in
      let q = drop count (appended f) ++ filled f ∷ [] in
      let none = replicate (length p) false in
      let whole : p ++ q ≡ appended f ++ filled f ∷ [] =
      sym (append_assoc p (drop count (appended f)) (filled f ∷ []))
      ∙ ap (λ xs. xs ++ filled f ∷ []) (take-append-drop count (appended f)) in
      let rest = steps_of [] (after_plan s n p) (with_patches gs f.writer n (length p)) f.writer (n + length p) q in (
        rest,
        some_steps (after_plan s n p) (with_patches gs f.writer n (length p)) f.writer (n + length p)
            (drop count (appended f)) (filled f),
        (
          none ++ [],
          ap (λ xs. xs ++ rest) (sym (no_merges s gs f.writer n p))
              ∙ sym (join s gs f.writer n p q none [] (length-replicate (length p) false))
              ∙ ap (λ plan. steps_of (none ++ []) s gs f.writer n plan) whole,
        ),
      )
