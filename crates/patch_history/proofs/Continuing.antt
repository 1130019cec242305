-- How plans of no writer go on.
use Rattle.std.proofs.Common.{◌≡◌, ◌≢◌, ◌+◌, ℕ, zero, suc, Bool, true, false, List, [], ◌∷◌, ◌++◌, length, refl, sym}
use Rattle.std.proofs.Common.{ap}
use Rattle.std.proofs.Common.{◌∙◌, arith}
use Rattle.std.specs.Prelude.{None, option_to_list}
use Rattle.std.proofs.lemmas.List.{append_assoc}
use Rattle.patch_plans.specs.Groups.{Groups}
use Rattle.patch_recovery.specs.Change.{Change, Data, Point, Fill, Clear, Widen, Made}
use Rattle.patch_plans.specs.Extents.{Extents}
use Rattle.patch_plans.specs.Laws.{PlansJoin}
use Rattle.patch_plans.specs.Writing.{after_plan, with_patches, Written, written, steps_by, steps_of}
use Rattle.patch_plans.specs.Writing as extents
use Rattle.patch_history.specs.Shelf.{Shelf, after_change}
use Rattle.patch_history.specs.StoreState.{made_by}
use Rattle.patch_history.specs.Steps.{ShelvesGoOn, WholesJoin, CutsJoin, WholesAreCuts}
use Rattle.patch_history.proofs.Stepping.{named_none, length-written}

change_extents : (s : Shelf) (n : ℕ) (c : Change) → (after_change s n c).extents ≡ extents.after_change s.extents n c
change_extents s n (Data extent offset bytes) = refl
change_extents s n (Point extent generation offset) = refl
change_extents s n (Fill slot fields) = refl
change_extents s n (Clear slot) = refl
change_extents s n Widen = refl

pub shelves_go_on : ShelvesGoOn
shelves_go_on s n [] = refl
shelves_go_on s n (m ∷ plan) =
    shelves_go_on (after_change s n m.change) (n + 1) plan
    ∙ ap (λ t. extents.after_plan t (n + 1) plan) (change_extents s n m.change)

-- so many choices: no merge where none is said
abbrev fitted : List Bool → ℕ → List Bool
fitted choices zero = []
fitted [] (suc k) = false ∷ fitted [] k
fitted (c ∷ choices) (suc k) = c ∷ fitted choices k

length-fitted : (choices : List Bool) (k : ℕ) → length (fitted choices k) ≡ k
length-fitted choices zero = refl
length-fitted [] (suc k) = ap suc (length-fitted [] k)
length-fitted (c ∷ choices) (suc k) = ap suc (length-fitted choices k)

steps_fitted : (choices : List Bool) (ws : List Written)
    → steps_by choices ws ≡ steps_by (fitted choices (length ws)) ws
steps_fitted choices [] = refl
steps_fitted [] (w ∷ ws) = ap (λ xs. w.create ∷ xs) (steps_fitted [] ws)
steps_fitted (true ∷ choices) (w ∷ ws) = ap (λ xs. w.create ∷ (option_to_list w.merge ++ xs)) (steps_fitted choices ws)
steps_fitted (false ∷ choices) (w ∷ ws) = ap (λ xs. w.create ∷ xs) (steps_fitted choices ws)

some_written : (s : Extents) (n : ℕ) (q : List Made) → q ≢ [] → steps_by [] (written s n q) ≢ []
some_written s n [] some e = some refl
some_written s n (m ∷ q) some e = let none = ap length e in absurd (omega (arith, none))

module _ (join : PlansJoin) where
  -- with a choice for each change of the first
  both : (s : Extents) (gs : Groups) (n : ℕ) (p q : List Made) (cs ds : List Bool)
      → steps_by (fitted cs (length p) ++ ds) (written s n (p ++ q))
      ≡ steps_by cs (written s n p) ++ steps_by ds (written (after_plan s n p) (n + length p) q)
  both s gs n p q cs ds =
      let later = with_patches gs None n (length p) in
      ap (λ plan. steps_by (fitted cs (length p) ++ ds) (written s n plan)) (sym (named_none gs n (p ++ q)))
      ∙ join s gs None n p q (fitted cs (length p)) ds (length-fitted cs (length p))
      ∙ ap (λ plan. steps_by (fitted cs (length p)) (written s n plan)
      ++ steps_of ds (after_plan s n p) later None (n + length p) q) (named_none gs n p)
      ∙ ap (λ plan. steps_by (fitted cs (length p)) (written s n p)
      ++ steps_by ds (written (after_plan s n p) (n + length p) plan)) (named_none later (n + length p) q)
      ∙ ap (λ k. steps_by (fitted cs k) (written s n p) ++ steps_by ds (written (after_plan s n p) (n + length p) q))
      (sym (length-written s n p))
      ∙ ap (λ xs. xs ++ steps_by ds (written (after_plan s n p) (n + length p) q))
      (sym (steps_fitted cs (written s n p)))

  pub wholes_join : WholesJoin
  wholes_join st later p q steps more behind first second =
      let s = st.shelf.extents in
      let n = made_by st in
      let cs = first.0 in
      let ds = second.0 in (
        fitted cs (length p) ++ ds,
        ap (λ xs. xs ++ more) first.1 ∙ ap (λ xs. steps_by cs (written s n p) ++ xs) second.1
            ∙ ap (λ t. steps_by cs (written s n p) ++ steps_by ds (written t (made_by later) q)) behind.extents
            ∙ ap (λ k. steps_by cs (written s n p) ++ steps_by ds (written (after_plan s n p) k q)) behind.made
            ∙ sym (both s st.groups n p q cs ds),
      )

  pub cuts_join : CutsJoin
  cuts_join st later p q steps more behind first second =
      let rest = second.0 in
      let whole = wholes_join st later p q steps (more ++ rest) behind first second.2 in
      (rest, second.1, (whole.0, append_assoc steps more rest ∙ whole.1))

  pub wholes_are_cuts : WholesAreCuts
  wholes_are_cuts st p q steps some first =
      let s = st.shelf.extents in
      let n = made_by st in
      let cs = first.0 in (
        steps_by [] (written (after_plan s n p) (n + length p) q),
        some_written (after_plan s n p) (n + length p) q some,
        (
          fitted cs (length p) ++ [],
          ap (λ xs. xs ++ steps_by [] (written (after_plan s n p) (n + length p) q)) first.1
              ∙ sym (both s st.groups n p q cs []),
        ),
      )
