-- The first steps of a plan's are those of its first patches.
use Rattle.std.proofs.Common.{◌≡◌, ◌≢◌, suc, List, [], ◌∷◌, ◌++◌, length, Bool, true, false, refl, sym, ap, ◌∙◌, arith}
use Rattle.std.proofs.Common.{take}
use Rattle.std.specs.Prelude.{Option, Some, None, option_to_list}
use Rattle.patch_model.specs.Step.{Step}
use Rattle.patch_plans.specs.Writing.{Written, steps_by}
use Rattle.patch_history.specs.Steps.{EndsPlainly, IsFirst, CutsAreFirst}

abbrev tail_of : List Step → List Step
tail_of [] = []
tail_of (x ∷ xs) = xs

abbrev head_or : Step → List Step → Step
head_or d [] = d
head_or d (x ∷ xs) = x

not_empty : (steps rest : List Step) → rest ≢ [] → steps ++ rest ≡ [] → ⊥
not_empty [] rest h e = h e
not_empty (s ∷ steps) rest h e = let none = ap length e in absurd (omega (arith, none))

plain : (w : Written) (ws : List Written) → EndsPlainly (w ∷ ws) → EndsPlainly ws
plain w [] p = tt
plain w (v ∷ ws) p = p

two : (x y : Step) (xs ys : List Step) → x ≡ y → xs ≡ ys → x ∷ xs ≡ y ∷ ys
two x y xs ys e f = ap (λ z. z ∷ xs) e ∙ ap (λ zs. y ∷ zs) f

-- one patch more in front, without its merge or with it
without : (w : Written) (ws : List Written) (s : Step) (steps : List Step) → s ≡ w.create → IsFirst ws steps
    → IsFirst (w ∷ ws) (s ∷ steps)
without w ws s steps e f =
    (false ∷ f.0, suc f.1, (let k = f.2 in omega (arith, k)), two s w.create steps (steps_by f.0 (take f.1 ws)) e f.3)

with_merge : (w : Written) (ws : List Written) (m s t : Step) (steps : List Step) → w.merge ≡ Some m → s ≡ w.create
    → t ≡ m → IsFirst ws steps → IsFirst (w ∷ ws) (s ∷ t ∷ steps)
with_merge w ws m s t steps is e g f =
    let merged : steps_by (true ∷ f.0) (take (suc f.1) (w ∷ ws)) ≡ w.create ∷ m ∷ steps_by f.0 (take f.1 ws) =
    ap (λ o. w.create ∷ (option_to_list o ++ steps_by f.0 (take f.1 ws))) is in
    (true ∷ f.0, suc f.1, (let k = f.2 in omega (arith, k)), two s w.create (t ∷ steps) (m ∷ steps_by f.0 (take f.1 ws)) e (two t m steps (steps_by f.0 (take f.1 ws)) g f.3) ∙ sym merged)

-- the first patch alone, which isn't the last
alone : (w : Written) (ws : List Written) (m s : Step) → EndsPlainly (w ∷ ws) → w.merge ≡ Some m → s ≡ w.create
    → IsFirst (w ∷ ws) (s ∷ [])
alone w [] m s p is e = let none : None ≡ Some m = sym p ∙ is in absurd (cc)
alone w (v ∷ ws) m s p is e = (false ∷ [], 1, omega arith, ap (λ z. z ∷ []) e)

module _ (rest : List Step) (some : rest ≢ []) where
  -- behind a patch with its merge
  merged : (choices : List Bool) (w : Written) (ws : List Written) (s : Step) (steps : List Step) (o : Option Step)
      → w.merge ≡ o → EndsPlainly (w ∷ ws) → s ≡ w.create
      → ((steps : List Step) → steps ++ rest ≡ steps_by choices ws → IsFirst ws steps)
      → steps ++ rest ≡ option_to_list o ++ steps_by choices ws → IsFirst (w ∷ ws) (s ∷ steps)
  merged choices w ws s steps None is p e go f = without w ws s steps e (go steps f)
  merged choices w ws s [] (Some m) is p e go f = alone w ws m s p is e
  merged choices w ws s (t ∷ steps) (Some m) is p e go f =
      with_merge w ws m s t steps is e (ap (head_or m) f) (go steps (ap tail_of f))

  cut : (choices : List Bool) (ws : List Written) (steps : List Step) → EndsPlainly ws
      → steps ++ rest ≡ steps_by choices ws → IsFirst ws steps
  cut choices [] steps p e = absurd (not_empty steps rest some e)
  cut choices (w ∷ ws) [] p e = ([], 0, omega arith, refl)
  cut [] (w ∷ ws) (s ∷ steps) p e =
      without w ws s steps (ap (head_or s) e) (cut [] ws steps (plain w ws p) (ap tail_of e))
  cut (false ∷ choices) (w ∷ ws) (s ∷ steps) p e =
      without w ws s steps (ap (head_or s) e) (cut choices ws steps (plain w ws p) (ap tail_of e))
  cut (true ∷ choices) (w ∷ ws) (s ∷ steps) p e =
      merged choices w ws s steps w.merge refl p (ap (head_or s) e) (λ left f. cut choices ws left (plain w ws p) f) (ap tail_of e)

pub cuts_are_first : CutsAreFirst
cuts_are_first choices ws steps rest p some e = cut rest some choices ws steps p e
