-- What the lines of a script ask for, one after another.
use Rattle.std.proofs.Common.{◌≡◌, ◌∙◌, ◌+◌, ◌++◌, ◌∷◌, [], ℕ, List, Option, Some, None, Result, Ok, Err, refl, sym, ap, append_assoc}
use Rattle.std.proofs.lemmas.List.{append-nil}
use Rattle.serde_json.specs.Data.{Data}
use Rattle.patch_script.specs.Kind.{line_by, lines_from, joined, behind}

one_more : {A : Type 0} (front : List A) (line : A) (number : ℕ) (rest : Result (List A) ℕ)
    → behind (front ++ line ∷ []) rest ≡ behind front (joined number (Some (Some line)) rest)
one_more front line number (Ok lines) = ap (λ xs. Ok xs) (append_assoc front (line ∷ []) lines)
one_more front line number (Err bad) = refl

-- a blank line adds nothing
pub behind_blank : {A : Type 0} (says : List ℕ → Data → Option A) (front : List A) (number : ℕ) (bytes : List ℕ) (lines rest : List (List ℕ)) (all : Result (List A) ℕ)
    → lines ≡ bytes ∷ rest → line_by says bytes ≡ Some None → behind front (lines_from says number lines) ≡ all
    → behind front (lines_from says (number + 1) rest) ≡ all
behind_blank says front number bytes lines rest all first is before =
    ap (λ o. behind front (joined number o (lines_from says (number + 1) rest))) (sym is)
    ∙ ap (λ ls. behind front (lines_from says number ls)) (sym first) ∙ before

-- what a line asks for stands behind the others
pub behind_line : {A : Type 0} (says : List ℕ → Data → Option A) (front next : List A) (line : A) (number : ℕ) (bytes : List ℕ) (lines rest : List (List ℕ)) (all : Result (List A) ℕ)
    → next ≡ front ++ line ∷ [] → lines ≡ bytes ∷ rest → line_by says bytes ≡ Some (Some line) → behind front (lines_from says number lines) ≡ all
    → behind next (lines_from says (number + 1) rest) ≡ all
behind_line says front next line number bytes lines rest all longer first is before =
    ap (λ xs. behind xs (lines_from says (number + 1) rest)) longer ∙ one_more front line number (lines_from says (number + 1) rest)
    ∙ ap (λ o. behind front (joined number o (lines_from says (number + 1) rest))) (sym is)
    ∙ ap (λ ls. behind front (lines_from says number ls)) (sym first) ∙ before

-- an unreadable one ends them
pub behind_bad : {A : Type 0} (says : List ℕ → Data → Option A) (front : List A) (number : ℕ) (bytes : List ℕ) (lines rest : List (List ℕ)) (all : Result (List A) ℕ)
    → lines ≡ bytes ∷ rest → line_by says bytes ≡ None → behind front (lines_from says number lines) ≡ all → all ≡ Err number
behind_bad says front number bytes lines rest all first is before =
    sym before ∙ ap (λ ls. behind front (lines_from says number ls)) first
    ∙ ap (λ o. behind front (joined number o (lines_from says (number + 1) rest))) is

-- behind the last one they are all
pub behind_last : {A : Type 0} (says : List ℕ → Data → Option A) (front : List A) (number : ℕ) (lines : List (List ℕ)) (all : Result (List A) ℕ)
    → lines ≡ [] → behind front (lines_from says number lines) ≡ all → all ≡ Ok front
behind_last says front number lines all none before =
    sym before ∙ ap (λ ls. behind front (lines_from says number ls)) none ∙ ap (λ xs. Ok xs) (append-nil front)
