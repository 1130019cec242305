-- Tests in order, and which of them is the first that holds.
use Rattle.std.proofs.Common.{◌≡◌, ℕ, zero, suc, ◌+◌, ◌<◌, ◌≤◌, ◌∙◌, inl, inr, Bool, true, false, List, [], ◌∷◌, ◌++◌, length, map, Result, Ok, Err, refl, sym, ap, subst, arith}
use Rattle.std.specs.Prelude.{◌||◌, nat_lt, Option, Some, None, MatchOption, MatchResult, flat_map, is_some, position}
use Rattle.std.specs.List.{list_any, range_with_len, position_or_len}
use Rattle.std.proofs.lemmas.Bool.{cases_Bool, cases_lt}
use Rattle.std.proofs.lemmas.Bool.Decides.{nat_tests}
use Rattle.std.proofs.lemmas.List.Folds.{list_any_at, list_any_none}
use Rattle.std.proofs.lemmas.List.Sums.{passes_at_first, fails_before_first}
use Rattle.patch_frame.specs.Field.{outcome}
use Rattle.patch_recovery.specs.Reading.{Fault}
use Rattle.patch_history.specs.declared.refusals.OpenFault.{OpenFault}
use Rattle.patch_history.specs.Refusals.{fault_of}
use Rattle.patch_store.specs.Opening.{nothing, NoneHolds, IsFirstOf}

-- behind tests of which none holds, the next ones say
pub behind_passing : {X E : Type 0} (tests more : List (Bool × E)) (x : X) → outcome tests nothing ≡ Ok nothing → outcome (tests ++ more) x ≡ outcome more x
behind_passing [] more x pass = refl
behind_passing (test ∷ tests) more x pass = elim (cases_Bool test.0) [
  | inl u ↦ (let g : Err test.1 ≡ Ok nothing = rw u at pass in absurd cc)
  | inr u ↦ (let g : outcome tests nothing ≡ Ok nothing = rw u at pass in rw u (behind_passing tests more x g))
]

abbrev refusal : (X : Type 0) {E : Type 0} → E → Result X E
refusal X e = Err e

one_refusal : {E : Type 0} (e f : E) → refusal (Unit {0}) e ≡ refusal (Unit {0}) f → e ≡ f
one_refusal e f h = cc

-- and one that holds refuses, whatever the next ones say
pub before_others : {X E : Type 0} (tests more : List (Bool × E)) (x : X) (e : E) → outcome tests nothing ≡ Err e → outcome (tests ++ more) x ≡ Err e
before_others [] more x e holds = (let g : Ok nothing ≡ Err e = holds in absurd cc)
before_others (test ∷ tests) more x e holds = elim (cases_Bool test.0) [
  | inl u ↦ (let g : Err test.1 ≡ Err e = rw u at holds in rw u (ap (λ f. Err f) (one_refusal test.1 e g)))
  | inr u ↦ (let g : outcome tests nothing ≡ Err e = rw u at holds in rw u (before_others tests more x e g))
]

-- whatever would be read
pub refused_alike : {X E : Type 0} (tests : List (Bool × E)) (x : X) (e : E) → outcome tests nothing ≡ Err e → outcome tests x ≡ Err e
refused_alike [] x e holds = (let g : Ok nothing ≡ Err e = holds in absurd cc)
refused_alike (test ∷ tests) x e holds = elim (cases_Bool test.0) [
  | inl u ↦ (let g : Err test.1 ≡ Err e = rw u at holds in rw u (ap (λ f. Err f) (one_refusal test.1 e g)))
  | inr u ↦ (let g : outcome tests nothing ≡ Err e = rw u at holds in rw u (refused_alike tests x e g))
]

-- The tests of many, one after another.

pub all_pass : {X : Type 0} (tests : ℕ → List (Bool × Fault)) (x : X) (a n : ℕ) → ((s : ℕ) → a ≤ s → s < a + n → NoneHolds (tests s))
    → outcome (flat_map tests (range_with_len a n)) x ≡ Ok x
all_pass tests x a zero pass = refl
all_pass tests x a (suc n) pass =
    behind_passing (tests a) (flat_map tests (range_with_len (a + 1) n)) x (pass a (omega arith) (omega arith))
    ∙ all_pass tests x (a + 1) n (λ s low high. pass s (omega (arith, low)) (omega (arith, high)))

pub one_holds : {X : Type 0} (tests : ℕ → List (Bool × Fault)) (x : X) (e : Fault) (a n s : ℕ) → a ≤ s → s < a + n
    → ((k : ℕ) → a ≤ k → k < s → NoneHolds (tests k)) → outcome (tests s) nothing ≡ Err e
    → outcome (flat_map tests (range_with_len a n)) x ≡ Err e
one_holds tests x e a zero s low high pass holds = absurd (omega (arith, low, high))
one_holds tests x e a (suc n) s low high pass holds = elim (cases_lt a s) [
  | inl less ↦
      behind_passing (tests a) (flat_map tests (range_with_len (a + 1) n)) x (pass a (omega arith) less)
      ∙ one_holds tests x e (a + 1) n s (omega (arith, less)) (omega (arith, high)) (λ k under over. pass k (omega (arith, under)) over) holds
  | inr more ↦ (let here : s ≡ a = omega (arith, low, more) in
      before_others (tests a) (flat_map tests (range_with_len (a + 1) n)) x e (subst (λ k. outcome (tests k) nothing ≡ Err e) here holds))
]

-- What a fault tells.

told_by : (o : Option Fault) (P Q : Fault → Type 0) → ((e : Fault) → P e → Q e) → MatchOption o (Unit {0}) P → MatchOption o (Unit {0}) Q
told_by None P Q f h = tt
told_by (Some e) P Q f h = f e h

-- the fault of some tests refuses them with others behind them
pub fault_before : {X : Type 0} (tests more : List (Bool × Fault)) (x : X) (fault : OpenFault) → IsFirstOf tests fault
    → MatchOption (fault_of fault) (Unit {0}) (λ first. outcome (tests ++ more) x ≡ Err first)
fault_before tests more x fault h = told_by (fault_of fault) _ (λ first. outcome (tests ++ more) x ≡ Err first) (λ e g. before_others tests more x e g) h

-- and with tests before them of which none holds
pub fault_behind : {X : Type 0} (tests more : List (Bool × Fault)) (x : X) (fault : OpenFault) → NoneHolds tests → IsFirstOf more fault
    → MatchOption (fault_of fault) (Unit {0}) (λ first. outcome (tests ++ more) x ≡ Err first)
fault_behind tests more x fault pass h =
    told_by (fault_of fault) _ (λ first. outcome (tests ++ more) x ≡ Err first) (λ e g. behind_passing tests more x pass ∙ refused_alike more x e g) h

-- the fault of one of many, where those before it pass
pub fault_among : {X : Type 0} (tests : ℕ → List (Bool × Fault)) (x : X) (n s : ℕ) (fault : OpenFault) → s < n
    → ((k : ℕ) → k < s → NoneHolds (tests k)) → IsFirstOf (tests s) fault
    → MatchOption (fault_of fault) (Unit {0}) (λ first. outcome (flat_map tests (range_with_len 0 n)) x ≡ Err first)
fault_among tests x n s fault within pass h =
    told_by (fault_of fault) _ (λ first. outcome (flat_map tests (range_with_len 0 n)) x ≡ Err first)
    (λ e g. one_holds tests x e 0 n s (omega arith) (omega (arith, within)) (λ k low less. pass k less) g) h

-- Tests of numbers and of what is made of them.

pub any_made : {X : Type 0} (p : X → Bool) (f : ℕ → X) (xs : List ℕ) → list_any p (map f xs) ≡ list_any (λ n. p (f n)) xs
any_made p f [] = refl
any_made p f (x ∷ xs) = ap (λ b. p (f x) || b) (any_made p f xs)

-- a test finds a place just where one passes
pub place_found : {X : Type 0} (p : X → Bool) (xs : List X) (d : X) → is_some (position p xs) ≡ list_any p xs
place_found p xs d = elim (cases_lt (position_or_len p xs) (length xs)) [
  | inl less ↦ (let there : nat_lt (position_or_len p xs) (length xs) ≡ true = grind (arith, nat_tests, less) in
      let some : list_any p xs ≡ true = list_any_at p xs (position_or_len p xs) d less (passes_at_first p xs d less) in
      rw (there, some) refl)
  | inr more ↦ (let past : nat_lt (position_or_len p xs) (length xs) ≡ false = grind (arith, nat_tests, more) in
      let none : list_any p xs ≡ false = list_any_none p xs (λ k e within. fails_before_first p xs k e (omega (arith, within, more))) in
      rw (past, none) refl)
]

-- a fault that is passed on
pub passed_on : {X : Type 0} (r : Result X OpenFault) (P : X → Type 0) (Q : OpenFault → Type 0) (fault told : OpenFault) → r ≡ Err told → told ≡ fault
    → Q fault → MatchResult r P Q
passed_on r P Q fault told is same h = subst (λ x. MatchResult x P Q) (sym is) (subst Q (sym same) h)
