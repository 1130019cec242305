use Rattle.std.proofs.Common.{◌≡◌, ℕ, ◌<◌, [], ◌∷◌, inl, inr, refl, ap, arith, length, replicate}
use Rattle.std.proofs.lemmas.Bool.Decides.{nat_tests}
use Rattle.std.proofs.lemmas.List.{length-replicate}
use Rattle.std.proofs.lemmas.List.Elements.{All-from_recursion}
use Rattle.std.specs.Prelude.{IsTrue}
use Rattle.patch_model.specs.State.{State, after_steps, at_first}
use Rattle.patch_model.specs.Step.{Merge, Send}
use Rattle.patch_model.specs.Legal.{IsLegalCreate}
use Rattle.patch_model.specs.Dependency.{class_depends, Path, one, onward}
use Rattle.patch_model.specs.Rows.{patch}
use Rattle.patch_base_tests.proofs.rows.legal_steps.Goals as goal

-- the two patches before they are merged
abbrev two : State
two = after_steps at_first (patch 0 0 (0xaa ∷ []) [] ∷ patch 0 1 (0xbb ∷ []) (0 ∷ []) ∷ [])

only_last : (a b : ℕ) → IsTrue (class_depends two.entries a b) → b ≡ 0
only_last a b h = grind (arith, nat_tests)

only_first : (a b : ℕ) → IsTrue (class_depends two.entries a b) → a ≡ 1
only_first a b h = grind (arith, nat_tests)

path_last : {a b : ℕ} → Path two.entries a b → b ≡ 0
path_last {a} {b} (one h) = only_last a b h
path_last (onward h p) = path_last p

path_first : {a b : ℕ} → Path two.entries a b → a ≡ 1
path_first {a} {b} (one h) = only_first a b h
path_first {a} (onward {b = m} h p) = only_first a m h

first_made : IsLegalCreate 1 [] 0 0 (0xaa ∷ []) []
first_made = record { known = omega arith; some = omega arith; fits = omega arith; made = All-from_recursion (λ n. n < 0) [] tt; numbers_left = omega arith; room = omega arith }

second_made : IsLegalCreate 1 (after_steps at_first (patch 0 0 (0xaa ∷ []) [] ∷ [])).entries 0 1 (0xbb ∷ []) (0 ∷ [])
second_made = record {
  known = omega arith;
  some = omega arith;
  fits = omega arith;
  made = All-from_recursion (λ n. n < 1) (0 ∷ []) ((let h : 0 < 1 = omega arith in h), tt);
  numbers_left = omega arith;
  room = omega arith;
}

third_made : IsLegalCreate 1 (after_steps at_first (patch 0 0 (0xaa ∷ []) [] ∷ patch 0 1 (0xbb ∷ []) (0 ∷ []) ∷ Merge 0 1 ∷ Send 0 ∷ [])).entries 0 0 (0xcc ∷ []) []
third_made = record { known = omega arith; some = omega arith; fits = omega arith; made = All-from_recursion (λ n. n < 2) [] tt; numbers_left = omega arith; room = omega arith }

pub returns-clause-legal : goal.returns-clause-legal
returns-clause-legal c = record {
  some = omega arith;
  few = omega arith;
  blocks = All-from_recursion (λ block. length block ≡ 4096) (replicate 4096 0 ∷ []) (length-replicate {A = ℕ} 4096 0, tt);
  steps = (
    first_made,
    (
      second_made,
      (
        record {
          undoable_a = refl;
          undoable_b = refl;
          two = λ e. omega arith;
          one_block = refl;
          near = refl;
          none_between = λ c h. elim h [
            | inl r ↦ let x : c ≡ 1 = path_first r.to in let y : c ≡ 0 = path_last r.from in omega arith
            | inr r ↦ let x : c ≡ 1 = path_first r.to in let y : c ≡ 0 = path_last r.from in omega arith
          ];
        },
        (
          (refl, λ e. (let bad : 2 ≡ 0 = ap length e in omega arith)),
          (
            third_made,
            (
              refl,
              tt,
            ),
          ),
        ),
      ),
    ),
  );
}
