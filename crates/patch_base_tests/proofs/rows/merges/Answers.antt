use Rattle.std.proofs.Common.{ℕ, inl, inr, refl, arith}
use Rattle.std.proofs.lemmas.Bool.Decides.{nat_tests}
use Rattle.std.specs.Prelude.{IsTrue}
use Rattle.patch_model.specs.State.{entries_of}
use Rattle.patch_model.specs.Dependency.{class_depends, Path, one, onward}
use Rattle.patch_model.specs.Rows.{beside}
use Rattle.patch_base_tests.proofs.rows.merges.Goals as goal

none_depends : (a b : ℕ) → IsTrue (class_depends (entries_of beside) a b) → ⊥
none_depends a b h = grind (arith, nat_tests)

no_path : {a b : ℕ} → Path (entries_of beside) a b → ⊥
no_path {a} {b} (one h) = none_depends a b h
no_path {a} (onward {b = b} h p) = none_depends a b h

pub returns-clause-touching : goal.returns-clause-touching
returns-clause-touching c = record {
  undoable_a = refl;
  undoable_b = refl;
  two = λ e. omega arith;
  one_block = refl;
  near = refl;
  none_between = λ c h. elim h [ inl r ↦ no_path r.from | inr r ↦ no_path r.from ];
}

pub returns-clause-between : goal.returns-clause-between
returns-clause-between c = record { live = refl; not_first = λ e. omega arith; not_last = λ e. omega arith; from = one refl; to = one refl }

pub returns-clause-far : goal.returns-clause-far
returns-clause-far c = record { live = refl; not_first = λ e. omega arith; not_last = λ e. omega arith; from = onward {b = 2} refl (one refl); to = one refl }
