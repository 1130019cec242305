use Rattle.std.proofs.Common.{◌≡◌, ℕ, nat_eq, nat_le, nat_lt, subst}
use Rattle.patch_model.specs.Entry.{is_among}
use Rattle.patch_model.specs.Runs.{numbers_of}
use Rattle.patch_numbers.proofs.Ranges.{its_last, from_first, below_first}
use Rattle.patch_numbers.proofs.runs.is_of_run.Goals as goal

pub returns-then-no-run : goal.returns-then-no-run
returns-then-no-run c =
    let r = c.args.run.now in
    let is : c.no.inside.0 ≡ c.args.no = c.no.view_is in
    subst (λ (n : ℕ). nat_eq c.no.inside.0 r.last ≡ is_among (numbers_of r) n) is (its_last r c.no.inside.0 c.if-no-run.true)

pub returns-then-run-no : goal.returns-then-run-no
returns-then-run-no c =
    let r = c.args.run.now in
    let is : c.no.inside.0 ≡ c.args.no = c.no.view_is in
    subst (λ (n : ℕ). nat_lt c.no.inside.0 r.last ≡ is_among (numbers_of r) n) is (from_first r c.no.inside.0 c.if-no-run.false c.if-run-no.true)

pub returns-else-run-no : goal.returns-else-run-no
returns-else-run-no c =
    let r = c.args.run.now in
    let is : c.no.inside.0 ≡ c.args.no = c.no.view_is in
    subst (λ (n : ℕ). nat_le r.first c.no.inside.0 ≡ is_among (numbers_of r) n) is (below_first r c.no.inside.0 c.if-no-run.false c.if-run-no.false)
