use Rattle.std.proofs.Common.{◌≡◌, ◌-◌, ◌≤◌, ◌∷◌, [], List, ℕ, inl, inr, sym, subst, refl, arith}
use Rattle.std.specs.List.{range_with_len}
use Rattle.std.proofs.lemmas.Bool.{cases_lt}
use Rattle.patch_stacks.specs.State.{Block}
use Rattle.patch_stacks.specs.Names.{KeepsMore}
use Rattle.patch_numbers.proofs.Ranges.{range_begun, range_next}
use Rattle.patch_stacks.proofs.Keeping.{none_more, then_more}
use Rattle.patch_stacks.proofs.Outcomes.{refused-done, done-then}
use Rattle.patch_stacks.proofs.stacks.Stack.keep_run.Goals as goal

pub loop-no-init : goal.loop-no-init
loop-no-init g c = record {
  kept = subst (λ (ns : List ℕ). KeepsMore c.args.self.now ns c.args.kept.now.items c.args.kept.now.items) (sym (range_begun c.args.run.now.first)) (none_more c.args.self.now c.args.kept.now.items);
  still = λ l. refl;
}

pub loop-no-preserved : goal.loop-no-preserved
loop-no-preserved g c =
    let b : Block = c.args.self.now in
    let old : List ℕ = c.args.kept.now.items in
    let first = c.args.run.now.first in
    let at = c.loop-no.no in
    let low : first ≤ at = omega (arith, c.loop-no.auto.no) in
    record {
      kept = subst (λ (ns : List ℕ). KeepsMore b ns old c.keep_number.new.kept.items) (sym (range_next first at low))
          (then_more b (range_with_len first (at - first)) (at ∷ []) old c.loop-no.kept.items c.keep_number.new.kept.items c.loop-no.invariant.kept c.in_ok-keep_number.ensures);
      still = λ l. absurd (omega (arith, l, low, c.loop-no-test.true));
    }

pub returns-in_err-keep_number : goal.returns-in_err-keep_number
returns-in_err-keep_number g c = refused-done c.from_residual.result _ c.from_residual.ensures.0

pub returns : goal.returns
returns g c =
    let b : Block = c.args.self.now in
    let old : List ℕ = c.args.kept.now.items in
    let run = c.args.run.now in
    let many : c.loop-no.no - run.first ≡ run.last - run.first = elim (cases_lt run.last run.first) [
      | inl l ↦ let s = c.loop-no.invariant.still l in omega (arith, s, l)
      | inr h ↦ let e = c.loop-no.auto.no-end h in omega (arith, e, c.loop-no-test.false)
    ] in
    done-then c.keep_number-2.result _ _
    (λ last. then_more b (range_with_len run.first (run.last - run.first)) (run.last ∷ []) old c.loop-no.kept.items c.keep_number-2.new.kept.items
    (subst (λ (k : ℕ). KeepsMore b (range_with_len run.first k) old c.loop-no.kept.items) many c.loop-no.invariant.kept) last)
    c.keep_number-2.ensures
