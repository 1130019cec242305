use Rattle.std.proofs.Common.{◌+◌, ◌∙◌, sym, ap, subst, rules, get_or}
use Rattle.std.specs.Prelude.{max}
use Rattle.std.specs.List.Sorted.{IsNonDecreasingBy, IsPermutation}
use Rattle.std.proofs.lemmas.List.Sorted.{IsNonDecreasingBy-from_sort_by_key}
use Rattle.patch_model.specs.Runs.{numbers_in}
use Rattle.patch_group.specs.Records.{first_of}
use Rattle.patch_model.specs.declared.runs.Run.{Run}
use Rattle.patch_group.proofs.Uniting.{AreListed, one_listed, all_listed, same_there}
use Rattle.patch_group.proofs.runs.rising_runs.Goals as goal

pub loop-run-preserved : goal.loop-run-preserved
loop-run-preserved g c =
    let runs = c.as_slice-run-items.result.now in
    let sorted = c.sort_unstable_by_key.new.self.items in
    let at = c.loop-run.run-index in
    let r : Run = get_or runs at (record { first = 0; last = 0 }) in
    let up = IsNonDecreasingBy-from_sort_by_key first_of sorted c.sort_unstable_by_key.ensures.sorted (λ a r q k. search rules) in
    let now = one_listed runs at r (numbers_in c.loop-run.all.items) c.loop-run.next c.loop-run-test.true (same_there runs at r (record { first = 0; last = 0 }) c.loop-run-test.true)
    (subst (λ rs. IsNonDecreasingBy first_of rs) (sym c.as_slice-run-items.ensures.value) up) c.loop-run.invariant in
    subst (λ n. AreListed runs (at + 1) (numbers_in c.add_from.new.all.items) n) (sym (c.max-next.ensures ∙ ap (λ k. max c.loop-run.next (k + 1)) c.from.ensures))
    (subst (λ ns. AreListed runs (at + 1) ns (max c.loop-run.next (r.last + 1))) (sym c.in_ok-add_from.ensures) now)

pub returns : goal.returns
returns g c =
    let runs = c.as_slice-run-items.result.now in
    let sorted = c.sort_unstable_by_key.new.self.items in
    all_listed c.args.runs.now.items runs c.loop-run.run-index (numbers_in c.loop-run.all.items) c.loop-run.next
    (subst (λ rs. IsPermutation c.args.runs.now.items rs) (sym c.as_slice-run-items.ensures.value) c.sort_unstable_by_key.ensures.permutation) c.loop-run-test.false c.loop-run.invariant
