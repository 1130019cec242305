use Rattle.std.proofs.Common.{◌≡◌, ◌++◌, ◌+◌, ◌-◌, ◌≤◌, ◌∙◌, ap, sym, arith}
use Rattle.std.specs.Prelude.{max}
use Rattle.std.specs.List.{range_with_len}
use Rattle.patch_model.specs.declared.runs.Run.{Run}
use Rattle.patch_model.specs.Runs.{numbers_in, numbers_of}
use Rattle.patch_group.specs.Records.{first_of}
use Rattle.patch_group.proofs.Ranges.{numbers_of-upto}
use Rattle.patch_group.proofs.runs.add_from.Goals as goal

pub returns : goal.returns
returns g c =
    let run = c.args.run.now in
    let first = c.max-first.result in
    let added : Run = record { first = first; last = run.last } in
    let old = numbers_in c.args.all.now.items in
    let low : first ≡ max (first_of run) c.args.next = c.max-first.ensures ∙ ap (λ k. max k c.args.next) (c.from.ensures ∙ c.min.ensures) in
    let last = c.from-2.ensures in
    let upto : first ≤ run.last = omega (arith, last, c.if-from-first.false) in
    c.put_behind.ensures ∙ ap (λ rs. numbers_in rs ++ numbers_of added) c.in_ok-reserve.ensures.items ∙ ap (λ ns. old ++ ns) (sym (numbers_of-upto first run.last upto))
    ∙ ap (λ f. old ++ range_with_len f (run.last + 1 - f)) low
