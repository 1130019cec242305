use Rattle.std.proofs.Common.{[], List, ℕ, get_or, take, sym, subst}
use Rattle.std.proofs.lemmas.List.{take_all}
use Rattle.patch_model.specs.Runs.{numbers_of, numbers_in}
use Rattle.patch_model.specs.declared.runs.Run.{Run}
use Rattle.patch_stacks.specs.State.{Block, KeepsNames}
use Rattle.patch_stacks.specs.Names.{KeepsMore}
use Rattle.patch_numbers.proofs.Ranges.{numbers_in-more}
use Rattle.patch_stacks.proofs.Keeping.{none_more, then_more, all_more}
use Rattle.patch_stacks.proofs.stacks.Stack.kept_by_number.Goals as goal

pub loop-run-init : goal.loop-run-init
loop-run-init g c = subst (λ (ns : List ℕ). KeepsMore c.args.self.now [] [] ns) (sym c.in_ok-kept.ensures) (none_more c.args.self.now [])

pub loop-run-preserved : goal.loop-run-preserved
loop-run-preserved g c =
    let b : Block = c.args.self.now in
    let rs : List Run = c.args.runs.now in
    let i = c.loop-run.run-index in
    let none : Run = record { first = 0; last = 0 } in
    subst (λ (ns : List ℕ). KeepsMore b ns [] c.keep_run.new.kept.items) (sym (numbers_in-more rs i none c.loop-run-test.true))
    (then_more b (numbers_in (take i rs)) (numbers_of (get_or rs i none)) [] c.loop-run.kept.items c.keep_run.new.kept.items c.loop-run.invariant c.in_ok-keep_run.ensures)

pub returns : goal.returns
returns g c =
    let b : Block = c.args.self.now in
    subst (λ (rs : List Run). KeepsNames b (numbers_in rs) c.loop-run.kept.items) (take_all c.loop-run.run-index c.args.runs.now c.loop-run-test.false)
    (all_more b (numbers_in (take c.loop-run.run-index c.args.runs.now)) c.loop-run.kept.items c.loop-run.invariant)
