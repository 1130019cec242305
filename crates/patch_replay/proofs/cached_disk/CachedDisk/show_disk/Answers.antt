use Rattle.std.proofs.Common.{◌<◌, ◌≤◌, ◌+◌, ◌∙◌, length, refl, sym, ap, arith}
use Rattle.patch_model.specs.declared.blocks.TheConstants.{BLOCK}
use Rattle.patch_script.specs.declared.answers.Answer.TheVariants.{OnDisk, Refused}
use Rattle.patch_replay.specs.Answering.{IsAnswered, bytes_in}
use Rattle.patch_replay.proofs.Asking.{counted}
use Rattle.patch_replay.proofs.Looking.{missing, no_block, no_bytes, shown, on_ok, on_disk}
use Rattle.patch_replay.proofs.cached_disk.CachedDisk.show_disk.Goals as goal

pub returns-then-is_err-clause-answer : goal.returns-then-is_err-clause-answer
unfolding IsAnswered
returns-then-is_err-clause-answer c = λ w at.
    let none = missing c.read.result _ _ (sym c.is_err.ensures.value ∙ c.if-is_err.true) c.read.ensures.no_fault c.read.ensures.no_such_block in
    let past : length w.run.first ≤ c.args.span.block = omega (arith, none, c.number_of.ensures, counted c.args.self.now w at) in
    (rw (no_block (length w.run.first) c.args.span.block c.args.span.start c.args.span.len past) (ap Refused c.bare.ensures), refl)

pub returns-in_ok-from_slice-in-Some-clause-answer : goal.returns-in_ok-from_slice-in-Some-clause-answer
unfolding IsAnswered
returns-in_ok-from_slice-in-Some-clause-answer c = λ w at.
    let read = on_ok c.read.result _ (sym c.is_err.ensures.value ∙ c.if-is_err.false) c.read.ensures.gives in
    let found = on_disk c.args.self.now w at c.number_of.result c.args.span.block _ c.number_of.ensures read in
    let part = c.in-Some.ensures in
    let whole = found.whole in
    let size = part.0 in
    let fits : c.args.span.start + c.args.span.len ≤ BLOCK = omega (arith, size, whole) in (
      rw (shown (length w.run.first) c.args.span.block c.args.span.start c.args.span.len found.known fits)
          (ap OnDisk (c.in_ok-from_slice-in-Some.ensures ∙ part.1 ∙ ap (λ bytes. bytes_in bytes c.args.span) (sym found.is))),
      refl,
    )

pub returns-in-None-clause-answer : goal.returns-in-None-clause-answer
unfolding IsAnswered
returns-in-None-clause-answer c = λ w at.
    let read = on_ok c.read.result _ (sym c.is_err.ensures.value ∙ c.if-is_err.false) c.read.ensures.gives in
    let found = on_disk c.args.self.now w at c.number_of.result c.args.span.block _ c.number_of.ensures read in
    let whole = found.whole in
    let short = c.in-None.ensures in
    let over : BLOCK < c.args.span.start + c.args.span.len = omega (arith, short, whole) in
    (rw (no_bytes (length w.run.first) c.args.span.block c.args.span.start c.args.span.len found.known over) (ap Refused c.bare-in-None.ensures), refl)
