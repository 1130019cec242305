use Rattle.std.proofs.Common.{◌++◌, ◌∷◌, ◌∙◌, [], ap, sym, append_assoc, refl}
use Rattle.patch_replay.proofs.Leading.{at_first, one_more_line, begun, stopped_first}
use Rattle.patch_replay.proofs.replaying.write_answers.Goals as goal

pub loop-line-init : goal.loop-line-init
loop-line-init g c = (tt, tt, refl, λ w at. ([], c.into_iter-line-iterator.ensures.into_iter_gives.0, at_first w (g.C.Core.IsAt c.args.core.now) (g.W.Write.contents c.args.writer.now.inner) at))

pub loop-line-preserved : goal.loop-line-preserved
loop-line-preserved g c = (
  tt,
  tt,
  c.in_ok-write_all.ensures.noted ∙ c.loop-line.invariant.2,
  λ w at.
      let before = c.loop-line.invariant.3 w at in
      let said = c.in_ok-text.ensures _ before.2.at in (
        before.0 ++ c.in-Some.line ∷ [],
        append_assoc before.0 (c.in-Some.line ∷ []) _ ∙ ap (λ xs. before.0 ++ xs) (sym c.in-Some.ensures.steps.0) ∙ before.1,
        one_more_line w before.0 c.in-Some.line _ _ _ _ _ _ _ c.as_bytes.ensures.value before.2 said c.in_ok-write_all.ensures.bytes,
      ),
)

pub returns-in_err-text-clause-stopped : goal.returns-in_err-text-clause-stopped
returns-in_err-text-clause-stopped g c = λ w at.
    let before = c.loop-line.invariant.3 w at in
    stopped_first _ w c.args.lines.items _ _ (begun w before.0 _ c.args.lines.items (g.C.Core.IsAt c.loop-line.core) _ _ before.1 before.2)
