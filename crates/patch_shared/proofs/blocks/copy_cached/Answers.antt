use Rattle.std.proofs.Common.{◌≡◌, ◌<◌, ◌∙◌, length, map, ap, arith}
use Rattle.std.specs.List.{range_with_len}
use Rattle.std.proofs.lemmas.Result.{IfOk-from_err}
use Rattle.patch_model.specs.History.{cached, history_of}
use Rattle.patch_shared.proofs.Lengths.{copied_more}
use Rattle.patch_shared.proofs.blocks.copy_cached.Goals as goal

pub loop-n-init : goal.loop-n-init
loop-n-init g c run stands = c.new-blocks.ensures.items

pub returns-in_err-copy_block : goal.returns-in_err-copy_block
returns-in_err-copy_block g c run stands = IfOk-from_err c.from_residual.result _ c.from_residual.ensures.0

pub loop-n-preserved : goal.loop-n-preserved
loop-n-preserved g c run stands =
    let there : c.loop-n.n < length run.first = let less = c.loop-n-test.true in let count = c.blocks-n-end.ensures.answer run stands in omega (arith, less, count) in
    c.in_ok-push.ensures.items ∙ copied_more (λ n. cached (history_of run n)) c.loop-n.blocks.items c.loop-n.n c.in_ok-copy_block.field-0
    (c.loop-n.invariant run stands) (c.in_ok-copy_block.ensures ∙ c.in-Some.ensures run stands there)

pub returns : goal.returns
returns g c run stands =
    let last : c.loop-n.n ≡ length run.first =
    let done = c.loop-n-test.false in let few = c.loop-n.auto.n-end in let count = c.blocks-n-end.ensures.answer run stands in omega (arith, done, few, count) in
    c.loop-n.invariant run stands ∙ ap (λ n. map (λ block. cached (history_of run block)) (range_with_len 0 n)) last
