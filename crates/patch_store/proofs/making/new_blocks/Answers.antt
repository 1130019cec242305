use Rattle.std.proofs.Common.{◌≡◌, ◌-◌, ◌∙◌, ◌++◌, ◌∷◌, [], replicate, ap, arith}
use Rattle.std.proofs.lemmas.List.{replicate_more}
use Rattle.std.proofs.lemmas.Result.{IfOk-from_err}
use Rattle.patch_frame.specs.Geometry.{block_count}
use Rattle.patch_frame.specs.Superblock.{spelling}
use Rattle.patch_store.proofs.making.new_blocks.Goals as goal

pub returns-in_err-blocks : goal.returns-in_err-blocks
returns-in_err-blocks g c = IfOk-from_err c.from_residual.result _ c.from_residual.ensures.0

pub write_superblock-requires : goal.write_superblock-requires
write_superblock-requires g c = c.requires

pub returns-in_err-write_superblock : goal.returns-in_err-write_superblock
returns-in_err-write_superblock g c =
    IfOk-from_err c.from_residual-in_err-write_superblock.result _ c.from_residual-in_err-write_superblock.ensures.0

pub returns-in_err-push : goal.returns-in_err-push
returns-in_err-push g c = IfOk-from_err c.from_residual-in_err-push.result _ c.from_residual-in_err-push.ensures.0

pub overflow_sub-end : goal.overflow_sub-end
overflow_sub-end g c = let count = c.block_count-count.ensures in omega (arith, count)

pub loop-init : goal.loop-init
loop-init g c =
    c.in_ok-push.ensures.items ∙ ap (λ xs. xs ++ c.in_ok-write_superblock.field-0 ∷ []) c.in_ok-blocks.ensures.items ∙ ap (λ x. x ∷ []) c.in_ok-write_superblock.ensures

pub returns-in_err-zeros : goal.returns-in_err-zeros
returns-in_err-zeros g c = IfOk-from_err c.from_residual-in_err-zeros.result _ c.from_residual-in_err-zeros.ensures.0

pub returns-in_err-push-2 : goal.returns-in_err-push-2
returns-in_err-push-2 g c = IfOk-from_err c.from_residual-in_err-push-2.result _ c.from_residual-in_err-push-2.ensures.0

pub loop-smaller : goal.loop-smaller
loop-smaller g c = let less = c.loop-test.true in omega (arith, less)

pub loop-preserved : goal.loop-preserved
loop-preserved g c =
    c.in_ok-push-2.ensures.items ∙ ap (λ xs. xs ++ c.in_ok-zeros.field-0 ∷ []) c.loop.invariant
    ∙ ap (λ z. (spelling c.args.geometry ∷ replicate c.loop.counter (replicate 4096 0)) ++ z ∷ []) c.in_ok-zeros.ensures
    ∙ ap (λ xs. spelling c.args.geometry ∷ xs) (replicate_more c.loop.counter (replicate 4096 0))

pub returns : goal.returns
returns g c =
    let last : c.loop.counter ≡ block_count c.args.geometry - 1 =
    let done = c.loop-test.false in let few = c.loop.auto.counter-end in let count = c.block_count-count.ensures in omega (arith, done, few, count) in
    c.loop.invariant ∙ ap (λ n. spelling c.args.geometry ∷ replicate n (replicate 4096 0)) last
