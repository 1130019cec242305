use Rattle.std.proofs.Common.{◌≡◌, ◌∙◌, [], map, replicate, ap, arith}
use Rattle.std.proofs.lemmas.Result.{IfOk-from_err}
use Rattle.patch_store.proofs.Wholes.{none_more}
use Rattle.patch_store.proofs.opening.none_left.Goals as goal

pub returns-in_err-left : goal.returns-in_err-left
returns-in_err-left g c = IfOk-from_err c.from_residual.result _ c.from_residual.ensures.0

pub loop-init : goal.loop-init
loop-init g c = ap (map (λ v. v.items)) c.in_ok-left.ensures.items

pub returns-in_err-push : goal.returns-in_err-push
returns-in_err-push g c = IfOk-from_err c.from_residual-in_err-push.result _ c.from_residual-in_err-push.ensures.0

pub loop-smaller : goal.loop-smaller
loop-smaller g c = let less = c.loop-test.true in omega (arith, less)

pub loop-preserved : goal.loop-preserved
loop-preserved g c =
    none_more (λ v. v.items) c.loop.left.items c.push.new.self.items c.new.result c.loop.counter c.in_ok-push.ensures.items c.new.ensures.items c.loop.invariant

pub returns : goal.returns
returns g c =
    let last : c.loop.counter ≡ c.args.extents = let done = c.loop-test.false in let few = c.loop.auto.counter-end in omega (arith, done, few) in
    c.loop.invariant ∙ ap (λ n. replicate n []) last
