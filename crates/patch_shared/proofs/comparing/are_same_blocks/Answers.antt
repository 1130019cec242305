use Rattle.std.proofs.Common.{[], refl, arith}
use Rattle.std.proofs.lemmas.List.{ext_get_or}
use Rattle.patch_shared.proofs.comparing.are_same_blocks.Goals as goal

pub returns : goal.returns
returns c = (
  λ so. ext_get_or [] c.args.a.now c.args.b.now c.if-a-b.false (λ k less. c.loop-n.invariant k (omega (arith, less, c.loop-n-test.false))),
  λ same. refl,
)
