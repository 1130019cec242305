use Rattle.std.proofs.Common.{refl}
use Rattle.patch_links.proofs.Waits.{linked-kept, lower-one}
use Rattle.patch_links.proofs.Passing.{rest-then, changed-rest}
use Rattle.patch_links.proofs.admitting.settle.Goals as goal

pub admit_all-requires-clause-linked : goal.admit_all-requires-clause-linked
admit_all-requires-clause-linked g c = rw c.pay.ensures.changed (linked-kept _ _ _ (changed-rest _ c.args.block _ _ (λ x. refl) c.requires.here).all c.requires.linked)

pub returns-clause-rest : goal.returns-clause-rest
returns-clause-rest g c = rest-then _ _ _ _ (changed-rest _ _ _ _ (λ x. refl) c.requires.here) (rw c.pay.ensures.changed at c.admit_all.ensures.rest)

pub returns-clause-paid : goal.returns-clause-paid
returns-clause-paid g c debt h = c.admit_all.ensures.owed debt (rw c.pay.ensures.changed (lower-one _ _ _ debt h))
