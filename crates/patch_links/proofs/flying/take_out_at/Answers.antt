use Rattle.std.proofs.Common.{refl}
use Rattle.patch_links.proofs.Flights.{owing-out, ready-of}
use Rattle.patch_links.proofs.Passing.{rest-then, changed-rest}
use Rattle.patch_links.proofs.flying.take_out_at.Goals as goal

pub returns-clause-rest : goal.returns-clause-rest
returns-clause-rest g c = rest-then _ _ _ _ (changed-rest _ _ _ _ (λ x. refl) (ready-of c.args.block c.args.nodes.now.slots c.args.key c.requires.here)) (rw c.take_ready.ensures at c.raise_all.ensures.rest)

pub returns-clause-marks : goal.returns-clause-marks
returns-clause-marks g c = rw c.take_ready.ensures at c.raise_all.ensures.marks

pub returns-clause-counted : goal.returns-clause-counted
returns-clause-counted g c = (rw c.take_ready.ensures at c.raise_all.ensures.counted) (owing-out c.args.nodes.now.slots c.args.keys.now.numbers c.args.key c.args.block c.requires.here c.requires.linked c.requires.counted)
