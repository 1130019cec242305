use Rattle.patch_graph.proofs.Places.{done-if}
use Rattle.patch_graph.proofs.Rooms.{upto_both, below_both}
use Rattle.patch_graph.proofs.scratch.Scratch.grow.Goals as goal

pub invariant_of-self : goal.invariant_of-self
invariant_of-self g c =
    let was = c.self.invariant in
    (upto_both _ _ _ was.0 c.lengthen_queue.ensures.kept, was.1, was.2, was.3, was.4)

pub returns-in_err-lengthen_queue-clause-enough : goal.returns-in_err-lengthen_queue-clause-enough
returns-in_err-lengthen_queue-clause-enough g c = done-if _ _ c.from_residual.ensures.0

pub invariant_of-self-in_err-lengthen_queue-2 : goal.invariant_of-self-in_err-lengthen_queue-2
invariant_of-self-in_err-lengthen_queue-2 g c =
    let was = c.self.invariant in
    (upto_both _ _ _ was.0 c.lengthen_queue.ensures.kept, was.1, upto_both _ _ _ was.2 c.lengthen_queue-2.ensures.kept, was.3, was.4)

pub returns-in_err-lengthen_queue-2-clause-enough : goal.returns-in_err-lengthen_queue-2-clause-enough
returns-in_err-lengthen_queue-2-clause-enough g c = done-if _ _ c.from_residual-in_err-lengthen_queue-2.ensures.0

pub invariant_of-self-in_err-lengthen : goal.invariant_of-self-in_err-lengthen
invariant_of-self-in_err-lengthen g c =
    let was = c.self.invariant in (
      upto_both _ _ _ was.0 c.lengthen_queue.ensures.kept,
      upto_both _ _ _ was.1 c.lengthen.ensures.kept,
      below_both _ _ _ _ c.lengthen.ensures.bounded (upto_both _ _ _ was.2 c.lengthen_queue-2.ensures.kept) c.in_ok-lengthen_queue-2.ensures.enough,
      was.3,
      c.lengthen.ensures.clear was.4,
    )

pub returns-in_err-lengthen-clause-enough : goal.returns-in_err-lengthen-clause-enough
returns-in_err-lengthen-clause-enough g c = done-if _ _ c.from_residual-in_err-lengthen.ensures.0

pub invariant_of-self-2 : goal.invariant_of-self-2
invariant_of-self-2 g c =
    let was = c.self.invariant in (
      below_both _ _ _ _ c.lengthen-2.ensures.bounded (upto_both _ _ _ was.0 c.lengthen_queue.ensures.kept) c.in_ok-lengthen_queue.ensures.enough,
      below_both _ _ _ _ c.lengthen-2.ensures.bounded (upto_both _ _ _ was.1 c.lengthen.ensures.kept) c.in_ok-lengthen.ensures.enough,
      below_both _ _ _ _ c.lengthen.ensures.bounded (upto_both _ _ _ was.2 c.lengthen_queue-2.ensures.kept) c.in_ok-lengthen_queue-2.ensures.enough,
      c.lengthen-2.ensures.clear was.3,
      c.lengthen.ensures.clear was.4,
    )
