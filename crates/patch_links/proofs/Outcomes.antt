-- What is told of a call by how it ends.
use Rattle.std.proofs.Common.{Result, Ok, Err}
use Rattle.std.proofs.lemmas.Bool.{false≢true}
use Rattle.std.specs.Prelude.{IsErr, OnOk}

module _ {T E : Type 0} where
  -- a call that is refused tells nothing of what is done
  pub refused-done : (r : Result T E) (P : Type 0) → IsErr r → OnOk r P
  refused-done (Ok x) P is = absurd (false≢true is)
  refused-done (Err e) P is = tt

  -- what holds in any case is told of what is done
  pub done-still : (r : Result T E) (P : Type 0) → P → OnOk r P
  done-still (Ok x) P h = h
  done-still (Err e) P h = tt

  -- and so is what follows from what is told
  pub done-so : (r : Result T E) (P Q : Type 0) → OnOk r P → (P → Q) → OnOk r Q
  done-so (Ok x) P Q h so = so h
  done-so (Err e) P Q h so = tt
