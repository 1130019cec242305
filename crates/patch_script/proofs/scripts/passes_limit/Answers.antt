use Rattle.std.proofs.Common.{ℕ, List, length, ap, arith, inl}
use denote.Ref.{Bor}
use Rattle.patch_script.proofs.Cutting.{length-lines_of}
use Rattle.patch_script.proofs.scripts.passes_limit.Goals as goal

pub count-requires-clause-fits : goal.count-requires-clause-fits
count-requires-clause-fits c = inl (omega (arith, length-lines_of c.of.result.0.now, ap (λ (t : Bor (List ℕ)). length t.now) c.of.ensures))
