use Rattle.std.proofs.Common.{◌≡◌, ◌+◌, vec_len, length}
use Rattle.std.specs.Prelude.{sum_by}
use Rattle.patch_shared.proofs.crew.gathered.Given as goal

-- the writers so far, with what they counted
abbrev pub invariant-loop-one : goal.invariant-loop-one
invariant-loop-one g l = (vec_len l.lists ≡ length l.yielded) × (l.all.parts ≡ l.initial.all.parts + length l.yielded) × (l.all.amount ≡ l.initial.all.amount + sum_by (λ list. vec_len list) l.lists.items)
