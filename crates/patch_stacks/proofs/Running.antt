-- What is known of a block's records, once a run of them moved down.
use Rattle.std.proofs.Common.{◌≡◌, ℕ, zero, suc, ◌+◌, ◌-◌, ◌≤◌, ◌∙◌, Bool, false, inl, inr, List, length, get_or, sym, ap, arith}
use Rattle.std.proofs.lemmas.Bool.{cases_lt}
use Rattle.patch_stacks.specs.declared.members.Members.{Members}
use Rattle.patch_stacks.specs.declared.places.Places.{Places}
use Rattle.patch_records.specs.Records.{Class, no_class}
use Rattle.patch_stacks.specs.State.{KnownApart, StandWithin, run_down}
use Rattle.patch_stacks.specs.Members.{in_disorder}
use Rattle.patch_stacks.specs.Places.{spread}
use Rattle.patch_stacks.proofs.Rotating.{length-run_down, run_down-before, run_down-here, run_down-past, run_down-behind}
use Rattle.patch_stacks.proofs.Apart.{moved_apart}
use Rattle.patch_stacks.proofs.Within.{spread_within}

-- where each stood
run-from : (cs : List Class) (front k m i : ℕ) → front ≤ k → k + m ≤ length cs → (j : ℕ) × (get_or (run_down no_class cs front k m) i no_class ≡ get_or cs j no_class)
run-from cs front k m i down within = elim (cases_lt i front) [
  | inl before ↦ (i, run_down-before no_class cs front k m i down within before)
  | inr from ↦ elim (cases_lt i (front + m)) [
    | inl here ↦ (i + (k - front), run_down-here no_class cs front k m i down within from here)
    | inr past ↦ elim (cases_lt i (k + m)) [
      | inl to ↦ (i - m, run_down-past no_class cs front k m i down within past to)
      | inr behind ↦ (i, run_down-behind no_class cs front k m i down within behind)
    ]
  ]
]

pub run-apart : (cs : List Class) (front k m : ℕ) (known : Members) → front ≤ k → k + m ≤ length cs → KnownApart known cs → KnownApart (in_disorder known) (run_down no_class cs front k m)
unfolding run_down
run-apart cs front k zero known down within a = (a.0, a.1, (λ t. absurd (cc)))
run-apart cs front k (suc m) known down within a =
    let l : length (run_down no_class cs front k m) ≡ length cs = length-run_down no_class cs front k m down (omega arith) in
    moved_apart (run_down no_class cs front k m) (front + m) (k + m) (in_disorder known) (omega arith) (omega arith) (run-apart cs front k m known down (omega arith) a)

pub run-within : (q : Class → Bool) → q no_class ≡ false → (cs : List Class) (front k m : ℕ) (p : Places) (n : ℕ) → length cs ≤ n → front ≤ k → k + m ≤ length cs → StandWithin q p cs
    → StandWithin q (spread p n) (run_down no_class cs front k m)
run-within q none cs front k m p n fits down within t =
    let l = length-run_down no_class cs front k m down within in
    spread_within q none cs (run_down no_class cs front k m) p n (omega arith) t (λ i w on. let s = run-from cs front k m i down within in (s.0, ap q (sym s.1) ∙ on))
