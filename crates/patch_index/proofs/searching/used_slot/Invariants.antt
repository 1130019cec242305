use Rattle.std.proofs.Common.{◌+◌, ◌-◌, ◌<◌, ◌≤◌, ℕ, length, get_or}
use Rattle.patch_index.proofs.searching.used_slot.Given as goal

-- what is below the low place lies below the slot, and what is from the high place on lies above it
abbrev pub invariant-loop-low : goal.invariant-loop-low
invariant-loop-low l =
    (l.low ≤ l.high) × (l.high ≤ length l.empty)
    × ((i : ℕ) → i < l.low → get_or l.empty i 0 ≤ l.fn.number + i)
    × ((i : ℕ) → l.high ≤ i → i < length l.empty → l.fn.number + i < get_or l.empty i 0)

abbrev pub decreases-loop-low : goal.decreases-loop-low
decreases-loop-low l = l.high - l.low
