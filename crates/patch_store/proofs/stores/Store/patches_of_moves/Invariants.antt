use Rattle.std.proofs.Common.{◌≡◌, ℕ, ◌≤◌, ◌*◌, drop}
use Rattle.patch_history.specs.Choosing.{live_frames}
use Rattle.patch_history.specs.History.{History, standing_of}
use Rattle.patch_store.specs.Meaning.{IsStoreOf}
use Rattle.patch_store.specs.Moving.{live_slots}
use Rattle.patch_store.proofs.Summed.{AreTried}
use Rattle.patch_store.proofs.stores.Store.patches_of_moves.Given as goal

-- the frames so far were tried
abbrev pub invariant-loop-at : goal.invariant-loop-at
invariant-loop-at g l = (l.count ≤ 66 * l.at)
    × ((h : History) (extent : ℕ) → IsStoreOf l.self h → l.live ≡ live_slots l.self.shelf extent
    → AreTried (standing_of h) extent (drop l.at (live_frames (standing_of h).shelf extent)) l.count l.trial)
