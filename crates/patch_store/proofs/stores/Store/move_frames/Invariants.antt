use Rattle.std.proofs.Common.{ℕ, take}
use Rattle.patch_history.specs.Choosing.{live_frames}
use Rattle.patch_history.specs.History.{History, standing_of}
use Rattle.patch_store.specs.Moving.{IsReclaiming, HaveMoved}
use Rattle.patch_store.proofs.stores.Store.move_frames.Given as goal

-- the frames of so many first slots have moved
abbrev pub invariant-loop-at : goal.invariant-loop-at
invariant-loop-at g l =
    (h : History) (extent : ℕ) → IsReclaiming h extent l.slots l.fn.self
    → HaveMoved h (take l.at (live_frames (standing_of h).shelf extent)) l.fn.self l.self
