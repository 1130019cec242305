-- Sets that are taken in permitted orders.
use Rattle.std.proofs.Common.{ℕ, List, [], ◌∷◌, fold}
use Rattle.patch_model.specs.History.{History, Move, HoldsDependents, moved, IsPermitted}

pub none_taken : (h : History) → HoldsDependents h []
none_taken h = record { undoable = λ c t. absurd (cc); dependents = λ e f i j live d t. absurd (cc) }

-- they hold their dependents
pub permitted : (h : History) (names : List ℕ) (moves : List Move) → HoldsDependents h names → IsPermitted h names moves → HoldsDependents h (fold moved names moves)
permitted h names [] holds p = holds
permitted h names (m ∷ ms) holds p = permitted h (moved names m) ms p.1 p.2
