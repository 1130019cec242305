use Rattle.patch_history.specs.Closed.{is_move}
use Rattle.patch_history.specs.History.{execution_of, standing_of}
use Rattle.patch_history.proofs.Bridging as bridging
use Rattle.patch_history.proofs.laws.closed_disks_open.Goals as goal

pub returns-clause-moves : goal.returns-clause-moves
returns-clause-moves c = bridging.histories_move c.laws_below.ensures

pub returns-clause-closed : goal.returns-clause-closed
returns-clause-closed c h set l closed =
    c.closed_disks_open.ensures.words (execution_of h) h.first (standing_of h).made set (is_move h)
    (c.histories_are_of_stores.ensures.stores h l) closed (bridging.histories_move c.laws_below.ensures h l)

pub returns-clause-crash : goal.returns-clause-crash
returns-clause-crash c h disk crash l =
    c.crash_disks_open.ensures.words (execution_of h) h.first (standing_of h).made disk crash (is_move h) l.legal
    (c.histories_are_of_stores.ensures.stores h l) (bridging.histories_move c.laws_below.ensures h l)
