use Rattle.std.proofs.Common.{sym, subst}
use Rattle.patch_model.specs.Crash.{crash_set}
use Rattle.patch_model.specs.State.{entries_of}
use Rattle.patch_recovery.specs.Said.{last_said, last_word_kept}
use Rattle.patch_recovery.specs.Closed.{Opens, in_set, ledger_of}
use Rattle.patch_recovery.proofs.laws.crash_disks_open.Goals as goal

pub returns-clause-open : goal.returns-clause-open
returns-clause-open c run first made disk left legal store =
    let closed = c.crash_sets_are_closed.ensures.closed run left.landed legal in
    let told = last_said (in_set (entries_of run) (crash_set left.landed)) first made in
    subst (λ d. Opens d (ledger_of run (crash_set left.landed) first made) told) (sym left.disk_is)
    (c.closed_disks_open.ensures.open run first made (crash_set left.landed) store closed)

pub returns-clause-words : goal.returns-clause-words
returns-clause-words c run first made disk left moves legal store are =
    let closed = c.crash_sets_are_closed.ensures.closed run left.landed legal in
    let told = last_word_kept (in_set (entries_of run) (crash_set left.landed)) moves first made in
    subst (λ d. Opens d (ledger_of run (crash_set left.landed) first made) told) (sym left.disk_is)
    (c.closed_disks_open.ensures.words run first made (crash_set left.landed) moves store closed are)
