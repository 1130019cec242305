use Rattle.patch_store.proofs.laws.closed_disks_open.Goals as goal

pub returns-clause-cached : goal.returns-clause-cached
returns-clause-cached c s h was = c.histories_are_of_stores.ensures.read h was.legal

pub returns-clause-closed : goal.returns-clause-closed
returns-clause-closed c s h set was closed = c.closed_disks_open.ensures.closed h set was.legal closed

pub returns-clause-crash : goal.returns-clause-crash
returns-clause-crash c s h disk crash was = c.closed_disks_open.ensures.crash h disk crash was.legal
