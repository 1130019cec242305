use Rattle.patch_disks.proofs.surveying.entries_on.Goals as goal

pub returns-clause-entries : goal.returns-clause-entries
returns-clause-entries c =
    let opened = c.in_ok-store.ensures.opened in
    record { ledger = opened.ledger; reads = opened.reads; entries_are = (c.in_ok-report.ensures.entries _ opened.represents).listed }
