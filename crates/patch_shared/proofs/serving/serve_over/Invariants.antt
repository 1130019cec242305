use Rattle.patch_shared.proofs.serving.serve_over.Given as goal

abbrev pub ghosts-run_book-C-Ledger : goal.ghosts-run_book-C-Ledger
ghosts-run_book-C-Ledger g a = record { name = a.blanks.0.name; parts = a.blanks.0.parts }

abbrev pub ghosts-run_book-S-Ledger : goal.ghosts-run_book-S-Ledger
ghosts-run_book-S-Ledger g a = record { name = a.blanks.1.name; parts = a.blanks.1.parts }

abbrev pub ghosts-run_book-T-Ledger : goal.ghosts-run_book-T-Ledger
ghosts-run_book-T-Ledger g a = record { name = a.blanks.2.name; parts = a.blanks.2.parts }
