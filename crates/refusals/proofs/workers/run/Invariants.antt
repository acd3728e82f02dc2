use Rattle.refusals.proofs.workers.run.Given as goal

-- the machine's own layout, and the ledgers that were just made
abbrev pub ghosts-run_scripts-L-Job : goal.ghosts-run_scripts-L-Job
ghosts-run_scripts-L-Job g a =
    record { layout = a.machine.layout; sealed = a.sealed.name; fulls = a.fulls.name }

abbrev pub ghosts-run_scripts-L-Ledger : goal.ghosts-run_scripts-L-Ledger
ghosts-run_scripts-L-Ledger g a = record { name = a.records.name; parts = a.records.parts }
